use Rattle.store_kinds.proofs.Told.{units_told}
use Rattle.store.proofs.mihorempo_prove_units.Goals as goal

pub returns : goal.returns
returns c = units_told c.proved.ensures.0 c.proved.ensures.1 c.proved.ensures.2 c.proved.ensures.3 c.prove_units-reply.ensures
