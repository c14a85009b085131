use Rattle.store_kinds.proofs.Told.{told}
use Rattle.store.proofs.mihorempo_reduce_locals.Goals as goal

pub returns : goal.returns
returns c = told c.changed.ensures.0 c.changed.ensures.1 c.changed.ensures.2 c.reduce_locals-reply.ensures
