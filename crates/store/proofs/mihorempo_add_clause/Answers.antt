use Rattle.store_kinds.proofs.Told.{told}
use Rattle.store.proofs.mihorempo_add_clause.Goals as goal

pub returns : goal.returns
returns c = told c.added.ensures.0 c.added.ensures.1 c.added.ensures.2 c.add_clause-reply.ensures
