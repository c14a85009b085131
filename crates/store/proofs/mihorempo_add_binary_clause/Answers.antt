use Rattle.store_kinds.proofs.Told.{told}
use Rattle.store.proofs.mihorempo_add_binary_clause.Goals as goal

pub returns : goal.returns
returns c = told c.plain.ensures.0 c.plain.ensures.1 c.plain.ensures.2 c.add_binary_clause-reply.ensures
