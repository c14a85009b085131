use Rattle.store_kinds.proofs.Told.{assessed_told}
use Rattle.store.proofs.mihorempo_assess_learned_clause.Goals as goal

pub returns : goal.returns
returns c = assessed_told c.assessed.ensures.0 c.assessed.ensures.1 c.assessed.ensures.2 c.assess_learned_clause-reply.ensures
