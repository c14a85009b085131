use Rattle.store_kinds.proofs.Told.{place_told}
use Rattle.store.proofs.mihorempo_view_literal.Goals as goal

pub returns : goal.returns
returns c = λ k. place_told c.place_shown.ensures.0 c.place_shown.ensures.1 (c.view_literal-reply.ensures k)
