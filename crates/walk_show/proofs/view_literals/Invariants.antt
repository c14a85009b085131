use Rattle.walk_text.specs.Page.{SameSlice}
use Rattle.walk_show.proofs.view_literals.Given as goal

abbrev pub invariant-loop-place : goal.invariant-loop-place
invariant-loop-place l = SameSlice l.fn.page.bytes l.page.bytes
