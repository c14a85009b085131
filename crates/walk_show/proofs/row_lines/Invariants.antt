use Rattle.walk_text.specs.Page.{SameSlice}
use Rattle.walk_show.proofs.row_lines.Given as goal

abbrev pub invariant-loop-code : goal.invariant-loop-code
invariant-loop-code l = SameSlice l.fn.page.bytes l.page.bytes
