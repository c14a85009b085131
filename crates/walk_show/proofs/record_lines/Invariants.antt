use Rattle.std.proofs.Common.{◌-◌, ◌≤◌, length}
use Rattle.walk_text.specs.Page.{SameSlice}
use Rattle.walk_show.proofs.record_lines.Given as goal

abbrev pub invariant-loop-i : goal.invariant-loop-i
invariant-loop-i l = (l.i ≤ length l.rec) × SameSlice l.fn.page.bytes l.page.bytes

abbrev pub decreases-loop-i : goal.decreases-loop-i
decreases-loop-i l = length l.rec - l.i
