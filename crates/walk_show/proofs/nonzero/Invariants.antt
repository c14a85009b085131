use Rattle.std.proofs.Common.{◌≤◌}
use Rattle.walk_show.proofs.nonzero.Given as goal

abbrev pub invariant-loop-x : goal.invariant-loop-x
invariant-loop-x l = l.n ≤ l.x-index
