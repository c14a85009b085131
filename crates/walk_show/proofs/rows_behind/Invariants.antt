use Rattle.std.proofs.Common.{◌+◌, ◌≤◌, length}
use Rattle.walk_show.proofs.rows_behind.Given as goal

abbrev pub invariant-loop-count : goal.invariant-loop-count
invariant-loop-count l = l.n + length l.rest ≤ length l.rows
