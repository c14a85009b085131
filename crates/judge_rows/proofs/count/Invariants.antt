use Rattle.judge_rows.specs.Sparse.{Times}
use Rattle.judge_rows.proofs.count.Given as goal

abbrev pub invariant-loop-b : goal.invariant-loop-b
invariant-loop-b l = Times l.row l.b-index l.times
