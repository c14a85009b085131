use Rattle.judge_rows.specs.Sparse.{TimesLeft}
use Rattle.judge_rows.proofs.uncount.Given as goal

abbrev pub invariant-loop-b : goal.invariant-loop-b
invariant-loop-b l = TimesLeft l.row l.b-index l.times
