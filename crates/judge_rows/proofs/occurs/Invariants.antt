use Rattle.std.proofs.Common.{◌≡◌, eqb, take, count_by}
use Rattle.judge_rows.proofs.occurs.Given as goal

abbrev pub invariant-loop-b : goal.invariant-loop-b
invariant-loop-b l = l.times ≡ count_by (λ y. eqb y l.x) (take l.b-index l.row)
