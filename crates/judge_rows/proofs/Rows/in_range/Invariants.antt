use Rattle.std.proofs.Common.{◌≡◌, true}
use Rattle.laws.specs.Fold.{all_below}
use Rattle.calls.specs.StorePasses.{row_in_range}
use Rattle.judge_rows.specs.Held.{held}
use Rattle.judge_rows.proofs.Rows.in_range.Given as goal

abbrev pub invariant-loop-c : goal.invariant-loop-c
invariant-loop-c l = all_below (row_in_range (held l.self)) l.c ≡ true
