use Rattle.std.proofs.Common.{◌≡◌}
use Rattle.laws.specs.Fold.{sum_below}
use Rattle.calls.specs.StorePasses.{row_length}
use Rattle.judge_rows.specs.Held.{held}
use Rattle.judge_rows.proofs.Rows.entries.Given as goal

abbrev pub invariant-loop-c : goal.invariant-loop-c
invariant-loop-c l = l.total ≡ sum_below (row_length (held l.self)) l.c
