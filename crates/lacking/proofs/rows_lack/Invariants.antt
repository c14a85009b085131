use mathlib.Core.Path.{◌≡◌}
use mathlib.Core.Bool.{false}
use Rattle.laws.specs.Fold.{any_below}
use Rattle.kinds.specs.Layout.{rows_of}
use Rattle.lacking.specs.Lacks.{row_lacks}
use Rattle.lacking.proofs.rows_lack.Given as goal

abbrev pub invariant-loop-c : goal.invariant-loop-c
invariant-loop-c l = any_below (row_lacks l.values (rows_of l.room l.counts l.rows)) l.c ≡ false
