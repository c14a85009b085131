use mathlib.Core.Path.{◌≡◌}
use mathlib.Core.Bool.{false}
use Rattle.laws.specs.Fold.{any_below}
use Rattle.lacking.specs.Lacks.{pair_lacks}
use Rattle.lacking.proofs.row_lacks.Given as goal

abbrev pub invariant-loop-other : goal.invariant-loop-other
invariant-loop-other l = any_below (pair_lacks l.values l.code l.row) l.other-index ≡ false
