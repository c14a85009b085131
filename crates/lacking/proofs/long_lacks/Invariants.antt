use mathlib.Core.Path.{◌≡◌}
use mathlib.Core.Bool.{false}
use Rattle.laws.specs.Fold.{any_below}
use Rattle.lacking.specs.Lacks.{long_lacks}
use Rattle.lacking.proofs.long_lacks.Given as goal

abbrev pub invariant-loop-clause : goal.invariant-loop-clause
invariant-loop-clause l = any_below (long_lacks l.values l.words l.clauses) l.clause-index ≡ false
