use mathlib.Core.Path.{◌≡◌}
use mathlib.Core.Bool.{true}
use Rattle.laws.specs.Fold.{all_below}
use Rattle.judge_tiers.specs.Marking.{marked_at}
use Rattle.judge_tiers.proofs.all_marked.Given as goal

abbrev pub invariant-loop-offset : goal.invariant-loop-offset
invariant-loop-offset l = all_below (marked_at l.words l.clauses l.t) l.offset-index ≡ true
