use mathlib.Core.Path.{◌≡◌}
use Rattle.laws.specs.Fold.{fold_below}
use Rattle.judge_tiers.specs.Marking.{clear_at}
use Rattle.judge_tiers.proofs.clear_all.Given as goal

abbrev pub invariant-loop-offset : goal.invariant-loop-offset
invariant-loop-offset l = l.words ≡ fold_below (clear_at l.clauses) l.initial.words l.offset-index
