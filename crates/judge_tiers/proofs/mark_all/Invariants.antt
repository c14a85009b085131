use mathlib.Core.Path.{◌≡◌}
use lib.ListN.{length}
use Rattle.laws.specs.Fold.{fold_below}
use Rattle.judge_tiers.specs.Marking.{mark_entry}
use Rattle.judge_tiers.proofs.mark_all.Given as goal

abbrev pub invariant-loop-e : goal.invariant-loop-e
invariant-loop-e l = (length l.words ≡ length l.initial.words) × (l.words ≡ fold_below (mark_entry l.clauses (length l.clauses) l.list) l.initial.words l.e-index)
