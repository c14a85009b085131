use mathlib.Core.Path.{refl, sym, ◌∙◌}
use Rattle.laws.proofs.Folds.{fold_none, fold_next, fold_end}
use Rattle.judge_tiers.specs.Marking.{mark_entry, marks}
use Rattle.judge_tiers.proofs.mark_all.Goals as goal

pub loop-e-init : goal.loop-e-init
loop-e-init c = (refl, sym (fold_none _ _))

pub loop-e-preserved : goal.loop-e-preserved
unfolding mark_entry
loop-e-preserved c = (c.mark_at.auto.words ∙ c.loop-e.invariant.0, fold_next _ _ _ c.loop-e.invariant.1 c.mark_at.ensures)

pub returns : goal.returns
unfolding marks
returns c = fold_end _ _ _ _ c.loop-e.invariant.1 c.loop-e.auto.e-index-end c.loop-e-test.false
