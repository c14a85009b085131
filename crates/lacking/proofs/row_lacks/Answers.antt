use mathlib.Core.Path.{◌∙◌}
use Rattle.laws.proofs.Folds.{any_none}
use Rattle.lacking.proofs.Looking.{none_next, some_out}
use Rattle.lacking.proofs.Found.{pair_is}
use Rattle.lacking.proofs.row_lacks.Goals as goal

pub loop-other-init : goal.loop-other-init
loop-other-init c = any_none _

pub returns-then-lacks : goal.returns-then-lacks
returns-then-lacks c = some_out _ _ _ c.loop-other-test.true (pair_is _ _ _ _ c.negated-negated.ensures c.lacks.ensures ∙ c.if-lacks.true)

pub loop-other-preserved : goal.loop-other-preserved
loop-other-preserved c = none_next _ _ c.loop-other.invariant (pair_is _ _ _ _ c.negated-negated.ensures c.lacks.ensures ∙ c.if-lacks.false)
