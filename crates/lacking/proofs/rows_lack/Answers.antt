use mathlib.Core.Path.{◌∙◌}
use Rattle.laws.proofs.Folds.{any_none}
use Rattle.lacking.proofs.Looking.{none_next, some_out}
use Rattle.lacking.proofs.Found.{row_is}
use Rattle.lacking.proofs.rows_lack.Goals as goal

pub loop-c-init : goal.loop-c-init
loop-c-init c = any_none _

pub returns-then-row_lacks : goal.returns-then-row_lacks
returns-then-row_lacks c = some_out _ _ _ c.loop-c-test.true (row_is _ _ _ c.implied-row.ensures c.row_lacks.ensures ∙ c.if-row_lacks.true)

pub loop-c-preserved : goal.loop-c-preserved
loop-c-preserved c = none_next _ _ c.loop-c.invariant (row_is _ _ _ c.implied-row.ensures c.row_lacks.ensures ∙ c.if-row_lacks.false)
