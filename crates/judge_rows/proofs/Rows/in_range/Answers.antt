use Rattle.laws.proofs.Folds.{all_none, all_end}
use Rattle.laws.proofs.Chains.{all_stop, all_pass}
use Rattle.calls.specs.StorePasses.{rows_in_range}
use Rattle.judge_rows.proofs.Ways.{row_in_range_is}
use Rattle.judge_rows.proofs.Rows.in_range.Goals as goal

pub loop-c-init : goal.loop-c-init
loop-c-init c = all_none _

pub returns-then-not-row_in_range : goal.returns-then-not-row_in_range
unfolding rows_in_range
returns-then-not-row_in_range c = all_stop _ _ _ c.loop-c-test.true (row_in_range_is _ _ _ c.row.ensures c.row_in_range.ensures) c.if-not-row_in_range.true

pub loop-c-preserved : goal.loop-c-preserved
loop-c-preserved c = all_pass _ _ c.loop-c.invariant (row_in_range_is _ _ _ c.row.ensures c.row_in_range.ensures) c.if-not-row_in_range.false

pub returns : goal.returns
unfolding rows_in_range
returns c = all_end _ _ _ c.loop-c.invariant c.loop-c.auto.c-end c.loop-c-test.false
