use Rattle.judge_rows.proofs.Numbering.{left_all, left_some, left_more, left_none}
use Rattle.std.proofs.Common.{arith}
use Rattle.judge_rows.proofs.uncount.Goals as goal

pub loop-b-init : goal.loop-b-init
loop-b-init c = left_all _ _ c.requires.1

pub overflow_sub-times : goal.overflow_sub-times
overflow_sub-times c = left_some _ _ _ c.loop-b.invariant c.loop-b-test.true

pub loop-b-preserved : goal.loop-b-preserved
loop-b-preserved c = left_more _ _ _ c.loop-b.invariant (c.requires.0.each _ c.loop-b-test.true) (left_some _ _ _ c.loop-b.invariant c.loop-b-test.true)

pub returns : goal.returns
returns c = left_none _ _ _ c.loop-b.invariant (omega arith)
