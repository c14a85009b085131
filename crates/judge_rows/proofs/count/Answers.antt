use Rattle.std.proofs.Common.{arith}
use Rattle.laws.specs.Lists.{at}
use Rattle.judge_rows.proofs.Numbering.{times_few, times_more}
use Rattle.judge_rows.proofs.count.Goals as goal

pub overflow_add-times : goal.overflow_add-times
overflow_add-times c = let few = times_few _ _ _ c.loop-b.invariant (at c.args.row.now c.loop-b.b-index) in omega (arith, c.requires.0.few)

pub loop-b-preserved : goal.loop-b-preserved
loop-b-preserved c = times_more _ _ _ c.loop-b.invariant (c.requires.0.each _ (omega arith))
