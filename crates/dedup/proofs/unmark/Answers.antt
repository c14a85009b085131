use Rattle.std.proofs.Common.{arith}
use Rattle.dedup.proofs.Marking.{unmark_step, unmark_end}
use Rattle.dedup.proofs.unmark.Goals as goal

pub loop-r-preserved : goal.loop-r-preserved
loop-r-preserved c = unmark_step _ _ _ _ c.requires c.loop-r.invariant (omega arith) _ c.with_mark.ensures

pub returns : goal.returns
returns c = unmark_end _ _ _ _ c.loop-r.invariant (omega arith)
