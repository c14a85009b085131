use Rattle.std.proofs.Common.{arith}
use Rattle.reduce_refusals.proofs.Going.{bounds_start, bounds_end}
use Rattle.reduce_refusals.proofs.bisect.Goals as goal

pub loop-high-init : goal.loop-high-init
loop-high-init c = bounds_start c.requires.half_bound.0

pub loop-high-preserved-then-found-half : goal.loop-high-preserved-then-found-half
loop-high-preserved-then-found-half c = let i = c.loop-high.invariant in record { order = omega arith; most = i.most; below = omega (arith, c.tally-found.ensures.0); above = i.above }

pub loop-high-preserved : goal.loop-high-preserved
loop-high-preserved c = let i = c.loop-high.invariant in record { order = omega arith; most = omega arith; below = i.below; above = omega (arith, c.tally-found.ensures.0) }

pub returns : goal.returns
returns c = bounds_end c.loop-high.invariant c.loop-high-test.false c.requires.half_bound.1
