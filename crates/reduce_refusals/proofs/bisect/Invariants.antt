use Prim.Native.Nat.{◌-◌}
use Rattle.reduce_refusals.proofs.Going.{Between}
use Rattle.reduce_refusals.proofs.bisect.Given as goal

abbrev pub invariant-loop-high : goal.invariant-loop-high
invariant-loop-high l = Between l.words l.host.values.now l.host.kinds.now l.host.reasons.now l.clauses l.n l.half l.low l.high

abbrev pub decreases-loop-high : goal.decreases-loop-high
decreases-loop-high l = l.high - l.low
