use Rattle.kinds.specs.Held.{Held}
use Rattle.reduce_steps.proofs.Sweeping.{Sweep, Begun}
use Rattle.reduce_steps.proofs.mids.Given as goal

abbrev pub invariant-loop-i : goal.invariant-loop-i
invariant-loop-i l = (h : Held) → Begun h l.n l.initial.mid l.initial.local l.initial.words l.initial.counts l.initial.locals → Sweep h l.n l.initial.mid l.initial.local l.words l.mid l.local l.counts l.i l.kept l.locals
