use Rattle.kinds.specs.Held.{Held}
use Rattle.reduce_steps.proofs.Purging.{Purge, Begun}
use Rattle.reduce_steps.proofs.locals.Given as goal

abbrev pub invariant-loop-i : goal.invariant-loop-i
invariant-loop-i l = (h : Held) → Begun h l.n l.initial.local l.initial.rec l.initial.words l.initial.counts l.initial.recorded l.initial.garbage l.half l.host.values.now l.host.kinds.now l.host.reasons.now → Purge h l.n l.initial.local l.initial.rec l.words l.local l.rec l.counts l.i l.kept l.recorded l.garbage l.left
