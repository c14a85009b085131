use Rattle.prove_units.proofs.Trail.{Proving}
use Rattle.prove_units.proofs.prove_trail.Given as goal

abbrev pub invariant-loop-lit : goal.invariant-loop-lit
invariant-loop-lit l = Proving l.words l.initial.kinds l.initial.reasons l.trail l.initial.rec l.initial.recorded l.lit-index l.recorded l.rec l.kinds l.reasons
