use mathlib.Core.Path.{◌≡◌}
use Prim.Native.Nat.{◌+◌, ◌≤◌}
use lib.ListN.{length}
use Rattle.prove_units.specs.Units.{trail_lines}
use Rattle.prove_units.proofs.lines_fit.Given as goal

abbrev pub invariant-loop-lit : goal.invariant-loop-lit
invariant-loop-lit l = (l.recorded ≡ l.initial.recorded + length (trail_lines l.words l.kinds l.reasons l.trail l.lit-index)) × (l.recorded ≤ l.cap)
