-- The test on the buffers is the test on what is held. Assumes nothing.
use mathlib.Core.Path.{◌≡◌, refl}
use Prim.Native.Nat.{ℕ}
use Rattle.kinds.specs.Held.{Held, asserting}
use Rattle.asserting.specs.Reads.{asserting_in}

pub asserting_held : (h : Held) (o : ℕ) → asserting_in h.words h.host.values h.host.kinds h.host.reasons o ≡ asserting h o
unfolding asserting_in asserting
asserting_held h o = refl
