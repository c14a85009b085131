use mathlib.Core.Path.{◌≡◌}
use mathlib.Core.List.{◌++◌}
use Prim.Native.Nat.{suc, ◌+◌, ◌<◌, ◌^◌}
use lib.ListN.{length, drop}
use Rattle.walk_text.specs.Numbers.{spelled, decimal}
use Rattle.walk_text.proofs.spell.Given as goal

abbrev pub invariant-loop-rest : goal.invariant-loop-rest
invariant-loop-rest l = (l.i < 20) × (length l.text ≡ 20) × (l.rest < 10 ^ (l.i + 1)) × (spelled (suc l.i) l.rest ++ drop (l.i + 1) l.text ≡ decimal l.n)

abbrev pub decreases-loop-rest : goal.decreases-loop-rest
decreases-loop-rest l = l.rest
