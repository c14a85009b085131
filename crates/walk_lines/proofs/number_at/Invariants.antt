use mathlib.Core.Path.{◌≡◌}
use Prim.Native.Nat.{◌≤◌, ◌<◌, ◌^◌}
use lib.ListN.{drop}
use Rattle.walk_lines.specs.Lines.{number}
use Rattle.walk_lines.proofs.number_at.Given as goal

abbrev pub invariant-loop-i : goal.invariant-loop-i
invariant-loop-i l = (l.k ≤ 10) × (l.v < 10 ^ l.k) × (number l.k l.v (drop l.i l.line) ≡ number 0 0 (drop l.from l.line))
