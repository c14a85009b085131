use mathlib.Core.Path.{◌≡◌}
use Prim.Native.Nat.{◌≤◌}
use lib.ListN.{length, drop}
use Rattle.walk_text.specs.Page.{page, written}
use Rattle.walk_text.proofs.put_text.Given as goal

abbrev pub invariant-loop-byte : goal.invariant-loop-byte
invariant-loop-byte l = (l.to ≤ length l.out) × (written (drop l.byte-index l.text) (page l.out l.to) ≡ written l.text (page l.fn.out l.at))
