use mathlib.Core.Path.{ap}
use Prim.Native.Nat.{ℕ}
use lib.Dec.{leb}
use Rattle.binary_calls.proofs.row_full.Goals as goal

pub returns : goal.returns
returns c = ap (λ (n : ℕ). leb c.args.room n) c.word.ensures.0
