-- The rows' sizes. Assumes nothing.
use mathlib.Core.Path.{◌≡◌, sym, ap}
use mathlib.Core.List.{List}
use mathlib.Core.Bool.{true}
use Prim.Native.Nat.{ℕ, ◌*◌}
use lib.Dec.{leb}
use Rattle.laws.specs.Fold.{all_below}
use Rattle.laws.specs.Lists.{at}
use Rattle.laws.proofs.Folds.{all_none, all_same}
use Rattle.kinds.specs.declared.State.{State}
use Rattle.calls.specs.HostPasses.{at_most_at}
use Rattle.kinds.specs.Lent.{Lent, lent_rows, room_of}
use Rattle.calls.specs.Size.{row_sized}

-- no variable, no row
pub none_sized : (k : Lent) (v : ℕ) → v ≡ 0 → all_below (row_sized k) (2 * v) ≡ true
none_sized k v z = rw z (all_none (row_sized k))

pub counts_sized : (s : State) (rows counts : List ℕ) (m n : ℕ) → m ≡ room_of s.vars rows → all_below (row_sized (lent_rows s rows counts)) n ≡ all_below (at_most_at m counts) n
unfolding row_sized at_most_at
counts_sized s rows counts m n e = all_same (row_sized (lent_rows s rows counts)) (at_most_at m counts) n (λ c h. ap (leb (at counts c)) (sym e))
