-- The room of a tier's list. Assumes nothing.
use mathlib.Core.Path.{◌≡◌}
use mathlib.Core.List.{List, [], ◌∷◌}
use Prim.Native.Nat.{ℕ}
use lib.ListN.{length}
use Rattle.laws.specs.Lists.{at, list_at, lengths}
use Rattle.kinds.proofs.RowLayout.{at_lengths}

pub room_is : (a b c d : List ℕ) (t : ℕ) → at (length a ∷ length b ∷ length c ∷ length d ∷ []) t ≡ length (list_at (a ∷ b ∷ c ∷ d ∷ []) t)
unfolding lengths
room_is a b c d t = at_lengths (a ∷ b ∷ c ∷ d ∷ []) t
