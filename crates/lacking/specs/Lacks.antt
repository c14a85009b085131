-- Refusal 10, told by the lent buffers: "a live long or a binary clause has no true literal and fewer than two unassigned".
use Rattle.std.specs.Prelude.{Bool, ◌&&◌, List, [], ◌∷◌, ℕ, length}
use Rattle.laws.specs.Fold.{any_below}
use Rattle.laws.specs.Lists.{at, list_at}
use Rattle.kinds.specs.Clauses.{lits_at, neg}
use Rattle.calls.specs.StorePasses.{live_at}
use Rattle.calls.specs.Refusing.{lacking}

unfoldable pub long_lacks : List ℕ → List ℕ → List ℕ → ℕ → Bool
long_lacks a ws l i = live_at ws l i && lacking a (lits_at ws (at l i))

-- entry i of the row of the code c
unfoldable pub pair_lacks : List ℕ → ℕ → List ℕ → ℕ → Bool
pair_lacks a c row i = lacking a (neg c ∷ at row i ∷ [])

unfoldable pub row_lacks : List ℕ → List (List ℕ) → ℕ → Bool
row_lacks a rows c = any_below (pair_lacks a c (list_at rows c)) (length (list_at rows c))
