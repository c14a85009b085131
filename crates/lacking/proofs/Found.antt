-- What one test says of a clause. Assumes nothing.
use mathlib.Core.Path.{◌≡◌}
use mathlib.Core.Bool.{Bool, true, false}
use mathlib.Core.List.{List, [], ◌∷◌}
use Prim.Native.Nat.{ℕ}
use lib.ListN.{length}
use Rattle.laws.specs.Fold.{any_below}
use Rattle.laws.specs.Lists.{at, list_at}
use Rattle.kinds.specs.Clauses.{lits_at, deleted_at, neg}
use Rattle.calls.specs.StorePasses.{live_at}
use Rattle.calls.specs.Refusing.{lacking}
use Rattle.lacking.specs.Lacks.{long_lacks, pair_lacks, row_lacks}

module _ (a ws l : List ℕ) (i : ℕ) {o : ℕ} (e : o ≡ at l i) where
  pub long_dead : deleted_at ws o ≡ true → long_lacks a ws l i ≡ false
  unfolding long_lacks live_at
  long_dead d = rw (← e, d)

  pub long_is : deleted_at ws o ≡ false → {read : List ℕ} → read ≡ lits_at ws o → {b : Bool} → b ≡ lacking a read → long_lacks a ws l i ≡ b
  unfolding long_lacks live_at
  long_is d r f = rw (← e, d, ← r, ← f)

pub pair_is : (a : List ℕ) (c : ℕ) (row : List ℕ) (i : ℕ) {x : ℕ} → x ≡ neg c → {b : Bool} → b ≡ lacking a (x ∷ at row i ∷ []) → pair_lacks a c row i ≡ b
unfolding pair_lacks
pair_is a c row i e f = rw (← e, ← f)

pub row_is : (a : List ℕ) (rows : List (List ℕ)) (c : ℕ) {read : List ℕ} → read ≡ list_at rows c → {b : Bool} → b ≡ any_below (pair_lacks a c read) (length read) → row_lacks a rows c ≡ b
unfolding row_lacks
row_is a rows c e f = rw (← e, ← f)
