-- Sorting keeps the length. Assumes nothing.
use mathlib.Core.Path.{◌≡◌, refl, ap, ◌∙◌}
use mathlib.Core.Bool.{Bool, true, false, cond}
use mathlib.Core.List.{List, [], ◌∷◌}
use Prim.Native.Nat.{ℕ, suc}
use lib.ListN.{length}
use lib.Dec.{leb}
use Rattle.laws.specs.Lists.{insert, sort_by}

module _ (k : ℕ → ℕ) where
  length_insert : (x : ℕ) (l : List ℕ) → length (insert k x l) ≡ suc (length l)
  unfolding insert
  length_insert x [] = refl
  length_insert x (y ∷ l) = go (leb (k x) (k y)) (length_insert x l)
    where
      go : (b : Bool) → length (insert k x l) ≡ suc (length l) → length (cond b (x ∷ y ∷ l) (y ∷ insert k x l)) ≡ suc (length (y ∷ l))
      go true e = refl
      go false e = ap suc e

  pub length_sort : (l : List ℕ) → length (sort_by k l) ≡ length l
  unfolding sort_by
  length_sort [] = refl
  length_sort (x ∷ l) = length_insert x (sort_by k l) ∙ ap suc (length_sort l)
