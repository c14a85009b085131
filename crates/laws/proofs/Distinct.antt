-- Lists without repeated entries: one more at the end, sorted. Assumes nothing.
use mathlib.Core.Path.{◌≡◌, sym, subst}
use mathlib.Core.Bool.{Bool, true, false, cond}
use mathlib.Core.Logic.{⊎_elim, ◌⊎◌, inl, inr}
use mathlib.Core.List.{List, [], ◌∷◌}
use Prim.Native.Nat.{ℕ}
use lib.Dec.{leb}
use Rattle.laws.specs.Lists.{snoc, insert, sort_by}
use Rattle.laws.proofs.Members.{In, in_snoc, Distinct}
use Rattle.laws.proofs.Entries.{elem_none, elem_here, elem_later, elem_cases}

pub distinct_snoc : (l : List ℕ) (x : ℕ) → Distinct l → (In x l → ⊥) → Distinct (snoc l x)
distinct_snoc [] x d n = ((λ m. elem_none x m), tt)
distinct_snoc (y ∷ l) x (a, d) n = (
  (λ m. ⊎_elim a (λ e. n (subst (λ (z : ℕ). In z (y ∷ l)) e (elem_here y l))) (in_snoc y x l m)),
  distinct_snoc l x d (λ m. n (elem_later x y l m)),
)

module _ (k : ℕ → ℕ) where
  insert_in : (x y : ℕ) (l : List ℕ) → In y (insert k x l) → (y ≡ x) ⊎ In y l
  unfolding insert
  insert_in x y [] m = elem_cases y x [] m
  insert_in x y (z ∷ l) m = go (leb (k x) (k z)) m (insert_in x y l)
    where
      go : (b : Bool) → In y (cond b (x ∷ z ∷ l) (z ∷ insert k x l)) → (In y (insert k x l) → (y ≡ x) ⊎ In y l) → (y ≡ x) ⊎ In y (z ∷ l)
      go true n ih = elem_cases y x (z ∷ l) n
      go false n ih = ⊎_elim (λ e. inr (subst (λ (u : ℕ). In y (u ∷ l)) e (elem_here y l))) (λ q. ⊎_elim (λ e. inl e) (λ r. inr (elem_later y z l r)) (ih q)) (elem_cases y z (insert k x l) n)

  in_insert_new : (x : ℕ) (l : List ℕ) → In x (insert k x l)
  unfolding insert
  in_insert_new x [] = elem_here x []
  in_insert_new x (z ∷ l) = go (leb (k x) (k z)) (in_insert_new x l)
    where
      go : (b : Bool) → In x (insert k x l) → In x (cond b (x ∷ z ∷ l) (z ∷ insert k x l))
      go true ih = elem_here x (z ∷ l)
      go false ih = elem_later x z (insert k x l) ih

  in_insert_old : (x y : ℕ) (l : List ℕ) → In y l → In y (insert k x l)
  unfolding insert
  in_insert_old x y [] m = absurd (elem_none y m)
  in_insert_old x y (z ∷ l) m = go (leb (k x) (k z)) (in_insert_old x y l)
    where
      go : (b : Bool) → (In y l → In y (insert k x l)) → In y (cond b (x ∷ z ∷ l) (z ∷ insert k x l))
      go true ih = elem_later y x (z ∷ l) m
      go false ih = ⊎_elim (λ e. subst (λ (u : ℕ). In u (z ∷ insert k x l)) (sym e) (elem_here z (insert k x l))) (λ q. elem_later y z (insert k x l) (ih q)) (elem_cases y z l m)

  distinct_insert : (x : ℕ) (l : List ℕ) → Distinct l → (In x l → ⊥) → Distinct (insert k x l)
  unfolding insert
  distinct_insert x [] d n = (n, tt)
  distinct_insert x (z ∷ l) (a, d) n = go (leb (k x) (k z)) (distinct_insert x l d)
    where
      go : (b : Bool) → ((In x l → ⊥) → Distinct (insert k x l)) → Distinct (cond b (x ∷ z ∷ l) (z ∷ insert k x l))
      go true ih = (n, (a, d))
      go false ih = ((λ m. ⊎_elim (λ e. n (subst (λ (u : ℕ). In u (z ∷ l)) e (elem_here z l))) a (insert_in x z l m)), ih (λ m. n (elem_later x z l m)))

  pub sort_in : (y : ℕ) (l : List ℕ) → In y (sort_by k l) → In y l
  unfolding sort_by
  sort_in y [] m = m
  sort_in y (x ∷ l) m = ⊎_elim (λ e. subst (λ (u : ℕ). In u (x ∷ l)) (sym e) (elem_here x l)) (λ q. elem_later y x l (sort_in y l q)) (insert_in x y (sort_by k l) m)

  pub in_sort : (y : ℕ) (l : List ℕ) → In y l → In y (sort_by k l)
  unfolding sort_by
  in_sort y [] m = m
  in_sort y (x ∷ l) m = ⊎_elim (λ e. subst (λ (u : ℕ). In u (insert k x (sort_by k l))) (sym e) (in_insert_new x (sort_by k l))) (λ q. in_insert_old x y (sort_by k l) (in_sort y l q)) (elem_cases y x l m)

  pub distinct_sort : (l : List ℕ) → Distinct l → Distinct (sort_by k l)
  unfolding sort_by
  distinct_sort [] d = tt
  distinct_sort (x ∷ l) (a, d) = distinct_insert x (sort_by k l) (distinct_sort l d) (λ m. a (sort_in x l m))
