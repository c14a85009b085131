-- The entries of a list: where one stands, and how often; and tests that are false. Assumes nothing.
use mathlib.Core.Path.{◌≡◌, refl, sym, ap, ◌∙◌}
use mathlib.Core.Bool.{Bool, true, false, ◌||◌, true≢false}
use mathlib.Core.Logic.{⊎_elim, ◌⊎◌, inl, inr}
use mathlib.Core.List.{List, [], ◌∷◌, ◌++◌}
use Prim.Native.Nat.{ℕ, zero, suc, ◌<◌}
use native.Mathlib.Omega.{arith}
use lib.ListN.{length, get_or}
use lib.Dec.{eqb}
use borrow.Author.Tests.{eqb-true, eq-eqb}
use Rattle.laws.specs.Fold.{any_below}
use Rattle.laws.specs.Lists.{elem}
use Rattle.laws.specs.Counts.{count}
use Rattle.laws.proofs.Folds.{or_right, any_at}
use Rattle.laws.proofs.Sorting.{is_same, count_cons}

-- ---- tests that are false

pub neither : (a b : Bool) → a || b ≡ false → (a ≡ false) × (b ≡ false)
neither true b e = absurd (true≢false e)
neither false b e = (refl, e)

pub none_at : (f : ℕ → Bool) (n k : ℕ) → k < n → any_below f n ≡ false → f k ≡ false
none_at f n k l e = go (f k) refl
  where
    go : (b : Bool) → f k ≡ b → b ≡ false
    go true q = absurd (true≢false (sym (any_at f n k l q) ∙ e))
    go false q = refl

-- ---- entries

pub elem_none : (x : ℕ) → elem x [] ≡ true → ⊥
unfolding elem
elem_none x e = true≢false (sym e)

pub elem_here : (o : ℕ) (os : List ℕ) → elem o (o ∷ os) ≡ true
unfolding elem
elem_here o os = rw (eq-eqb o o refl)

pub elem_later : (x o : ℕ) (os : List ℕ) → elem x os ≡ true → elem x (o ∷ os) ≡ true
unfolding elem
elem_later x o os e = or_right (eqb x o) (elem x os) e

pub elem_cases : (x o : ℕ) (os : List ℕ) → elem x (o ∷ os) ≡ true → (x ≡ o) ⊎ (elem x os ≡ true)
unfolding elem
elem_cases x o os e = go (eqb x o) refl e
  where
    go : (b : Bool) → eqb x o ≡ b → (b || elem x os) ≡ true → (x ≡ o) ⊎ (elem x os ≡ true)
    go true p q = inl (eqb-true x o p)
    go false p q = inr q

-- where an entry stands
pub record At (o : ℕ) (os : List ℕ) : Type 0 where
  pub pre : List ℕ
  pub post : List ℕ
  pub split : os ≡ pre ++ o ∷ post

pub elem_at : (o : ℕ) (os : List ℕ) → elem o os ≡ true → At o os
unfolding elem
elem_at o [] h = absurd (true≢false (sym h))
elem_at o (x ∷ os) h = go (eqb o x) refl h (elem_at o os)
  where
    go : (b : Bool) → eqb o x ≡ b → (b || elem o os) ≡ true → (elem o os ≡ true → At o os) → At o (x ∷ os)
    go true e k r = record { pre = []; post = os; split = ap (λ (y : ℕ). y ∷ os) (sym (eqb-true o x e)) }
    go false e k r = record { pre = x ∷ (r k).pre; post = (r k).post; split = ap (λ (l : List ℕ). x ∷ l) (r k).split }

pub elem_index : (l : List ℕ) (i : ℕ) → i < length l → elem (get_or l i 0) l ≡ true
unfolding elem
elem_index [] i h = absurd (omega arith)
elem_index (x ∷ l) zero h = rw (eq-eqb x x refl)
elem_index (x ∷ l) (suc i) h = go (eqb (get_or l i 0) x) (elem_index l i (omega arith))
  where
    go : (b : Bool) → elem (get_or l i 0) l ≡ true → (b || elem (get_or l i 0) l) ≡ true
    go true e = refl
    go false e = e

pub elem_place : (x : ℕ) (l : List ℕ) → elem x l ≡ true → (i : ℕ) × (i < length l) × (get_or l i 0 ≡ x)
unfolding elem
elem_place x [] h = absurd (true≢false (sym h))
elem_place x (y ∷ l) h = go (eqb x y) refl h (elem_place x l)
  where
    go : (b : Bool) → eqb x y ≡ b → (b || elem x l) ≡ true → (elem x l ≡ true → (i : ℕ) × (i < length l) × (get_or l i 0 ≡ x)) → (i : ℕ) × (i < length (y ∷ l)) × (get_or (y ∷ l) i 0 ≡ x)
    go true e k r = (zero, omega arith, sym (eqb-true x y e))
    go false e k r = let q = r k in (suc q.0, omega (arith, q.1), q.2)

-- ---- entries and counts

pub elem_counted : (x : ℕ) (l : List ℕ) → elem x l ≡ true → 0 < count x l
elem_counted x [] e = absurd (elem_none x e)
elem_counted x (y ∷ l) e =
    ⊎_elim
    (λ q. omega (arith, count_cons x y l, is_same y x (sym q)))
    (λ q. omega (arith, count_cons x y l, elem_counted x l q))
    (elem_cases x y l e)
