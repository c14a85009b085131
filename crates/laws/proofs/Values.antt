-- Sums by value: a count over the entries of a list is a sum over the values they may have. Assumes nothing.
use mathlib.Core.Path.{◌≡◌, refl, sym, ap, ap₂, ◌∙◌}
use mathlib.Core.Logic.{⊎_elim}
use Prim.Native.Nat.{ℕ, zero, suc, ◌+◌, ◌-◌, ◌≤◌, ◌<◌}
use native.Mathlib.Omega.{arith}
use native.Mathlib.Nat.{eq-or-lt_of_le, le_of_suc-le-suc}
use Rattle.laws.specs.Fold.{one, sum_below}

module _ (f g : ℕ → ℕ) where
  pub sum_mono : (n : ℕ) → ((k : ℕ) → k < n → f k ≤ g k) → sum_below f n ≤ sum_below g n
  unfolding sum_below
  sum_mono zero h = omega arith
  sum_mono (suc n) h = omega (arith, sum_mono n (λ k l. h k (omega arith)), h n (omega arith))

  -- where no term is above the other's and the sums are equal, so are the terms
  pub sum_tight : (n : ℕ) → ((k : ℕ) → k < n → f k ≤ g k) → sum_below f n ≡ sum_below g n → (k : ℕ) → k < n → f k ≡ g k
  unfolding sum_below
  sum_tight zero h e k l = absurd (omega arith)
  sum_tight (suc n) h e k l =
      let before = sum_mono n (λ j q. h j (omega arith)) in
      let last = h n (omega arith) in
      ⊎_elim
      (λ q. ap f q ∙ omega (arith, before, last) ∙ ap g (sym q))
      (λ q. sum_tight n (λ j q. h j (omega arith)) (omega (arith, before, last)) k q)
      (eq-or-lt_of_le (le_of_suc-le-suc l))

module _ (f g h : ℕ → ℕ) where
  pub sum_both : (n : ℕ) → ((k : ℕ) → k < n → h k ≡ f k + g k) → sum_below h n ≡ sum_below f n + sum_below g n
  unfolding sum_below
  sum_both zero e = omega arith
  sum_both (suc n) e = omega (arith, sum_both n (λ k l. e k (omega arith)), e n (omega arith))

-- one term alone
pub sum_zero : (f : ℕ → ℕ) (n : ℕ) → ((k : ℕ) → k < n → f k ≡ 0) → sum_below f n ≡ 0
unfolding sum_below
sum_zero f zero e = refl
sum_zero f (suc n) e = omega (arith, sum_zero f n (λ k l. e k (omega arith)), e n (omega arith))

pub sum_only : (f : ℕ → ℕ) (n y : ℕ) → y < n → ((k : ℕ) → k < n → (k ≡ y → ⊥) → f k ≡ 0) → sum_below f n ≡ f y
unfolding sum_below
sum_only f zero y l e = absurd (omega arith)
sum_only f (suc n) y l e =
    ⊎_elim
    (λ q. ap₂ (λ (a b : ℕ). a + b) (sum_zero f n (λ k m. e k (omega arith) (λ z. omega arith))) (ap f (sym q)) ∙ omega arith)
    (λ q. ap₂ (λ (a b : ℕ). a + b) (sum_only f n y q (λ k m z. e k (omega arith) z)) (e n (omega arith) (λ z. omega arith)) ∙ omega arith)
    (eq-or-lt_of_le (le_of_suc-le-suc l))
