-- Loops that add and count, and the bounds of what they make. Assumes nothing.
use mathlib.Core.Path.{◌≡◌, refl, ap, ◌∙◌}
use mathlib.Core.Bool.{Bool, true, false}
use mathlib.Core.Logic.{◌⊎◌, inl, inr}
use Prim.Native.Nat.{ℕ, zero, suc, ◌+◌, ◌*◌, ◌≤◌, ◌<◌}
use native.Mathlib.Omega.{arith}
use native.Mathlib.Nat.{le_antisymm, suc-mul}
use Rattle.laws.specs.Fold.{one, count_below, sum_below}
use Rattle.laws.proofs.Folds.{count_more}
use Rattle.laws.proofs.Sums.{sum_more}

module _ (f : ℕ → ℕ) where
  -- a loop that adds f at each index from 0 on: x is what f gave at i
  pub sum_next : (i : ℕ) {n x m : ℕ} → n ≡ sum_below f i → x ≡ f i → m ≡ n + x → m ≡ sum_below f (i + 1)
  sum_next i p q r = omega (arith, sum_more f i)

  pub sum_end : (i n : ℕ) {m : ℕ} → m ≡ sum_below f i → i ≤ n → n ≤ i → m ≡ sum_below f n
  sum_end i n p l g = p ∙ ap (sum_below f) (le_antisymm l g)

  pub sum_le : (n m : ℕ) → ((k : ℕ) → k < n → f k ≤ m) → sum_below f n ≤ n * m
  unfolding sum_below
  sum_le zero m h = omega arith
  sum_le (suc n) m h = omega (arith, sum_le n m (λ k l. h k (omega arith)), h n (omega arith), suc-mul n m)

module _ (f : ℕ → Bool) where
  -- a loop that counts the indices of which f holds
  pub count_yes : (i : ℕ) {n m : ℕ} → n ≡ count_below f i → m ≡ n + 1 → f i ≡ true → m ≡ count_below f (i + 1)
  count_yes i p q e = omega (arith, count_more f i, ap one e)

  pub count_no : (i : ℕ) {n m : ℕ} → n ≡ count_below f i → m ≡ n → f i ≡ false → m ≡ count_below f (i + 1)
  count_no i p q e = omega (arith, count_more f i, ap one e)

  pub count_end : (i n : ℕ) {m : ℕ} → m ≡ count_below f i → i ≤ n → n ≤ i → m ≡ count_below f n
  count_end i n p l g = p ∙ ap (count_below f) (le_antisymm l g)

  -- a count is 0, or some index passes
  pub count_cases : (n : ℕ) → (count_below f n ≡ 0) ⊎ ((k : ℕ) × (k < n) × (f k ≡ true))
  unfolding count_below
  count_cases zero = inl refl
  count_cases (suc n) = go (count_cases n) (f n) refl
    where
      go : (count_below f n ≡ 0) ⊎ ((k : ℕ) × (k < n) × (f k ≡ true)) → (b : Bool) → f n ≡ b → (count_below f n + one (f n) ≡ 0) ⊎ ((k : ℕ) × (k < suc n) × (f k ≡ true))
      go (inl z) true e = inr (n, omega arith, e)
      go (inl z) false e = inl (omega (arith, ap one e))
      go (inr r) b e = inr (r.0, omega (arith, r.1), r.2)
