-- More of testing loops. Assumes nothing.
use mathlib.Core.Path.{◌≡◌, refl, sym, ap, ap₂, ◌∙◌}
use mathlib.Core.Bool.{Bool, true, false, not, ◌&&◌, ◌||◌}
use Prim.Native.Nat.{ℕ, zero, suc, ◌≤◌, ◌<◌}
use native.Mathlib.Omega.{arith}
use Rattle.laws.specs.Fold.{all_below, any_below}
use Rattle.laws.proofs.Folds.{and_fails_left, all_out, all_end}

-- a loop whose end was read first: len is what was read for m
module _ (f : ℕ → Bool) (k len m : ℕ) (e : len ≡ m) where
  pub all_out_of : k < len → {r : Bool} → r ≡ f k → not r ≡ true → false ≡ all_below f m
  all_out_of h p t = all_out f k m (omega arith) p t

  pub all_end_of : all_below f k ≡ true → k ≤ len → len ≤ k → true ≡ all_below f m
  all_end_of p h g = all_end f k m p (omega arith) (omega arith)

-- no index passes where each fails
pub all_not_any : (f g : ℕ → Bool) (n : ℕ) → ((k : ℕ) → k < n → f k ≡ not (g k)) → all_below f n ≡ not (any_below g n)
unfolding all_below any_below
all_not_any f g zero h = refl
all_not_any f g (suc n) h = ap₂ (λ (a b : Bool). a && b) (all_not_any f g n (λ k l. h k (omega arith))) (h n (omega arith)) ∙ both (any_below g n) (g n)
  where
    both : (a b : Bool) → not a && not b ≡ not (a || b)
    both true b = refl
    both false b = refl

-- a chain of tests that is left at the first failure
pub and_cut : {a : Bool} (b : Bool) → a ≡ false → false ≡ a && b
and_cut {a} b e = sym (and_fails_left a b e)

pub and_on : {a b r : Bool} → a ≡ true → r ≡ b → r ≡ a && b
and_on {a} {b} e p = p ∙ ap (λ (t : Bool). t && b) (sym e)
