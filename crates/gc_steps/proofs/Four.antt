-- The four lists, one by one. Assumes nothing.
use mathlib.Core.Path.{◌≡◌, refl, sym, ap, ◌∙◌}
use mathlib.Core.List.{List, [], ◌∷◌}
use Prim.Native.Nat.{ℕ}
use native.Mathlib.Omega.{arith}
use lib.ListN.{length}
use Rattle.laws.specs.Lists.{at, lengths, fill, fill_each}
use Rattle.tier_lists.specs.Four.{four}
use Rattle.calls.specs.Collecting.{of_tier, by_tier}

-- a list of four numbers
four_of : (l : List ℕ) → length l ≡ 4 → l ≡ at l 0 ∷ at l 1 ∷ at l 2 ∷ at l 3 ∷ []
four_of [] e = absurd (omega arith)
four_of (a ∷ []) e = absurd (omega arith)
four_of (a ∷ b ∷ []) e = absurd (omega arith)
four_of (a ∷ b ∷ c ∷ []) e = absurd (omega arith)
four_of (a ∷ b ∷ c ∷ d ∷ []) e = refl
four_of (a ∷ b ∷ c ∷ d ∷ x ∷ l) e = absurd (omega arith)

module _ (ws os : List ℕ) where
  pub each_rebuilt : (used : List ℕ) → length used ≡ 4 → (a b c d a₁ b₁ c₁ d₁ : List ℕ) → a₁ ≡ fill a (at used 0) (of_tier ws 0 os) → b₁ ≡ fill b (at used 1) (of_tier ws 1 os) → c₁ ≡ fill c (at used 2) (of_tier ws 2 os) → d₁ ≡ fill d (at used 3) (of_tier ws 3 os)
      → four a₁ b₁ c₁ d₁ ≡ fill_each (four a b c d) used (by_tier ws os)
  unfolding fill_each by_tier
  each_rebuilt used n a b c d a₁ b₁ c₁ d₁ p q r s = (λ i. p i ∷ q i ∷ r i ∷ s i ∷ []) ∙ ap (λ (l : List ℕ). fill_each (four a b c d) l (by_tier ws os)) (sym (four_of used n))

  pub lengths_rebuilt : (a b c d : ℕ) → a ≡ length (of_tier ws 0 os) → b ≡ length (of_tier ws 1 os) → c ≡ length (of_tier ws 2 os) → d ≡ length (of_tier ws 3 os) → a ∷ b ∷ c ∷ d ∷ [] ≡ lengths (by_tier ws os)
  unfolding lengths by_tier
  lengths_rebuilt a b c d p q r s = λ i. p i ∷ q i ∷ r i ∷ s i ∷ []
