-- One entry more, tier by tier. Assumes nothing.
use mathlib.Core.Path.{◌≡◌, ◌∙◌}
use mathlib.Core.List.{List, [], ◌∷◌}
use Prim.Native.Nat.{ℕ, ◌≤◌, ◌<◌}
use native.Mathlib.Omega.{arith}
use lib.ListN.{length, set}
use Rattle.laws.specs.Lists.{at, list_at, push, more, lengths, take_each, fill_each}
use Rattle.kinds.proofs.TierLayout.{Within, each_push, lengths_each_push}
use Rattle.tier_lists.specs.Four.{four}

within : (ns a b c d : List ℕ) → length ns ≡ 4 → (at ns 0 ≤ length a) × (at ns 1 ≤ length b) × (at ns 2 ≤ length c) × (at ns 3 ≤ length d) → Within ns (four a b c d)
within [] a b c d e h = absurd (omega arith)
within (n₀ ∷ []) a b c d e h = absurd (omega arith)
within (n₀ ∷ n₁ ∷ []) a b c d e h = absurd (omega arith)
within (n₀ ∷ n₁ ∷ n₂ ∷ []) a b c d e h = absurd (omega arith)
within (n₀ ∷ n₁ ∷ n₂ ∷ n₃ ∷ []) a b c d e (p, q, r, s) = (p, (q, (r, (s, tt))))
within (n₀ ∷ n₁ ∷ n₂ ∷ n₃ ∷ n₄ ∷ ns) a b c d e h = absurd (omega arith)

-- a, b, c, d are the lists at first, and bs the four afterwards
module _ (ns a b c d : List ℕ) (t x : ℕ) (bs : List (List ℕ)) (e : length ns ≡ 4)
    (h : (t < 4) × (at ns 0 ≤ length a) × (at ns 1 ≤ length b) × (at ns 2 ≤ length c) × (at ns 3 ≤ length d)) (room : at ns t < length (list_at (four a b c d) t))
    (now : bs ≡ set (four a b c d) t (set (list_at (four a b c d) t) (at ns t) x)) where
  pub pushed : (bs ≡ fill_each (four a b c d) ns (push t x (take_each ns (four a b c d)))) × (more t ns ≡ lengths (push t x (take_each ns (four a b c d))))
  pushed =
      let w = within ns a b c d e (h.1, h.2, h.3, h.4) in
      (now ∙ each_push ns (four a b c d) t x w h.0 room, lengths_each_push ns (four a b c d) t x w)

-- the list of a tier by its number
module _ (a b c d : List ℕ) (t : ℕ) where
  pub in_irred : t ≡ 0 → list_at (four a b c d) t ≡ a
  in_irred e = rw e

  pub in_core : t ≡ 1 → list_at (four a b c d) t ≡ b
  in_core e = rw e

  pub in_mid : t ≡ 2 → list_at (four a b c d) t ≡ c
  in_mid e = rw e

  pub in_local : t < 4 → (t ≡ 0 → ⊥) → (t ≡ 1 → ⊥) → (t ≡ 2 → ⊥) → list_at (four a b c d) t ≡ d
  in_local h p q r = let e : t ≡ 3 = omega arith in rw e
