-- The entries of a tier list. Assumes nothing.
use mathlib.Core.Path.{◌≡◌, sym, ap, ◌∙◌, subst}
use mathlib.Core.Logic.{◌⊎◌, inl, inr}
use mathlib.Core.Bool.{Bool, true, false, not, ◌&&◌}
use mathlib.Core.List.{List}
use Prim.Native.Nat.{ℕ, ◌+◌, ◌-◌, ◌≤◌, ◌<◌}
use native.Mathlib.Omega.{arith}
use lib.Dec.{leb, ltb}
use lib.ListN.{length, take}
use borrow.Author.Tests.{le-leb, lt-leb, le-ltb}
use Rattle.laws.specs.Fold.{any_below}
use Rattle.laws.specs.Lists.{at}
use Rattle.laws.proofs.Folds.{any_no, any_only, and_fails_left, and_fails_right}
use Rattle.kinds.specs.Clauses.{end_at, deleted_at, is_live}
use Rattle.calls.specs.StorePasses.{placed, live_at, ref_at, inside_at}
use Rattle.calls.proofs.Readings.{rising_read, ends_read}
use Rattle.judge_words.specs.Judging.{Split}
use Rattle.judge_words.proofs.Bisect.{lt_or_ge, ref_is_live}
use Rattle.judge_words.proofs.Clauses.{live_is}

-- of the offsets the first k are at most x
module _ (w : List ℕ) (used : ℕ) (l : List ℕ) (n : ℕ) (p : placed w used l n ≡ true) (x k : ℕ) (S : Split l n x k) where
  out_above : (i : ℕ) → k ≤ i → i < n → inside_at w l x i ≡ false
  unfolding inside_at
  out_above i h b = and_fails_right (live_at w l i) _ (and_fails_left _ (ltb x (end_at w (at l i))) (lt-leb (at l i) x (S.above i h b)))

  pub in_none : k ≡ 0 → false ≡ any_below (inside_at w l x) n
  in_none z = sym (any_no (inside_at w l x) n (λ i b. out_above i (omega arith) b))

  only : (k ≡ 0 → ⊥) → any_below (inside_at w l x) n ≡ inside_at w l x (k - 1)
  unfolding inside_at
  only pos = any_only (inside_at w l x) n (k - 1) (omega (arith, S.within)) (λ j b d. go j b d (lt_or_ge j k))
    where
      go : (j : ℕ) → j < n → (j ≡ k - 1 → ⊥) → (j < k) ⊎ (k ≤ j) → inside_at w l x j ≡ false
      go j b d (inl a) =
          let e : end_at w (at l j) ≤ at l (k - 1) = rising_read w used l n p j (k - 1) (omega arith) (omega (arith, S.within)) in
          let f : at l (k - 1) ≤ x = S.below (k - 1) (omega arith) in
          and_fails_right (live_at w l j) _ (and_fails_right (leb (at l j) x) _ (le-ltb x (end_at w (at l j)) (omega arith)))
      go j b d (inr a) = out_above j a b

  pub seek_inside : (k ≡ 0 → ⊥) → {o : ℕ} → o ≡ at l (k - 1) → end_at w o ≤ used
  seek_inside pos {o} eo = subst (λ (z : ℕ). end_at w z ≤ used) (sym eo) (ends_read w used l n p (k - 1) (omega (arith, S.within)))

  module _ (pos : k ≡ 0 → ⊥) (o : ℕ) (eo : o ≡ at l (k - 1)) {d : Bool} (ed : d ≡ deleted_at w o) where
    pub in_dead : d ≡ true → false ≡ any_below (inside_at w l x) n
    unfolding inside_at
    in_dead q = sym (only pos ∙ and_fails_left _ _ (live_is w l (k - 1) o eo ed ∙ ap not q))

    pub in_test : d ≡ false → (y : ℕ) → y ≡ at w (o + 2) → ltb x (o + (y + 3)) ≡ any_below (inside_at w l x) n
    unfolding inside_at
    in_test q y ey =
        sym
        (only pos
        ∙ ap (λ (b : Bool). b && (leb (at l (k - 1)) x && ltb x (end_at w (at l (k - 1))))) (live_is w l (k - 1) o eo ed ∙ ap not q)
        ∙ ap (λ (b : Bool). b && ltb x (end_at w (at l (k - 1)))) (le-leb (at l (k - 1)) x (S.below (k - 1) (omega arith)))
        ∙ ap (λ (z : ℕ). ltb x (end_at w z)) (sym eo) ∙ ap (λ (z : ℕ). ltb x (o + (z + 3))) (sym ey))

-- a live clause's reference, as `is_live` answers on a whole list
pub live_ref : (w l : List ℕ) (e : ℕ) → is_live w (take (length l) l) e ≡ any_below (ref_at w l e) (length l)
live_ref w l e = sym (ref_is_live w l (length l) e (omega arith))
