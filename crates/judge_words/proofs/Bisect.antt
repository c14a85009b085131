-- The binary search over rising offsets. Assumes nothing.
use mathlib.Core.Path.{◌≡◌, refl, sym, ap, ◌∙◌}
use mathlib.Core.Logic.{◌⊎◌, inl, inr}
use mathlib.Core.Bool.{Bool, true, false, not, ◌&&◌, ◌||◌, true≢false}
use mathlib.Core.List.{List, [], ◌∷◌}
use Prim.Native.Nat.{ℕ, zero, suc, ◌+◌, ◌≤◌, ◌<◌}
use native.Mathlib.Decide.{dec_lt}
use native.Mathlib.Omega.{arith}
use native.Mathlib.Nat.{eq-or-lt_of_le, not-suc-le-zero}
use lib.Dec.{eqb}
use lib.ListN.{length, take}
use lib.Seq.{get_or-take, length-take-le}
use lib.Dec.{leb}
use borrow.Author.Tests.{eq-eqb, ne_eqb, eqb-true, leb-true, leb-false}
use Rattle.std.specs.List.Sorted.{IsPartitionedBy, IsPartitionPoint}
use Rattle.std.proofs.lemmas.List.Sorted.{IsPartitionedBy-leb, IsNonDecreasingBy-from_default}
use Rattle.laws.specs.Lists.{at, elem}
use Rattle.laws.proofs.Folds.{or_left, or_right, or_neither, and_both, and_left, and_right, and_fails_left, any_at, any_find}
use Rattle.laws.specs.Fold.{any_below}
use Rattle.kinds.specs.Clauses.{deleted_at, is_live}
use Rattle.calls.specs.StorePasses.{placed, live_at, ref_at}
use Rattle.calls.proofs.Readings.{ends_read, rising_read}
use Rattle.judge_words.specs.Judging.{Rising, Split, Found}

pub lt_or_ge : (i k : ℕ) → (i < k) ⊎ (k ≤ i)
lt_or_ge i k = go (dec_lt i k)
  where
    go : Dec (i < k) → (i < k) ⊎ (k ≤ i)
    go (yes h) = inl h
    go (no h) = inr (omega arith)

pub rising : (w : List ℕ) (used : ℕ) (l : List ℕ) (n : ℕ) → placed w used l n ≡ true → Rising l n
rising w used l n p = record { rises = λ i j a b. omega (arith, rising_read w used l n p i j a b) }

-- the offsets in use, and what the library's searches answer on them
module _ {l : List ℕ} {n : ℕ} (R : Rising l n) (room : n ≤ length l) where
  used_length : length (take n l) ≡ n
  used_length = length-take-le n l room

  used_at : (i : ℕ) → i < n → at (take n l) i ≡ at l i
  used_at i h = get_or-take n l i 0 h

  pub risen : (i j : ℕ) → i ≤ j → j < length (take n l) → at (take n l) i ≤ at (take n l) j
  risen i j h g = go (eq-or-lt_of_le {n = i} {m = j} h)
    where
      go : (i ≡ j) ⊎ (i < j) → at (take n l) i ≤ at (take n l) j
      go (inl e) = omega (arith, ap (at (take n l)) e)
      go (inr q) = omega (arith, R.rises i j q (omega (arith, used_length)), used_at i (omega (arith, used_length)), used_at j (omega (arith, used_length)))

  pub parts : (x : ℕ) → IsPartitionedBy (λ y. leb y x) (take n l)
  parts x = IsPartitionedBy-leb (λ y. y) (take n l) x (IsNonDecreasingBy-from_default (λ y. y) (take n l) 0 risen)

  pub split_at : (x k : ℕ) → k ≤ length (take n l) → IsPartitionPoint (λ y. leb y x ≡ true) (λ y. leb y x ≡ false) (take n l) k → Split l n x k
  split_at x k h p = record {
    within = omega (arith, used_length);
    below = λ i b. omega (arith, leb-true (at (take n l) i) x (p.0 i 0 (omega arith) b), used_at i (omega (arith, used_length)));
    above = λ i b g. omega (arith, leb-false (at (take n l) i) x (p.1 i 0 b (omega (arith, used_length))), used_at i g);
  }

  pub found_at : (e k : ℕ) → (k < length (take n l)) × (at (take n l) k ≡ e) → Found l n e k
  found_at e k p = record { within = omega (arith, used_length); hit = λ h. sym (used_at k h) ∙ p.1; miss = λ i h d q. go i h q (dec_lt i k) (dec_lt k i) d }
    where
      same : at l k ≡ e
      same = sym (used_at k (omega (arith, used_length))) ∙ p.1

      go : (i : ℕ) → i < n → at l i ≡ e → Dec (i < k) → Dec (k < i) → (i ≡ k → ⊥) → ⊥
      go i h q (yes a) b d = omega (arith, R.rises i k a (omega (arith, used_length)), same)
      go i h q (no a) (yes b) d = omega (arith, R.rises k i b h, same)
      go i h q (no a) (no b) d = d (omega arith)

  pub found_none : (e k : ℕ) → (k ≤ length (take n l)) × ((i : ℕ) → i < k → at (take n l) i < e) × ((i : ℕ) → k ≤ i → i < length (take n l) → e < at (take n l) i) → Found l n e n
  found_none e k p = record { within = omega arith; hit = λ h. omega arith; miss = λ i h d q. go i h q (dec_lt i k) }
    where
      go : (i : ℕ) → i < n → at l i ≡ e → Dec (i < k) → ⊥
      go i h q (yes a) = omega (arith, p.1 i a, used_at i h)
      go i h q (no a) = omega (arith, p.2 i (omega arith) (omega (arith, used_length)), used_at i h)

pub found_inside : (w : List ℕ) (used : ℕ) (l : List ℕ) (n e k : ℕ) → placed w used l n ≡ true → Found l n e k → k < n → e + 3 ≤ used
found_inside w used l n e k p F h = omega (arith, ends_read w used l n p k h, F.hit h)

-- ---- a number among a list's

pub elem_at : (l : List ℕ) (e k : ℕ) → k < length l → at l k ≡ e → elem e l ≡ true
unfolding elem
elem_at [] e k h q = absurd (not-suc-le-zero h)
elem_at (y ∷ l) e zero h q = or_left (eqb e y) (elem e l) (eq-eqb e y (sym q))
elem_at (y ∷ l) e (suc k) h q = or_right (eqb e y) (elem e l) (elem_at l e k (omega arith) q)

pub elem_none : (l : List ℕ) (e : ℕ) → ((i : ℕ) → i < length l → at l i ≡ e → ⊥) → elem e l ≡ false
unfolding elem
elem_none [] e h = refl
elem_none (y ∷ l) e h = or_neither (eqb e y) (elem e l) (ne_eqb e y (λ q. h 0 (omega arith) (sym q))) (elem_none l e (λ i b q. h (suc i) (omega arith) q))

module _ (w l : List ℕ) (n e k : ℕ) (room : n ≤ length l) (F : Found l n e k) where
  pub live_miss : n ≤ k → false ≡ is_live w (take n l) e
  unfolding is_live
  live_miss h = sym (and_fails_left _ _ (elem_none (take n l) e (λ i b q. F.miss i (omega (arith, length-take-le n l room)) (λ d. omega (arith, length-take-le n l room)) (sym (get_or-take n l i 0 (omega (arith, length-take-le n l room))) ∙ q))))

  pub live_hit : k < n → {d : Bool} → d ≡ deleted_at w e → not d ≡ is_live w (take n l) e
  unfolding is_live
  live_hit h ed = sym (ap (λ (b : Bool). b && not (deleted_at w e)) (elem_at (take n l) e k (omega (arith, length-take-le n l room)) (get_or-take n l k 0 h ∙ F.hit h)) ∙ ap not (sym ed))

elem_find : (l : List ℕ) (e : ℕ) → elem e l ≡ true → (k : ℕ) × (k < length l) × (at l k ≡ e)
unfolding elem
elem_find [] e h = absurd (true≢false (sym h))
elem_find (y ∷ l) e h = go (elem_find l e) (eqb e y) refl
  where
    go : (elem e l ≡ true → (k : ℕ) × (k < length l) × (at l k ≡ e)) → (b : Bool) → eqb e y ≡ b → (k : ℕ) × (k < length (y ∷ l)) × (at (y ∷ l) k ≡ e)
    go ih true q = (0, omega arith, sym (eqb-true e y q))
    go ih false q = let r = ih (ap (λ (b : Bool). b || elem e l) (sym q) ∙ h) in (suc r.0, omega (arith, r.1), r.2)

-- a live clause's reference, in the two ways that definitions say it
pub ref_is_live : (w l : List ℕ) (n e : ℕ) → n ≤ length l → any_below (ref_at w l e) n ≡ is_live w (take n l) e
unfolding ref_at is_live live_at
ref_is_live w l n e h = go (any_below (ref_at w l e) n) (is_live w (take n l) e) refl refl
  where
    listed : length (take n l) ≡ n
    listed = length-take-le n l h

    hit : any_below (ref_at w l e) n ≡ true → is_live w (take n l) e ≡ true
    hit q =
        let r = any_find (ref_at w l e) n q in
        let s : at l r.0 ≡ e = eqb-true (at l r.0) e (and_right (live_at w l r.0) _ r.2) in
        and_both _ _ (elem_at (take n l) e r.0 (omega (arith, listed, r.1)) (get_or-take n l r.0 0 r.1 ∙ s)) (ap (λ (z : ℕ). not (deleted_at w z)) (sym s) ∙ and_left _ _ r.2)

    miss : is_live w (take n l) e ≡ true → any_below (ref_at w l e) n ≡ true
    miss q =
        let r = elem_find (take n l) e (and_left _ _ q) in
        let b : r.0 < n = omega (arith, listed, r.1) in
        let s : at l r.0 ≡ e = sym (get_or-take n l r.0 0 b) ∙ r.2 in
        any_at (ref_at w l e) n r.0 b (and_both _ _ (ap (λ (z : ℕ). not (deleted_at w z)) s ∙ and_right (elem e (take n l)) _ q) (eq-eqb (at l r.0) e s))

    go : (a b : Bool) → any_below (ref_at w l e) n ≡ a → is_live w (take n l) e ≡ b → any_below (ref_at w l e) n ≡ is_live w (take n l) e
    go true b p q = p ∙ sym (hit p)
    go false true p q = miss q ∙ sym q
    go false false p q = p ∙ sym q
