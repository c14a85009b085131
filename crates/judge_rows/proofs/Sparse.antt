-- The sparse test is the rule on all pairs of codes: the entries that are not tested are as many as their partners only if each has its partner. Assumes nothing.
use mathlib.Core.Path.{◌≡◌, refl, sym, ap, ap₂, ◌∙◌, subst}
use mathlib.Core.Logic.{⊎_elim, ◌⊎◌, inl, inr}
use mathlib.Core.Bool.{Bool, true, false, ◌||◌, true≢false}
use mathlib.Core.List.{List}
use Prim.Native.Nat.{ℕ, zero, suc, ◌*◌, ◌≤◌, ◌<◌}
use native.Mathlib.Omega.{arith}
use native.Mathlib.Decide.{dec_lt}
use native.Mathlib.Nat.{mul-add, mul-zero, mul-one, one-mul, zero-mul}
use lib.ListN.{length}
use lib.Dec.{ltb}
use borrow.Author.Tests.{eq-eqb, ne_eqb, eqb-true, lt-ltb, le-ltb}
use Rattle.laws.specs.Fold.{all_below, one, count_below, sum_below}
use Rattle.laws.specs.Lists.{at, list_at}
use Rattle.laws.proofs.Folds.{and_left, and_right, and_both, or_right, all_at, all_of}
use Rattle.laws.proofs.Sums.{sum_same}
use Rattle.laws.proofs.Totals.{count_cases}
use Rattle.laws.proofs.Values.{sum_tight, sum_both, sum_zero, sum_only}
use Rattle.kinds.specs.Clauses.{neg}
use Rattle.kinds.specs.Held.{Held}
use Rattle.calls.specs.StorePasses.{stands_at, rows_in_range, times_in, symmetric_at, symmetric_with, rows_symmetric, row_length}
use Rattle.judge_rows.specs.Rows.{entry_even}
use Rattle.judge_rows.specs.Sparse.{shorter, down_at, down, up_from, up, sparse_at, sparse_row}
use Rattle.judge_rows.proofs.Symmetric.{neg_neg, neg_lt, bool_iff, entry_below, entries}

-- ---- a count over entries as a sum over values

weighted : (ℕ → Bool) → List ℕ → ℕ → ℕ → ℕ
weighted g l n x = one (g x) * count_below (stands_at l x) n

hit : (ℕ → Bool) → List ℕ → ℕ → ℕ → ℕ
hit g l n x = one (g x) * one (stands_at l x n)

module _ (f g : ℕ → Bool) (l : List ℕ) (top : ℕ) where
  by_value : (n : ℕ) → ((k : ℕ) → k < n → f k ≡ g (at l k)) → ((k : ℕ) → k < n → at l k < top) → count_below f n ≡ sum_below (weighted g l n) top
  unfolding count_below stands_at weighted hit
  by_value zero e b = sym (sum_zero (weighted g l 0) top (λ x h. mul-zero (one (g x))))
  by_value (suc n) e b =
      let y = at l n in
      let here : hit g l n y ≡ one (f n) = ap₂ (λ (p : Bool) (q : Bool). one p * one q) (sym (e n (omega arith))) (eq-eqb y y refl) ∙ mul-one (one (f n)) in
      let alone : sum_below (hit g l n) top ≡ hit g l n y = sum_only (hit g l n) top y (b n (omega arith)) (λ x h d. ap (λ (q : Bool). one (g x) * one q) (ne_eqb y x (λ z. d (sym z))) ∙ mul-zero (one (g x))) in
      let split = sum_both (weighted g l n) (hit g l n) (weighted g l (suc n)) top (λ x h. mul-add (one (g x)) (count_below (stands_at l x) n) (one (stands_at l x n))) in
      let before = by_value n (λ k h. e k (omega arith)) (λ k h. b k (omega arith)) in
      omega (arith, here, alone, split, before)

-- ---- a sum over all codes, by the negated ones

pub sum_negated : (f g : ℕ → ℕ) (v : ℕ) → ((y : ℕ) → y < 2 * v → g y ≡ f (neg y)) → sum_below g (2 * v) ≡ sum_below f (2 * v)
unfolding sum_below
sum_negated f g zero e = refl
sum_negated f g (suc v) e =
    let m = 2 * v in
    let two : 2 * suc v ≡ suc (suc (2 * v)) = omega arith in
    let low : g m ≡ f (suc m) = e m (omega arith) ∙ ap f (omega_up v) in
    let high : g (suc m) ≡ f m = e (suc m) (omega arith) ∙ ap f (omega_down v) in
    let before = sum_negated f g v (λ y h. e y (omega arith)) in
    rw two (omega (arith, low, high, before))
  where
    omega_up : (v : ℕ) → neg (2 * v) ≡ suc (2 * v)
    omega_up v = omega arith

    omega_down : (v : ℕ) → neg (suc (2 * v)) ≡ 2 * v
    omega_down v = omega arith

-- ---- the entries that are not tested

down_from : Held → ℕ → ℕ → ℕ
down_from h r y = one (shorter h r y) * times_in h r y

up_to : Held → ℕ → ℕ → ℕ
up_to h r y = one (shorter h r y) * times_in h (neg y) (neg r)

module _ (h : Held) (g : rows_in_range h ≡ true) where
  down_is : (r : ℕ) → r < 2 * h.vars → down h r ≡ sum_below (down_from h r) (2 * h.vars)
  unfolding down down_at times_in row_length down_from weighted
  down_is r l =
      by_value (down_at h r) (shorter h r) (list_at h.rows r) (2 * h.vars) (length (list_at h.rows r)) (λ k q. refl) (λ k q. entry_below h g r k l q)

  up_is : (r : ℕ) → up h r ≡ sum_below (up_to h r) (2 * h.vars)
  unfolding up up_from shorter row_length up_to
  up_is r = sym (sum_negated (up_from h r) (up_to h r) h.vars (λ y l. refl))

  module _ (e : all_below (sparse_row h) (2 * h.vars) ≡ true) where
    -- an entry whose partner's row is not longer
    tested : (r y : ℕ) → r < 2 * h.vars → row_length h (neg y) ≤ row_length h r → (times_in h r y ≡ 0) ⊎ (times_in h r y ≡ times_in h (neg y) (neg r))
    unfolding sparse_row sparse_at entry_even times_in stands_at row_length
    tested r y l q =
        ⊎_elim
        (λ z. inl z)
        (λ m. inr (from m.0 m.1 (eqb-true (at (list_at h.rows r) m.0) y m.2)))
        (count_cases (stands_at (list_at h.rows r) y) (length (list_at h.rows r)))
      where
        second : (a b : Bool) → a ≡ false → a || b ≡ true → b ≡ true
        second true b p s = absurd (true≢false p)
        second false b p s = s

        from : (k : ℕ) → k < length (list_at h.rows r) → at (list_at h.rows r) k ≡ y → times_in h r y ≡ times_in h (neg y) (neg r)
        from k m s =
            let b = at (list_at h.rows r) k in
            let all = and_left _ _ (all_at (sparse_row h) (2 * h.vars) e r l) in
            let even = second (ltb (row_length h r) (row_length h (neg b))) (entry_even h r k)
            (le-ltb (row_length h r) (row_length h (neg b)) (subst (λ (z : ℕ). row_length h (neg z) ≤ row_length h r) (sym s) q))
            (all_at (sparse_at h r) (row_length h r) all k m) in
            subst (λ (z : ℕ). times_in h r z ≡ times_in h (neg z) (neg r)) s (eqb-true (times_in h r b) (times_in h (neg b) (neg r)) even)

    -- no term of the one sum is above the other's
    at_most : (r y : ℕ) → r < 2 * h.vars → down_from h r y ≤ up_to h r y
    unfolding shorter down_from up_to
    at_most r y l = go (dec_lt (row_length h (neg y)) (row_length h r))
      where
        go : Dec (row_length h (neg y) < row_length h r) → down_from h r y ≤ up_to h r y
        go (yes q) =
            ⊎_elim
            (λ z. omega (arith, ap (λ (n : ℕ). one (shorter h r y) * n) z ∙ mul-zero (one (shorter h r y))))
            (λ z. omega (arith, ap (λ (n : ℕ). one (shorter h r y) * n) z))
            (tested r y l (omega arith))
        go (no q) =
            let f : shorter h r y ≡ false = le-ltb (row_length h (neg y)) (row_length h r) (omega arith) in
            omega (arith, ap (λ (b : Bool). one b * times_in h r y) f ∙ zero-mul (times_in h r y))

    strict : (r y : ℕ) → r < 2 * h.vars → y < 2 * h.vars → row_length h (neg y) < row_length h r → times_in h r y ≡ times_in h (neg y) (neg r)
    unfolding sparse_row shorter down_from up_to
    strict r y l m q =
        let sums : sum_below (down_from h r) (2 * h.vars) ≡ sum_below (up_to h r) (2 * h.vars) =
        sym (down_is r l) ∙ eqb-true (down h r) (up h r) (and_right (all_below (sparse_at h r) (row_length h r)) _ (all_at (sparse_row h) (2 * h.vars) e r l)) ∙ up_is r in
        let same = sum_tight (down_from h r) (up_to h r) (2 * h.vars) (λ k n. at_most r k l) sums y m in
        let f : shorter h r y ≡ true = lt-ltb (row_length h (neg y)) (row_length h r) q in
        sym (one-mul (times_in h r y)) ∙ ap (λ (b : Bool). one b * times_in h r y) (sym f) ∙ same ∙ ap (λ (b : Bool). one b * times_in h (neg y) (neg r)) f ∙ one-mul (times_in h (neg y) (neg r))

    pairs : (a b : ℕ) → a < 2 * h.vars → b < 2 * h.vars → times_in h (neg a) b ≡ times_in h (neg b) a
    pairs a b ha hb = go (dec_lt (row_length h (neg b)) (row_length h (neg a))) (dec_lt (row_length h (neg a)) (row_length h (neg b)))
      where
        meet : (times_in h (neg a) b ≡ 0) ⊎ (times_in h (neg a) b ≡ times_in h (neg b) (neg (neg a))) → (times_in h (neg b) a ≡ 0) ⊎ (times_in h (neg b) a ≡ times_in h (neg a) (neg (neg b))) → times_in h (neg a) b ≡ times_in h (neg b) a
        meet (inr p) s = p ∙ ap (times_in h (neg b)) (neg_neg a)
        meet (inl p) (inr q) = sym (q ∙ ap (times_in h (neg a)) (neg_neg b))
        meet (inl p) (inl q) = p ∙ sym q

        go : Dec (row_length h (neg b) < row_length h (neg a)) → Dec (row_length h (neg a) < row_length h (neg b)) → times_in h (neg a) b ≡ times_in h (neg b) a
        go (yes q) s = strict (neg a) b (neg_lt a h.vars ha) hb q ∙ ap (times_in h (neg b)) (neg_neg a)
        go (no p) (yes q) = sym (strict (neg b) a (neg_lt b h.vars hb) ha q ∙ ap (times_in h (neg a)) (neg_neg b))
        go (no p) (no q) = meet (tested (neg a) b (neg_lt a h.vars ha) (omega arith)) (tested (neg b) a (neg_lt b h.vars hb) (omega arith))

  module _ (e : rows_symmetric h ≡ true) where
    partner : (r y : ℕ) → r < 2 * h.vars → y < 2 * h.vars → times_in h r y ≡ times_in h (neg y) (neg r)
    unfolding rows_symmetric symmetric_with symmetric_at
    partner r y l m =
        ap (λ (z : ℕ). times_in h z y) (sym (neg_neg r))
        ∙ eqb-true (times_in h (neg (neg r)) y) (times_in h (neg y) (neg r)) (all_at (symmetric_at h (neg r)) (2 * h.vars) (all_at (symmetric_with h) (2 * h.vars) e (neg r) (neg_lt r h.vars l)) y m)

    row : (r : ℕ) → r < 2 * h.vars → sparse_row h r ≡ true
    unfolding sparse_row sparse_at down_from up_to
    row r l =
        and_both _ _
        (all_of (sparse_at h r) (row_length h r) (λ k m. or_right (ltb (row_length h r) (row_length h (neg (at (list_at h.rows r) k)))) _ (entries h g e r k l m)))
        (eq-eqb (down h r) (up h r) (down_is r l ∙ sum_same (down_from h r) (up_to h r) (2 * h.vars) (λ y m. ap (λ (n : ℕ). one (shorter h r y) * n) (partner r y l m)) ∙ sym (up_is r)))

  pub sparse_is : all_below (sparse_row h) (2 * h.vars) ≡ rows_symmetric h
  unfolding rows_symmetric symmetric_with symmetric_at
  sparse_is =
      bool_iff _ _
      (λ e. all_of (symmetric_with h) (2 * h.vars) (λ a ha. all_of (symmetric_at h a) (2 * h.vars) (λ b hb. eq-eqb (times_in h (neg a) b) (times_in h (neg b) a) (pairs e a b ha hb))))
      (λ e. all_of (sparse_row h) (2 * h.vars) (λ r l. row e r l))
