-- Numbering entries by code. Assumes nothing.
use mathlib.Core.Path.{◌≡◌, refl, sym, ap, ap₂, ◌∙◌, subst}
use mathlib.Core.Bool.{Bool, true, false}
use mathlib.Core.List.{List, []}
use mathlib.Core.Logic.{⊎_elim, inl, inr}
use Rattle.std.proofs.lemmas.Bool.{cases_Bool, cases_lt}
use Rattle.std.proofs.lemmas.List.{get_or_past}
use Prim.Native.Nat.{ℕ, zero, suc, ◌+◌, ◌-◌, ◌*◌, ◌^◌, ◌≤◌, ◌<◌}
use native.Mathlib.Omega.{arith}
use native.Mathlib.Decide.{ℕ_discrete}
use native.Mathlib.Nat.{mul-zero, one-mul, zero-mul, le_of_suc-le-suc, eq-or-lt_of_le}
use lib.ListN.{length, take, set, length-set, replicate, length-replicate, get_or-replicate}
use Rattle.std.proofs.lemmas.Grind.{get_or-set_at}
use Rattle.std.specs.List.{count_by}
use Rattle.std.proofs.lemmas.List.Sums.{count_by_more_yes, count_by_more_no}
use lib.Seq.{get_or-set_other, take-length}
use native.Mathlib.Numerals.{add-one}
use lib.Dec.{eqb, ltb}
use borrow.Author.Tests.{eq-eqb, ne_eqb, lt-ltb, le-ltb}
use Rattle.laws.specs.Fold.{all_below, one, count_below, sum_below}
use Rattle.laws.specs.Lists.{at, list_at}
use Rattle.laws.proofs.Loops.{and_on}
use Rattle.laws.proofs.Folds.{and_fails_left, or_left, count_none, count_more, count_le}
use Rattle.laws.proofs.Sums.{sum_none, sum_more}
use Rattle.laws.proofs.Totals.{count_yes, count_no}
use Rattle.laws.proofs.Values.{sum_mono}
use Rattle.kinds.specs.Clauses.{neg}
use Rattle.kinds.specs.Held.{Held}
use Rattle.calls.specs.StorePasses.{stands_at, times_in, row_length}
use Rattle.judge_rows.specs.declared.RangedRows.{RangedRows}
use Rattle.judge_rows.specs.Rows.{entry_even}
use Rattle.judge_rows.specs.Held.{held}
use Rattle.judge_rows.specs.Sparse.{up_from, Ups, UpsIn, Codes, Times, TimesLeft, shorter, down_at, down, up, sparse_at, sparse_row}
use Rattle.judge_rows.proofs.Places.{sum_in, sum_with}
use Rattle.judge_rows.proofs.Symmetric.{neg_neg, neg_lt, entry_below}

-- ---- one more entry of a row is counted

count_mono : (f : ℕ → Bool) (i n : ℕ) → i ≤ n → count_below f i ≤ count_below f n
unfolding count_below
count_mono f i zero l = let e : i ≡ 0 = omega arith in rw e (omega arith)
count_mono f i (suc n) l = ⊎_elim (λ q. omega (arith, ap (count_below f) q)) (λ q. omega (arith, count_mono f i n (le_of_suc-le-suc q))) (eq-or-lt_of_le l)

module _ (row : List ℕ) (k : ℕ) where
  count_here : (x : ℕ) → at row k ≡ x → count_below (stands_at row x) (k + 1) ≡ count_below (stands_at row x) k + 1
  unfolding stands_at
  count_here x e = count_more (stands_at row x) k ∙ ap (λ (t : Bool). count_below (stands_at row x) k + one t) (eq-eqb (at row k) x e)

  count_other : (x : ℕ) → (at row k ≡ x → ⊥) → count_below (stands_at row x) (k + 1) ≡ count_below (stands_at row x) k
  unfolding stands_at
  count_other x n = count_more (stands_at row x) k ∙ ap (λ (t : Bool). count_below (stands_at row x) k + one t) (ne_eqb (at row k) x n) ∙ omega arith

  pub times_more : (times : List ℕ) → Times row k times → at row k < 131072 → Times row (k + 1) (set times (at row k) (at times (at row k) + 1))
  times_more times t l = record { long = length-set times (at row k) (at times (at row k) + 1) ∙ t.long; each = λ x. go x (ℕ_discrete (at row k) x) }
    where
      go : (x : ℕ) → Dec (at row k ≡ x) → at (set times (at row k) (at times (at row k) + 1)) x ≡ count_below (stands_at row x) (k + 1)
      go x (yes e) = omega (arith, get_or-set_at times (at row k) x (at times (at row k) + 1) 0 (sym e) (omega (arith, t.long)), ap (at times) e, t.each x, count_here x e)
      go x (no n) = get_or-set_other times (at row k) x (at times (at row k) + 1) 0 (λ e. n (sym e)) ∙ t.each x ∙ sym (count_other x n)

  pub times_few : (times : List ℕ) → Times row k times → (x : ℕ) → at times x ≤ k
  times_few times t x = omega (arith, t.each x, count_le (stands_at row x) k)

  pub left_more : (times : List ℕ) → TimesLeft row k times → at row k < 131072 → 0 < at times (at row k) → TimesLeft row (k + 1) (set times (at row k) (at times (at row k) - 1))
  left_more times t l p = record { long = length-set times (at row k) (at times (at row k) - 1) ∙ t.long; each = λ x. go x (ℕ_discrete (at row k) x) }
    where
      go : (x : ℕ) → Dec (at row k ≡ x) → at (set times (at row k) (at times (at row k) - 1)) x + count_below (stands_at row x) (k + 1) ≡ count_below (stands_at row x) (length row)
      go x (yes e) = omega (arith, get_or-set_at times (at row k) x (at times (at row k) - 1) 0 (sym e) (omega (arith, t.long)), ap (at times) e, t.each x, count_here x e)
      go x (no n) = omega (arith, get_or-set_other times (at row k) x (at times (at row k) - 1) 0 (λ e. n (sym e)), t.each x, count_other x n)

  -- an entry that is still counted
  pub left_some : (times : List ℕ) → TimesLeft row k times → k < length row → 0 < at times (at row k)
  left_some times t l = omega (arith, t.each (at row k), count_here (at row k) refl, count_mono (stands_at row (at row k)) (k + 1) (length row) (omega arith))

-- where nothing is counted, it is nothing of any row
pub times_none : (row other times : List ℕ) → Times row 0 times → Times other 0 times
times_none row other times t = record { long = t.long; each = λ x. t.each x ∙ count_none (stands_at row x) ∙ sym (count_none (stands_at other x)) }

pub left_all : (row times : List ℕ) → Times row (length row) times → TimesLeft row 0 times
left_all row times t = record { long = t.long; each = λ x. omega (arith, t.each x, count_none (stands_at row x)) }

pub left_none : (row times : List ℕ) (k : ℕ) → TimesLeft row k times → k ≡ length row → Times row 0 times
left_none row times k t e = record { long = t.long; each = λ x. omega (arith, t.each x, count_none (stands_at row x), ap (count_below (stands_at row x)) e) }

-- how often a number stands in a row, as the library and as the rules count it
count_is : (row : List ℕ) (x : ℕ) → count_by (λ y. eqb y x) row ≡ count_below (stands_at row x) (length row)
unfolding count_below stands_at
count_is row x = rw take-length at (so_far (length row) (omega arith))
  where
    so_far : (k : ℕ) → k ≤ length row → count_by (λ y. eqb y x) (take k row) ≡ count_below (stands_at row x) k
    so_far zero l = refl
    so_far (suc k) l =
        elim (cases_Bool (eqb (at row k) x)) [
          | inl e ↦ omega (arith, ap (λ n. count_by (λ y. eqb y x) (take n row)) (add-one k), count_by_more_yes (λ y. eqb y x) row k 0 (omega arith) e, so_far k (omega arith), ap one e)
          | inr e ↦ omega (arith, ap (λ n. count_by (λ y. eqb y x) (take n row)) (add-one k), count_by_more_no (λ y. eqb y x) row k 0 (omega arith) e, so_far k (omega arith), ap one e)
        ]

-- ---- the entries that point to a longer row

module _ (h : Held) (c : ℕ) (row : List ℕ) where
  weight : ℕ → ℕ → ℕ
  weight x n = one (ltb (length row) (row_length h x)) * n

  module _ (k : ℕ) (ups : List ℕ) (u : UpsIn h c row k ups) where
    aside : (x : ℕ) → (neg (at row k) ≡ x → ⊥) → weight x (count_below (stands_at row (neg x)) (k + 1)) ≡ weight x (count_below (stands_at row (neg x)) k)
    aside x n = ap (weight x) (count_other row k (neg x) (λ e. n (ap neg e ∙ neg_neg x)))

    pub up_skip : row_length h (neg (at row k)) ≤ length row → UpsIn h c row (k + 1) ups
    unfolding weight
    up_skip l = record { long = u.long; each = λ x m. u.each x m ∙ ap (λ (n : ℕ). sum_below (up_from h x) c + n) (go x (ℕ_discrete (neg (at row k)) x)) }
      where
        go : (x : ℕ) → Dec (neg (at row k) ≡ x) → weight x (count_below (stands_at row (neg x)) k) ≡ weight x (count_below (stands_at row (neg x)) (k + 1))
        go x (yes e) = let q : ltb (length row) (row_length h x) ≡ false = le-ltb _ _ (subst (λ (y : ℕ). row_length h y ≤ length row) e l) in rw q (omega (arith, zero-mul (count_below (stands_at row (neg x)) k), zero-mul (count_below (stands_at row (neg x)) (k + 1))))
        go x (no n) = sym (aside x n)

    pub up_more : length row < row_length h (neg (at row k)) → neg (at row k) < 131072 → UpsIn h c row (k + 1) (set ups (neg (at row k)) (at ups (neg (at row k)) + 1))
    unfolding weight
    up_more l d = record { long = length-set ups (neg (at row k)) (at ups (neg (at row k)) + 1) ∙ u.long; each = λ x m. go x m (ℕ_discrete (neg (at row k)) x) }
      where
        go : (x : ℕ) → x < 2 * h.vars → Dec (neg (at row k) ≡ x) → at (set ups (neg (at row k)) (at ups (neg (at row k)) + 1)) x ≡ sum_below (up_from h x) c + weight x (count_below (stands_at row (neg x)) (k + 1))
        go x m (yes e) =
            let q : ltb (length row) (row_length h x) ≡ true = lt-ltb _ _ (subst (λ (y : ℕ). length row < row_length h y) e l) in
            let now : at ups x ≡ sum_below (up_from h x) c + weight x (count_below (stands_at row (neg x)) k) = u.each x m in
            let one_more : weight x (count_below (stands_at row (neg x)) (k + 1)) ≡ weight x (count_below (stands_at row (neg x)) k) + 1 =
            rw q (omega (arith, count_here row k (neg x) (sym (neg_neg (at row k)) ∙ ap neg e))) in
            omega (arith, get_or-set_at ups (neg (at row k)) x (at ups (neg (at row k)) + 1) 0 (sym e) (omega (arith, u.long)), ap (at ups) e, now, one_more)
        go x m (no n) = get_or-set_other ups (neg (at row k)) x (at ups (neg (at row k)) + 1) 0 (λ e. n (sym e)) ∙ u.each x m ∙ ap (λ (n : ℕ). sum_below (up_from h x) c + n) (sym (aside x n))

  module _ (e : row ≡ list_at h.rows c) where
    pub ups_in : (ups : List ℕ) → Ups h c ups → UpsIn h c row 0 ups
    ups_in ups u = record { long = u.long; each = λ x m. omega (arith, u.each x m, ap (λ (n : ℕ). one (ltb (length row) (row_length h x)) * n) (count_none (stands_at row (neg x))) ∙ mul-zero (one (ltb (length row) (row_length h x)))) }

    pub ups_next : (ups : List ℕ) (k : ℕ) → UpsIn h c row k ups → k ≡ length row → Ups h (c + 1) ups
    unfolding up_from times_in row_length
    ups_next ups k u q = record {
      long = u.long;
      each = λ x m. u.each x m ∙ rw (q, e) (sym (sum_more (up_from h x) c));
    }

    -- ---- an entry that points to a shorter row, or not

    points : (k : ℕ) → down_at h c k ≡ ltb (row_length h (neg (at row k))) (length row)
    unfolding down_at shorter row_length
    points k = rw e

    pub down_yes : (k : ℕ) {n : ℕ} → n ≡ count_below (down_at h c) k → row_length h (neg (at row k)) < length row → n + 1 ≡ count_below (down_at h c) (k + 1)
    down_yes k p l = count_yes (down_at h c) k p refl (points k ∙ lt-ltb _ _ l)

    pub down_no : (k : ℕ) {n : ℕ} → n ≡ count_below (down_at h c) k → length row ≤ row_length h (neg (at row k)) → n ≡ count_below (down_at h c) (k + 1)
    down_no k p l = count_no (down_at h c) k p refl (points k ∙ le-ltb _ _ l)

    pub down_few : (k : ℕ) {n : ℕ} → n ≡ count_below (down_at h c) k → n ≤ k
    down_few k p = omega (arith, count_le (down_at h c) k)

    pub down_end : (k : ℕ) {n : ℕ} → n ≡ count_below (down_at h c) k → k ≡ length row → n ≡ down h c
    unfolding down row_length
    down_end k p q = p ∙ rw (q, e)

    -- ---- the test of an entry

    pub sparse_skip : (k : ℕ) → length row < row_length h (neg (at row k)) → sparse_at h c k ≡ true
    unfolding sparse_at row_length
    sparse_skip k l = or_left _ _ (lt-ltb _ _ (rw e at l))

    pub sparse_test : (k other : ℕ) → other ≡ neg (at row k) → row_length h other ≤ length row
        → (times : List ℕ) → Times (list_at h.rows c) (row_length h c) times
        → (there : List ℕ) → there ≡ list_at h.rows other → (x : ℕ) → x ≡ neg c → {n : ℕ} → n ≡ count_by (λ y. eqb y x) there
        → sparse_at h c k ≡ eqb (at times (at row k)) n
    unfolding sparse_at entry_even times_in row_length
    sparse_test k other q l times t there f x g p =
        let n = rw (f, g, q) at p in
        rw (← e, le-ltb _ _ (rw q at l)) (ap₂ eqb (sym (rw (← e) at (t.each (at row k)))) (sym (n ∙ count_is _ _)))

-- ---- rows whose entries are in range

one_mul_le : (t : Bool) (n : ℕ) → one t * n ≤ n
one_mul_le true n = omega (arith, one-mul n)
one_mul_le false n = omega (arith, zero-mul n)

up_le : (h : Held) (x j : ℕ) → up_from h x j ≤ row_length h j
unfolding up_from times_in row_length
up_le h x j = omega (arith, one_mul_le (ltb (row_length h j) (row_length h x)) (times_in h j (neg x)), count_le (stands_at (list_at h.rows j) (neg x)) (length (list_at h.rows j)))

module _ (s : RangedRows) where
  -- what is numbered for a row by the rows below c is at most all entries
  sum_small : (x c : ℕ) → c ≤ 2 * s.rows.vars → sum_below (up_from (held s.rows) x) c ≤ 2 ^ 24
  sum_small x c l = omega (arith, sum_mono (up_from (held s.rows) x) (row_length (held s.rows)) c (λ j q. up_le (held s.rows) x j), sum_in _ _ _ s.rows.sized c l refl)

  module _ (c : ℕ) (l : c < 2 * s.rows.vars) (row : List ℕ) (e : row ≡ list_at (held s.rows).rows c) where
    pub entry_code : (k : ℕ) → k < length row → at row k < 2 * s.rows.vars
    unfolding row_length
    entry_code k m = rw e (entry_below (held s.rows) s.ranged c k l (rw e at m))

    pub partner_code : (k : ℕ) → k < length row → neg (at row k) < 2 * s.rows.vars
    partner_code k m = neg_lt (at row k) s.rows.vars (entry_code k m)

    pub row_codes : Codes row
    unfolding row_length
    row_codes = record { few = omega (arith, ap length e, sum_with _ _ _ s.rows.sized c l refl refl); each = λ k m. omega (arith, entry_code k m, s.rows.sized.most) }

    pub ups_small : (k : ℕ) → k < length row → (ups : List ℕ) → UpsIn (held s.rows) c row k ups → at ups (neg (at row k)) < 2 ^ 25
    ups_small k m ups u =
        let x = neg (at row k) in
        omega (arith, u.each x (partner_code k m), sum_small x c (omega arith), one_mul_le (ltb (length row) (row_length (held s.rows) x)) (count_below (stands_at row (neg x)) k), count_le (stands_at row (neg x)) k, row_codes.few)

-- ---- the test of a row

module _ (h : Held) (c : ℕ) {a : Bool} (p : a ≡ all_below (sparse_at h c) (row_length h c)) where
  pub row_out : a ≡ false → sparse_row h c ≡ false
  unfolding sparse_row
  row_out t = and_fails_left _ _ (sym p ∙ t)

  pub row_test : a ≡ true → {d u : ℕ} → d ≡ down h c → u ≡ up h c → sparse_row h c ≡ eqb d u
  unfolding sparse_row
  row_test t e f = sym (and_on (sym p ∙ t) (ap₂ eqb e f))

pub ups_there : (h : Held) (n : ℕ) (ups : List ℕ) → Ups h n ups → n ≡ 2 * h.vars → (c : ℕ) → c < 2 * h.vars → at ups c ≡ up h c
unfolding up
ups_there h n ups u e c l = u.each c l ∙ ap (sum_below (up_from h c)) e

-- nothing is numbered at first, and nothing counted
pub no_ups : (h : Held) → h.vars ≤ 65536 → Ups h 0 (replicate 131072 0)
no_ups h l = record {
  long = length-replicate {A = ℕ} 131072 0;
  each = λ x m. get_or-replicate {A = ℕ} 131072 x 0 0 (omega arith) ∙ sym (sum_none (up_from h x));
}

pub no_times : Times [] 0 (replicate 131072 0)
no_times = record {
  long = length-replicate {A = ℕ} 131072 0;
  each = λ x. elim (cases_lt x 131072) [
    | inl l ↦ get_or-replicate {A = ℕ} 131072 x 0 0 l ∙ sym (count_none (stands_at [] x))
    | inr l ↦ get_or_past (replicate {A = ℕ} 131072 0) x 0 (rw length-replicate l) ∙ sym (count_none (stands_at [] x))
  ];
}
