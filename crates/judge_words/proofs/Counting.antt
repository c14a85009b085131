-- Counts and live words. Assumes nothing.
use mathlib.Core.Path.{◌≡◌, refl, sym, ap, ap₂, ◌∙◌, subst}
use mathlib.Core.Bool.{Bool, true, false, not, ◌&&◌}
use mathlib.Core.List.{List}
use Prim.Native.Nat.{ℕ, zero, suc, ◌+◌, ◌-◌, ◌*◌, ◌≤◌, ◌<◌}
use native.Mathlib.Omega.{arith}
use native.Mathlib.Numerals.{add-one}
use native.Mathlib.Nat.{add-zero}
use lib.Dec.{eqb, leb}
use lib.Pointwise.{pointwise}
use Rattle.std.proofs.lemmas.Slice.Eq.{slice_eq-Decides}
use Rattle.std.proofs.lemmas.Bool.Decides.{Decides-eqb}
use Rattle.std.proofs.lemmas.List.{ext_get_or}
use Rattle.laws.proofs.Chains.{all_iff}
use lib.ListN.{length, set, replicate, get_or-replicate}
use lib.Seq.{get_or-set_same, get_or-set_other}
use borrow.Author.Tests.{le-leb, lt-leb, eq-eqb, eqb-true, eqb-false}
use native.Mathlib.Decide.{dec_le}
use Rattle.laws.specs.Fold.{one, count_below, sum_below}
use Rattle.laws.specs.Lists.{at}
use Rattle.laws.proofs.Folds.{count_none, count_more, and_fails_left}
use Rattle.laws.proofs.Sums.{sum_more}
use Rattle.kinds.specs.Clauses.{end_at, size_at, len_at, deleted_at, tier_at}
use Rattle.calls.specs.StorePasses.{placed, live_at, live_in, count_ok, counts_ok, live_size, garbage_ok}
use Rattle.calls.proofs.Readings.{ends_read, next_read}
use Rattle.judge_words.specs.Judging.{Tally}
use Rattle.judge_words.proofs.Clauses.{live_is}

-- ---- the tally

-- one more at k
set_tally : (c : List ℕ) (k t : ℕ) → k < length c → at (set c k (at c k + 1)) t ≡ at c t + one (eqb k t)
set_tally c k t h = go (eqb k t) refl
  where
    go : (b : Bool) → eqb k t ≡ b → at (set c k (at c k + 1)) t ≡ at c t + one b
    go true e = subst (λ (z : ℕ). at (set c k (at c k + 1)) z ≡ at c z + 1) (eqb-true k t e) (get_or-set_same c k (at c k + 1) 0 h)
    go false e = get_or-set_other c k t (at c k + 1) 0 (λ q. eqb-false k t e (sym q)) ∙ sym (add-zero _)

pub tally_none : (w l : List ℕ) → Tally w l 0 (replicate 4 0)
tally_none w l = record { each = λ t h. get_or-replicate 4 t 0 0 h ∙ sym (count_none (live_in w l t)) }

-- o is clause i's offset
module _ (w l : List ℕ) (i o : ℕ) (eo : o ≡ at l i) {d : Bool} (ed : d ≡ deleted_at w o) where
  pub tally_skip : (c : List ℕ) → Tally w l i c → d ≡ true → Tally w l (i + 1) c
  unfolding live_in
  tally_skip c T e =
      record { each = λ t lt. T.each t lt ∙ sym (count_more (live_in w l t) i ∙ ap (λ (b : Bool). count_below (live_in w l t) i + one b) (and_fails_left _ _ (live_is w l i o eo ed ∙ ap not e)) ∙ add-zero _) }

  in_is : (t x : ℕ) → x ≡ tier_at w o → d ≡ false → live_in w l t i ≡ eqb x t
  unfolding live_in
  in_is t x ex e = ap₂ (λ (a b : Bool). a && b) (live_is w l i o eo ed ∙ ap not e) (ap (λ (z : ℕ). eqb z t) (ap (tier_at w) (sym eo) ∙ sym ex))

  pub tally_add : (c : List ℕ) → length c ≡ 4 → Tally w l i c → d ≡ false → (x : ℕ) → x ≡ tier_at w o → x < 4 → Tally w l (i + 1) (set c x (at c x + 1))
  tally_add c len T e x ex b =
      record { each = λ t lt. set_tally c x t (omega arith) ∙ ap₂ (λ (a z : ℕ). a + z) (T.each t lt) (ap one (sym (in_is t x ex e))) ∙ sym (count_more (live_in w l t) i) }

-- c is the tally that the counts are held against
pub counts_equal : (w l : List ℕ) (n : ℕ) (counts c : List ℕ) → Tally w l n c → length counts ≡ 4 → length c ≡ 4 → {r : Bool} → r ≡ pointwise eqb counts c → r ≡ counts_ok w l n counts
unfolding counts_ok count_ok
counts_equal w l n counts c T h k e =
    let d = slice_eq-Decides Decides-eqb counts c _ e in
    all_iff (count_ok w l n counts) 4 (
      λ q t b. eq-eqb _ _ (ap (λ (x : List ℕ). at x t) (d.0 q) ∙ T.each t b),
      λ q. d.1 (ext_get_or 0 counts c (h ∙ sym k) (λ t b. eqb-true _ _ (q t (omega arith)) ∙ sym (T.each t (omega arith)))),
    )

-- ---- the live words

module _ (w l : List ℕ) (i o : ℕ) (eo : o ≡ at l i) {d : Bool} (ed : d ≡ deleted_at w o) {total : ℕ} (T : total ≡ sum_below (live_size w l) i) where
  pub words_skip : d ≡ true → total ≡ sum_below (live_size w l) (i + 1)
  unfolding live_size
  words_skip e = T ∙ sym (sum_more (live_size w l) i ∙ ap (λ (b : Bool). sum_below (live_size w l) i + one b * size_at w (at l i)) (live_is w l i o eo ed ∙ ap not e) ∙ none (sum_below (live_size w l) i) (size_at w (at l i)))
    where
      none : (a b : ℕ) → a + 0 * b ≡ a
      none a b = omega arith

  pub words_add : d ≡ false → (x : ℕ) → x ≡ at w (o + 2) → total + (x + 3) ≡ sum_below (live_size w l) (i + 1)
  unfolding live_size
  words_add e x ex =
      ap₂ (λ (a b : ℕ). a + (b + 3)) T (ex ∙ ap (len_at w) eo)
      ∙ sym (sum_more (live_size w l) i ∙ ap (λ (b : Bool). sum_below (live_size w l) i + one b * size_at w (at l i)) (live_is w l i o eo ed ∙ ap not e) ∙ whole (sum_below (live_size w l) i) (size_at w (at l i)))
    where
      whole : (a b : ℕ) → a + 1 * b ≡ a + b
      whole a b = omega arith

-- live clauses do not overlap: their words are within the used ones
one_at_most : (b : Bool) (x : ℕ) → one b * x ≤ x
one_at_most true x = omega arith
one_at_most false x = omega arith

module _ (w : List ℕ) (used : ℕ) (l : List ℕ) (n : ℕ) (p : placed w used l n ≡ true) where
  up_to : (i : ℕ) → i < n → sum_below (live_size w l) i ≤ at l i
  unfolding sum_below live_size
  up_to zero h = omega arith
  up_to (suc i) h =
      let s : end_at w (at l i) ≤ at l (suc i) = subst (λ (z : ℕ). end_at w (at l i) ≤ at l z) (add-one i) (next_read w used l n p i (omega arith)) in
      omega (arith, up_to i (omega arith), one_at_most (live_at w l i) (size_at w (at l i)))

  pub live_within : (i : ℕ) → i < n → sum_below (live_size w l) i + size_at w (at l i) ≤ used
  live_within i h = omega (arith, up_to i h, ends_read w used l n p i h)

  -- one more clause's words: o is its offset, x its length word
  pub words_fit : (i : ℕ) → i < n → (o x total : ℕ) → o ≡ at l i → x ≡ at w (o + 2) → total ≡ sum_below (live_size w l) i → total + (x + 3) ≤ used
  words_fit i h o x total eo ex et = omega (arith, live_within i h, ex ∙ ap (len_at w) eo)

-- ---- the garbage
module _ (w : List ℕ) (used : ℕ) (l : List ℕ) (n g : ℕ) where
  pub garbage_over : used < g → false ≡ garbage_ok w used l n g
  unfolding garbage_ok
  garbage_over h = sym (lt-leb (g + sum_below (live_size w l) n) used (omega arith))

  pub garbage_test : g ≤ used → (x : ℕ) → x ≡ sum_below (live_size w l) n → leb x (used - g) ≡ garbage_ok w used l n g
  unfolding garbage_ok
  garbage_test h x ex = subst (λ (z : ℕ). leb x (used - g) ≡ leb (g + z) used) ex (go (dec_le x (used - g)))
    where
      go : Dec (x ≤ used - g) → leb x (used - g) ≡ leb (g + x) used
      go (yes q) = le-leb x (used - g) q ∙ sym (le-leb (g + x) used (omega arith))
      go (no q) = lt-leb x (used - g) (omega arith) ∙ sym (lt-leb (g + x) used (omega arith))
