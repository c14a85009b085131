-- Between the tests of passing and the rules by entries: what the tests say where they hold, and that they hold where the rules do. Assumes nothing.
use mathlib.Core.Path.{◌≡◌, refl, sym, ap, ◌∙◌, subst}
use mathlib.Core.Bool.{Bool, true, false, not, ◌&&◌, ◌||◌, true≢false}
use mathlib.Core.Logic.{⊎_elim, ◌⊎◌, inl, inr}
use mathlib.Core.List.{List, [], ◌∷◌}
use Prim.Native.Nat.{ℕ, zero, suc, ◌+◌, ◌*◌, ◌≤◌, ◌<◌}
use native.Mathlib.Nat.{le_of_suc-le-suc, not-suc-le-zero}
use native.Mathlib.Numerals.{add-one}
use native.Mathlib.Omega.{arith}
use lib.ListN.{length}
use lib.Dec.{eqb, leb, ltb, T}
use lib.Ieee.{binary32, fits}
use borrow.Author.Tests.{leb-true, leb-false, ltb-true, eqb-true, not-true, lt-ltb, le-leb, eq-eqb, ne_eqb}
use Rattle.laws.specs.Fold.{all_below, any_below, count_below, sum_below}
use Rattle.laws.specs.Lists.{at, list_at, elem}
use Rattle.laws.specs.Counts.{count}
use Rattle.laws.proofs.Folds.{and_both, and_left, and_right, or_left, or_right, all_of, any_at, any_no, any_find}
use Rattle.laws.proofs.Members.{In, sum_list, sum_places}
use Rattle.laws.proofs.Sums.{count_sum, count_places}
use Rattle.laws.proofs.Entries.{elem_none, elem_index, elem_place}
use Rattle.kinds.specs.Header.{tier_of, mark_of, glue_of, spare_of}
use Rattle.kinds.specs.Clauses.{activity_at, head_at, len_at, end_at, tier_at, deleted_at, is_live, var_of, neg}
use Rattle.kinds.specs.Floats.{limit_bits, activity_ok, bump_ok, inverse_ok}
use Rattle.kinds.specs.Held.{Held, Side, kind_of, reason_word}
use Rattle.calls.specs.Call.{everything}
use Rattle.calls.specs.StorePasses.{placed_at, placed, live_at, apart, lit_ok, lits_ok, head_ok, clause_ok, clause_ok_at, clauses_ok, live_in, count_ok, counts_ok, live_size, garbage_ok, stands_at, covered_at, covered, ref_at, inside_at, stale_ok, entry_ok, entries_ok, tier_ok, tiers_ok, row_entry_ok, row_in_range, rows_in_range, times_in, symmetric_at, symmetric_with, rows_symmetric, row_length, binary_ok, words_pass, rows_pass, floats_pass, store_passes}
use Rattle.calls.specs.HostPasses.{at_most_at, values_in_range, kinds_in_range, trail_in_range, levels_in_range, level_in_range, trail_ok_at, trail_ok, on_trail, off_trail_ok, removed_ok, binary_reason_ok, binary_reasons_ok, other_false, reason_clause_ok, long_reason_ok, long_reasons_ok, side_passes, host_passes}
use Rattle.calls.proofs.Readings.{Lits, LiveClause, HostSide, words_pass_lem, tiers_pass, rows_pass_lem, floats_pass_lem, levels_pass, side_pass, reasons_pass, held_words, held_tier, rows_read, floats_read, reason_read}
use Rattle.passing.proofs.Store.{in_tier_lem, live_words, Chain, chain_in, Stale, Live, Store}
use Rattle.passing.proofs.Good.{Quiet, Even, Tuned, Reasons, Good}

-- ---- small tests

unless_test : (a b : Bool) → (a ≡ true → b ≡ true) → not a || b ≡ true
unless_test true b h = h refl
unless_test false b h = refl

not_test : (a : Bool) → a ≡ false → not a ≡ true
not_test a e = ap not e

no_test : (a : Bool) → (a ≡ true → ⊥) → a ≡ false
no_test true h = absurd (h refl)
no_test false h = refl

-- ---- chains, by places

pub chain_of : (lo used : ℕ) (w l : List ℕ) → ((i : ℕ) → i < length l → end_at w (at l i) ≤ used) → ((i : ℕ) → suc i < length l → end_at w (at l i) ≤ at l (suc i)) → lo ≤ used → (0 < length l → lo ≤ at l 0) → Chain lo used w l
chain_of lo used w [] e n h k = h
chain_of lo used w (o ∷ l) e n h k =
    (k (omega arith), chain_of (end_at w o) used w l (λ i m. e (suc i) (omega arith)) (λ i m. n (suc i) (omega arith)) (e zero (omega arith)) (λ m. n zero (omega arith)))

pub chain_next : (lo hi : ℕ) (w l : List ℕ) → Chain lo hi w l → (i : ℕ) → suc i < length l → end_at w (at l i) ≤ at l (suc i)
chain_next lo hi w [] c i h = absurd (not-suc-le-zero h)
chain_next lo hi w (o ∷ []) c i h = absurd (omega arith)
chain_next lo hi w (o ∷ x ∷ l) (a, (b, c)) zero h = b
chain_next lo hi w (o ∷ x ∷ l) (a, c) (suc i) h = chain_next (end_at w o) hi w (x ∷ l) c i (le_of_suc-le-suc h)

-- ---- sums

tier_sum : (w l : List ℕ) (t : ℕ) → count_below (live_in w l t) (length l) ≡ sum_list (in_tier_lem w t) l
unfolding live_in live_at in_tier_lem
tier_sum w l t = count_sum (live_in w l t) (length l) ∙ sum_places (in_tier_lem w t) l

words_sum : (w l : List ℕ) → sum_below (live_size w l) (length l) ≡ sum_list (live_words w) l
unfolding live_size live_at live_words
words_sum w l = sum_places (live_words w) l

times_count : (row : List ℕ) (x : ℕ) → count_below (stands_at row x) (length row) ≡ count x row
unfolding stands_at
times_count row x = count_sum (stands_at row x) (length row) ∙ count_places x row

-- ---- a place in a tier's list

stands_in : (tl : List ℕ) (o : ℕ) → any_below (stands_at tl o) (length tl) ≡ true → In o tl
unfolding stands_at
stands_in tl o e = let r = any_find (stands_at tl o) (length tl) e in subst (λ (z : ℕ). In z tl) (eqb-true (at tl r.0) o r.2) (elem_index tl r.0 r.1)

in_stands : (tl : List ℕ) (o : ℕ) → In o tl → any_below (stands_at tl o) (length tl) ≡ true
unfolding stands_at
in_stands tl o m = let r = elem_place o tl m in any_at (stands_at tl o) (length tl) r.0 r.1 (eq-eqb (at tl r.0) o r.2)

-- ---- the store

module _ (w : List ℕ) (used : ℕ) (l : List ℕ) (e : ℕ) where
  ref_live : any_below (ref_at w l e) (length l) ≡ true → Live w l e
  unfolding ref_at live_at
  ref_live q =
      let r = any_find (ref_at w l e) (length l) q in
      let s = eqb-true (at l r.0) e (and_right (not (deleted_at w (at l r.0))) _ r.2) in
      (subst (λ (z : ℕ). In z l) s (elem_index l r.0 r.1), subst (λ (z : ℕ). deleted_at w z ≡ false) s (not-true _ (and_left _ _ r.2)))

  live_ref : Live w l e → any_below (ref_at w l e) (length l) ≡ true
  unfolding ref_at live_at
  live_ref (m, d) =
      let r = elem_place e l m in
      any_at (ref_at w l e) (length l) r.0 r.1 (and_both _ _ (subst (λ (z : ℕ). not (deleted_at w z) ≡ true) (sym r.2) (not_test (deleted_at w e) d)) (eq-eqb (at l r.0) e r.2))

  stale_of : stale_ok w used l (length l) e ≡ true → Stale w used l e
  unfolding stale_ok inside_at live_at
  stale_of q =
      let b = and_right (leb (e + 3) used) _ q in
      record {
        within = leb-true (e + 3) used (and_left _ _ q);
        deleted = and_left _ _ b;
        outside = λ x m d f g.
            let r = elem_place x l m in
            let hit : inside_at w l (e + 1) r.0 ≡ true =
            subst (λ (z : ℕ). not (deleted_at w z) && (leb z (e + 1) && ltb (e + 1) (end_at w z)) ≡ true) (sym r.2)
            (and_both _ _ (not_test (deleted_at w x) d) (and_both _ _ (le-leb x (e + 1) f) (lt-ltb (e + 1) (end_at w x) g))) in
            true≢false (sym (any_at (inside_at w l (e + 1)) (length l) r.0 r.1 hit) ∙ not-true _ (and_right (deleted_at w e) _ b));
      }

  of_stale : Stale w used l e → stale_ok w used l (length l) e ≡ true
  unfolding stale_ok inside_at live_at
  of_stale s =
      and_both _ _ (le-leb (e + 3) used s.within) (and_both _ _ s.deleted (not_test _ (any_no (inside_at w l (e + 1)) (length l)
      (λ i h. no_test (inside_at w l (e + 1) i) (λ q.
      let b = and_right (not (deleted_at w (at l i))) _ q in
      s.outside (at l i) (elem_index l i h) (not-true _ (and_left _ _ q)) (leb-true (at l i) (e + 1) (and_left _ _ b)) (ltb-true (e + 1) (end_at w (at l i)) (and_right (leb (at l i) (e + 1)) _ b)))))))

module _ (h : Held) (W : words_pass h ≡ true) (E : tiers_ok h ≡ true) where
  live_clause : (o : ℕ) → In o h.clauses → deleted_at h.words o ≡ false → LiveClause h.words h.vars o
  live_clause o m d =
      let r = elem_place o h.clauses m in
      subst (λ (z : ℕ). LiveClause h.words h.vars z) r.2 ((held_words h W).clause r.0 r.1 (subst (λ (z : ℕ). deleted_at h.words z ≡ false) (sym r.2) d))

  pub quiet_read : Quiet h.words h.clauses
  quiet_read o m d = (live_clause o m d).activity

  covered_read : (o : ℕ) → In o h.clauses → deleted_at h.words o ≡ false → In o (list_at h.tiers (tier_at h.words o))
  unfolding live_in live_at
  covered_read o m d =
      let r = elem_place o h.clauses m in
      let t = tier_at h.words o in
      stands_in (list_at h.tiers t) o
      (subst (λ (z : ℕ). any_below (stands_at (list_at h.tiers t) z) (length (list_at h.tiers t)) ≡ true) r.2
      ((held_tier h E t (omega arith)).listed r.0 r.1
      (subst (λ (z : ℕ). not (deleted_at h.words z) && eqb (tier_at h.words z) t ≡ true) (sym r.2) (and_both _ _ (not_test _ d) (eq-eqb t t refl)))))

  entry_read : (t e : ℕ) → t < 4 → In e (list_at h.tiers t) → Live h.words h.clauses e ⊎ Stale h.words h.used h.clauses e
  entry_read t e k m =
      let r = elem_place e (list_at h.tiers t) m in
      subst (λ (z : ℕ). Live h.words h.clauses z ⊎ Stale h.words h.used h.clauses z) r.2
      (⊎_elim (λ q. inl (ref_live h.words h.used h.clauses _ q)) (λ q. inr (stale_of h.words h.used h.clauses _ q)) ((held_tier h E t k).entry r.0 r.1))

  pub store_read : length h.counts ≡ 4 → length h.tiers ≡ 4 → h.used ≤ length h.words → Store h.vars h.words h.used h.clauses h.counts h.garbage h.tiers []
  store_read four lists room =
      let s = held_words h W in
      record {
        chain = chain_of 0 h.used h.words h.clauses s.ends
            (λ i k. subst (λ (x : ℕ). end_at h.words (at h.clauses i) ≤ at h.clauses x) (add-one i) (s.next i (omega arith))) (omega arith) (λ q. omega arith);
        clause = λ o m d. let c = live_clause o m d in record { three = c.three; most = c.most; lits = c.lits; mark = c.mark; spare = c.spare; glue = c.glue };
        counts = λ t k. s.counts t k ∙ tier_sum h.words h.clauses t;
        garbage = let a = s.garbage in let b = words_sum h.words h.clauses in omega arith;
        covered = λ o m d. inl (covered_read o m d);
        entry = entry_read;
        four_counts = four;
        four_lists_lem = lists;
        room = room;
      }

pub lits_test : (w : List ℕ) (v s n : ℕ) → Lits w v s n → lits_ok w v s n ≡ true
unfolding lits_ok lit_ok apart
lits_test w v s n c =
    all_of (lit_ok w v s) n (λ j h. and_both _ _ (lt-ltb (at w (s + j)) (2 * v) (c.below j h))
    (all_of (apart w s j) j (λ k g. not_test _ (ne_eqb (var_of (at w (s + k))) (var_of (at w (s + j))) (c.apart j k h g)))))

module _ (h : Held) (S : Store h.vars h.words h.used h.clauses h.counts h.garbage h.tiers []) (Q : Quiet h.words h.clauses) where
  clause_test : (o : ℕ) → In o h.clauses → deleted_at h.words o ≡ false → clause_ok h.words h.vars o ≡ true
  unfolding clause_ok head_ok activity_ok
  clause_test o m d =
      let w = h.words in
      let c = S.clause o m d in
      and_both _ _ (le-leb 3 (len_at w o) c.three) (and_both _ _ (le-leb (len_at w o) h.vars c.most) (and_both _ _ (lits_test w h.vars (o + 3) (len_at w o) c.lits)
      (and_both _ _ (and_both _ _ (eq-eqb (mark_of (head_at w o)) 0 c.mark) (and_both _ _ (eq-eqb (spare_of (head_at w o)) 0 c.spare)
      (unless_test (eqb (tier_of (head_at w o)) 0) _ (λ q. eq-eqb (glue_of (head_at w o)) 0 (c.glue (eqb-true (tier_at w o) 0 q))))))
      (le-leb (activity_at w o) limit_bits (Q o m d)))))

  pub words_test : words_pass h ≡ true
  unfolding words_pass placed placed_at clauses_ok clause_ok_at live_at counts_ok count_ok garbage_ok
  words_test =
      let w = h.words in
      let l = h.clauses in
      and_both _ _
      (all_of (placed_at w h.used l (length l)) (length l)
      (λ i k. and_both _ _ (le-leb (end_at w (at l i)) h.used (chain_in 0 h.used w l S.chain (at l i) (elem_index l i k)).1) (next i (leb (length l) (i + 1)) refl)))
      (and_both _ _ (all_of (clause_ok_at w h.vars l) (length l) (λ i k. unless_test (live_at w l i) _ (λ q. clause_test (at l i) (elem_index l i k) (not-true _ q))))
      (and_both _ _ (all_of (count_ok w l (length l) h.counts) 4 (λ t k. eq-eqb _ _ (S.counts t k ∙ sym (tier_sum w l t))))
      (le-leb _ h.used (let a = S.garbage in let b = words_sum w l in omega arith))))
    where
      next : (i : ℕ) (b : Bool) → leb (length h.clauses) (i + 1) ≡ b → b || leb (end_at h.words (at h.clauses i)) (at h.clauses (i + 1)) ≡ true
      next i true q = refl
      next i false q =
          let k = leb-false (length h.clauses) (i + 1) q in
          le-leb _ _ (subst (λ (x : ℕ). end_at h.words (at h.clauses i) ≤ at h.clauses x) (sym (add-one i)) (chain_next 0 h.used h.words h.clauses S.chain i (omega arith)))

  pub tiers_test : tiers_ok h ≡ true
  unfolding tiers_ok tier_ok covered covered_at live_in live_at entries_ok entry_ok
  tiers_test =
      let w = h.words in
      let l = h.clauses in
      all_of (tier_ok h) 4 (λ t k.
      let tl = list_at h.tiers t in
      and_both _ _
      (all_of (covered_at w l t tl (length tl)) (length l) (λ i n. unless_test (live_in w l t i) _ (λ q.
      let here = eqb-true (tier_at w (at l i)) t (and_right (not (deleted_at w (at l i))) _ q) in
      ⊎_elim
      (λ r. in_stands tl (at l i) (subst (λ (z : ℕ). In (at l i) (list_at h.tiers z)) here r))
      (λ r. absurd (elem_none (at l i) r))
      (S.covered (at l i) (elem_index l i n) (not-true _ (and_left _ _ q))))))
      (all_of (entry_ok w h.used l (length l) tl) (length tl) (λ q n.
      ⊎_elim
      (λ r. or_left _ _ (live_ref w h.used l (at tl q) r))
      (λ r. or_right (any_below (ref_at w l (at tl q)) (length l)) _ (of_stale w h.used l (at tl q) r))
      (S.entry t (at tl q) k (elem_index tl q n)))))

-- ---- the rows

pub rows_of_lem : (h : Held) → rows_pass h ≡ true → length h.rows ≡ 2 * h.vars → Even h.vars h.rows h.binary
unfolding times_in row_length
rows_of_lem h e long =
    let r = rows_read h e in
    record {
      long = long;
      below = λ c x k m. let i = elem_place x (list_at h.rows c) m in subst (λ (z : ℕ). z < 2 * h.vars) i.2 (r.below c i.0 k i.1);
      apart = λ c x k m q. let i = elem_place x (list_at h.rows c) m in r.apart c i.0 k i.1 (ap var_of i.2 ∙ q);
      even = λ x y a b. sym (times_count (list_at h.rows (neg x)) y) ∙ r.even x y a b ∙ times_count (list_at h.rows (neg y)) x;
      half = r.half;
    }

pub rows_test : (h : Held) → Even h.vars h.rows h.binary → rows_pass h ≡ true
unfolding rows_pass rows_in_range row_in_range row_entry_ok rows_symmetric symmetric_with symmetric_at times_in binary_ok row_length
rows_test h r =
    and_both _ _
    (all_of (row_in_range h) (2 * h.vars) (λ c k. all_of (row_entry_ok h c) (length (list_at h.rows c)) (λ q n.
    let m = elem_index (list_at h.rows c) q n in
    and_both _ _ (lt-ltb _ _ (r.below c _ k m)) (not_test _ (ne_eqb _ _ (r.apart c _ k m))))))
    (and_both _ _
    (all_of (symmetric_with h) (2 * h.vars) (λ x a. all_of (symmetric_at h x) (2 * h.vars) (λ y b.
    eq-eqb (times_in h (neg x) y) (times_in h (neg y) x) (times_count (list_at h.rows (neg x)) y ∙ r.even x y a b ∙ sym (times_count (list_at h.rows (neg y)) x)))))
    (eq-eqb (h.binary * 2) (sum_below (row_length h) (2 * h.vars)) r.half))

-- ---- bump and inverse decay

pub tuned_of : (h : Held) → floats_pass h ≡ true → T (fits binary32 h.activity.bump) → T (fits binary32 h.activity.inv_decay) → Tuned h.activity.bump h.activity.inv_decay
tuned_of h e f g = let r = floats_read h e in record { bump = r.bump; above = r.above; below = r.below; bump_fits = f; inverse_fits = g }

pub floats_test : (h : Held) → Tuned h.activity.bump h.activity.inv_decay → floats_pass h ≡ true
unfolding floats_pass bump_ok inverse_ok
floats_test h r = and_both _ _ (lt-ltb _ _ r.bump) (and_both _ _ (lt-ltb _ _ r.above) (lt-ltb _ _ r.below))

-- ---- the host's side

at_most_test : (m : ℕ) (l : List ℕ) (n : ℕ) → ((i : ℕ) → i < n → at l i ≤ m) → all_below (at_most_at m l) n ≡ true
unfolding at_most_at
at_most_test m l n h = all_of (at_most_at m l) n (λ i k. le-leb (at l i) m (h i k))

pub side_test : (v : ℕ) (s : Side) → HostSide v s → side_passes v s ≡ true
unfolding side_passes values_in_range kinds_in_range trail_in_range level_in_range trail_ok trail_ok_at removed_ok off_trail_ok binary_reasons_ok binary_reason_ok
side_test v s r =
    and_both _ _ (at_most_test 2 s.values v r.values)
    (and_both _ _ (at_most_test 4 s.kinds v r.kinds)
    (and_both _ _ (lits_test s.trail v 0 (length s.trail) r.trail)
    (and_both _ _ (le-leb s.level v r.level)
    (and_both _ _
    (all_of (trail_ok_at s) (length s.trail) (λ j k. let c = r.lits j k in and_both _ _ c.true_there (and_both _ _ (le-leb 1 _ c.low) (and_both _ _ (le-leb _ 3 c.high) (le-leb _ _ c.level)))))
    (and_both _ _
    (all_of (off_trail_ok s) v (λ x k. ⊎_elim
    (λ q. or_left _ _ (eq-eqb (at s.values x) 2 q))
    (λ q. or_right (eqb (at s.values x) 2) _ (⊎_elim (λ z. or_left _ _ z) (λ z. or_right (on_trail s x) _ (eq-eqb (at s.kinds x) 4 z)) q))
    (r.removed x k)))
    (all_of (binary_reason_ok s) (length s.trail) (λ j k. unless_test (eqb (kind_of s (at s.trail j)) 2) _ (λ q. r.binary j k (eqb-true _ 2 q)))))))))

pub reasons_of : (h : Held) → long_reasons_ok h ≡ true → Reasons h.words h.clauses h.host
unfolding is_live
reasons_of h e j k q =
    let r = reason_read h e j k q in
    record {
      live = (and_left _ _ r.live, not-true _ (and_right (elem (reason_word h.host (at h.host.trail j)) h.clauses) _ r.live));
      first = r.first;
      others = r.others;
    }

pub reasons_test : (h : Held) → Reasons h.words h.clauses h.host → long_reasons_ok h ≡ true
unfolding long_reasons_ok long_reason_ok reason_clause_ok other_false is_live
reasons_test h r = all_of (long_reason_ok h) (length h.host.trail) (λ j k. unless_test (eqb (kind_of h.host (at h.host.trail j)) 3) _ (λ q.
    let c = r j k (eqb-true _ 3 q) in
    and_both _ _ (and_both _ _ c.live.0 (not_test _ c.live.1)) (and_both _ _ (eq-eqb _ _ c.first) (all_of (other_false h (reason_word h.host (at h.host.trail j))) _ c.others))))

-- ---- all of it

-- what the lengths of buffers and the types give besides
pub record Formed (h : Held) : Type 0 where
  pub four_counts : length h.counts ≡ 4
  pub four_lists_lem : length h.tiers ≡ 4
  pub room : h.used ≤ length h.words
  pub rows : length h.rows ≡ 2 * h.vars
  pub values : length h.host.values ≡ h.vars
  pub kinds : length h.host.kinds ≡ h.vars
  pub reasons : length h.host.reasons ≡ h.vars
  pub bump : T (fits binary32 h.activity.bump)
  pub inverse : T (fits binary32 h.activity.inv_decay)

pub good_of : (h : Held) → Formed h → store_passes everything h ≡ true → host_passes everything h ≡ true → Good h h.clauses []
unfolding levels_in_range
good_of h f s t =
    let w = words_pass_lem everything h s refl in
    let e = tiers_pass everything h s refl in
    record {
      store = store_read h w e f.four_counts f.four_lists_lem f.room;
      quiet = quiet_read h w e;
      rows = rows_of_lem h (rows_pass_lem everything h s refl) f.rows;
      tuned = tuned_of h (floats_pass_lem everything h s refl) f.bump f.inverse;
      sided = record { side = side_pass everything h t refl; levels = levels_pass everything h t refl; values_long = f.values; kinds_long = f.kinds; reasons_long = f.reasons };
      reasons = reasons_of h (reasons_pass everything h t refl);
    }

pub store_passes_lem : (h : Held) → Good h h.clauses [] → store_passes everything h ≡ true
unfolding store_passes
store_passes_lem h g = and_both _ _ (words_test h g.store g.quiet) (and_both _ _ (tiers_test h g.store g.quiet) (and_both _ _ (rows_test h g.rows) (floats_test h g.tuned)))

pub host_passes_lem : (h : Held) → Good h h.clauses [] → host_passes everything h ≡ true
unfolding host_passes levels_in_range
host_passes_lem h g =
    and_both _ _ (at_most_test h.vars h.host.levels h.vars g.sided.levels)
    (and_both _ _ (side_test h.vars h.host g.sided.side) (reasons_test h g.reasons))
