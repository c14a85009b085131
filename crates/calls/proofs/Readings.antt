-- The plain readings of 'When a store passes' and of the host's side: what each test says where it is true. Later proofs cite these and open no test. Assumes nothing.
use mathlib.Core.Path.{◌≡◌, refl, sym, ap, ◌∙◌, subst}
use mathlib.Core.Bool.{Bool, true, false, not, ◌&&◌, ◌||◌, true≢false}
use mathlib.Core.Logic.{⊎_elim, ◌⊎◌, inl, inr}
use mathlib.Core.List.{List}
use Prim.Native.Nat.{ℕ, zero, suc, ◌+◌, ◌-◌, ◌*◌, ◌≤◌, ◌<◌}
use native.Mathlib.Omega.{arith}
use native.Mathlib.Nat.{eq-or-lt_of_le, le_of_suc-le-suc}
use native.Mathlib.Numerals.{add-one}
use lib.ListN.{length}
use lib.Dec.{eqb, leb, ltb}
use lib.Ieee.{binary32, to_bits}
use borrow.Author.Tests.{leb-true, ltb-true, eqb-true, eqb-false, not-true, not-false}
use Rattle.laws.specs.Fold.{all_below, any_below, count_below, sum_below, one}
use Rattle.laws.specs.Lists.{at, list_at}
use Rattle.laws.proofs.Folds.{and_left, and_right, all_at}
use Rattle.kinds.specs.Header.{tier_of, mark_of, glue_of, spare_of}
use Rattle.kinds.specs.Clauses.{activity_at, head_at, len_at, first_at, end_at, tier_at, deleted_at, is_live, var_of, neg}
use Rattle.kinds.specs.Floats.{limit_bits, activity_ok, bump_ok, inverse_ok}
use Rattle.kinds.specs.Lent.{Parts}
use Rattle.kinds.specs.Held.{Held, Side, is_true, is_false, kind_of, reason_word}
use Rattle.kinds.specs.Layout.{lent_then}
use Rattle.calls.specs.StorePasses.{placed_at, placed, live_at, apart, lit_ok, lits_ok, head_ok, clause_ok, clause_ok_at, clauses_ok, live_in, count_ok, counts_ok, live_size, garbage_ok, stands_at, covered_at, covered, ref_at, inside_at, stale_ok, entry_ok, entries_ok, tier_ok, tiers_ok, row_entry_ok, row_in_range, rows_in_range, times_in, symmetric_at, symmetric_with, rows_symmetric, row_length, binary_ok, words_pass, rows_pass, floats_pass, store_passes}
use Rattle.calls.specs.HostPasses.{at_most_at, values_in_range, kinds_in_range, trail_in_range, levels_in_range, level_in_range, trail_ok_at, trail_ok, on_trail, off_trail_ok, removed_ok, binary_reason_ok, binary_reasons_ok, other_false, reason_clause_ok, long_reason_ok, long_reasons_ok, side_passes, host_passes}

-- ---- tests

pub either : (a b : Bool) → a || b ≡ true → (a ≡ true) ⊎ (b ≡ true)
either true b e = inl refl
either false b e = inr e

pub unless : (a b : Bool) → not a || b ≡ true → a ≡ true → b ≡ true
unless true b e h = e
unless false b e h = absurd (true≢false (sym h))

pub lent_test : (p b : Bool) → lent_then p b ≡ true → p ≡ true → b ≡ true
lent_test p b e h = unless p b e h

-- ---- literals: in range, with different variables

pub record Lits (w : List ℕ) (v s n : ℕ) : Type 0 where
  pub below : (j : ℕ) → j < n → at w (s + j) < 2 * v
  pub apart : (j k : ℕ) → j < n → k < j → var_of (at w (s + k)) ≡ var_of (at w (s + j)) → ⊥

pub lits_read : (w : List ℕ) (v s n : ℕ) → lits_ok w v s n ≡ true → Lits w v s n
unfolding lits_ok lit_ok apart
lits_read w v s n e = record {
  below = λ j h. ltb-true (at w (s + j)) (2 * v) (and_left _ _ (all_at (lit_ok w v s) n e j h));
  apart = λ j k h g q. eqb-false (var_of (at w (s + k))) (var_of (at w (s + j)))
      (not-true _ (all_at (apart w s j) j (and_right (ltb (at w (s + j)) (2 * v)) _ (all_at (lit_ok w v s) n e j h)) k g)) q;
}

-- ---- a live clause

pub record LiveClause (w : List ℕ) (v o : ℕ) : Type 0 where
  pub three : 3 ≤ len_at w o
  pub most : len_at w o ≤ v
  pub lits : Lits w v (o + 3) (len_at w o)
  pub mark : mark_of (head_at w o) ≡ 0
  pub spare : spare_of (head_at w o) ≡ 0
  pub glue : tier_at w o ≡ 0 → glue_of (head_at w o) ≡ 0
  pub activity : activity_at w o ≤ limit_bits

eq_true : (a b : ℕ) → a ≡ b → eqb a b ≡ true
eq_true a b e = go (eqb a b) refl
  where
    go : (t : Bool) → eqb a b ≡ t → t ≡ true
    go true q = refl
    go false q = absurd (eqb-false a b q e)

pub clause_read : (w : List ℕ) (v o : ℕ) → clause_ok w v o ≡ true → LiveClause w v o
unfolding clause_ok head_ok activity_ok
clause_read w v o e =
    let b = and_right (leb 3 (len_at w o)) _ e in
    let c = and_right (leb (len_at w o) v) _ b in
    let d = and_right (lits_ok w v (o + 3) (len_at w o)) _ c in
    let h = and_left _ _ d in
    let g = and_right (eqb (mark_of (head_at w o)) 0) _ h in
    record {
      three = leb-true 3 (len_at w o) (and_left _ _ e);
      most = leb-true (len_at w o) v (and_left _ _ b);
      lits = lits_read w v (o + 3) (len_at w o) (and_left _ _ c);
      mark = eqb-true (mark_of (head_at w o)) 0 (and_left _ _ h);
      spare = eqb-true (spare_of (head_at w o)) 0 (and_left _ _ g);
      glue = λ q. eqb-true (glue_of (head_at w o)) 0 (unless (eqb (tier_of (head_at w o)) 0) _ (and_right (eqb (spare_of (head_at w o)) 0) _ g) (eq_true (tier_of (head_at w o)) 0 q));
      activity = leb-true (activity_at w o) limit_bits (and_right (head_ok (head_at w o)) _ d);
    }

-- ---- the words and the clause list: the first n entries of the list l

pub record Words (w : List ℕ) (v used : ℕ) (l : List ℕ) (n : ℕ) (cs : List ℕ) (g : ℕ) : Type 0 where
  -- each clause ends by the used length, and by the next one's start
  pub ends : (i : ℕ) → i < n → end_at w (at l i) ≤ used
  pub next : (i : ℕ) → i + 1 < n → end_at w (at l i) ≤ at l (i + 1)
  pub clause : (i : ℕ) → i < n → deleted_at w (at l i) ≡ false → LiveClause w v (at l i)
  pub counts : (t : ℕ) → t < 4 → at cs t ≡ count_below (live_in w l t) n
  pub garbage : g + sum_below (live_size w l) n ≤ used

module _ (w : List ℕ) (used : ℕ) (l : List ℕ) (n : ℕ) (e : placed w used l n ≡ true) where
  pub ends_read : (i : ℕ) → i < n → end_at w (at l i) ≤ used
  unfolding placed placed_at
  ends_read i h = leb-true (end_at w (at l i)) used (and_left _ _ (all_at (placed_at w used l n) n e i h))

  pub next_read : (i : ℕ) → i + 1 < n → end_at w (at l i) ≤ at l (i + 1)
  unfolding placed placed_at
  next_read i h =
      ⊎_elim
      (λ q. absurd (let z = leb-true n (i + 1) q in omega arith))
      (λ q. leb-true (end_at w (at l i)) (at l (i + 1)) q)
      (either _ _ (and_right (leb (end_at w (at l i)) used) _ (all_at (placed_at w used l n) n e i (omega arith))))

  -- "Clause list offsets rise": of any two entries
  pub rising_read : (i j : ℕ) → i < j → j < n → end_at w (at l i) ≤ at l j
  rising_read i zero h g = absurd (omega arith)
  rising_read i (suc j) h g =
      let last : end_at w (at l j) ≤ at l (suc j) = subst (λ (x : ℕ). end_at w (at l j) ≤ at l x) (add-one j) (next_read j (omega arith)) in
      ⊎_elim
      (λ q. subst (λ (x : ℕ). end_at w (at l x) ≤ at l (suc j)) (sym q) last)
      (λ q. let before : end_at w (at l i) ≤ at l j = rising_read i j q (omega arith) in omega arith)
      (eq-or-lt_of_le (le_of_suc-le-suc h))

pub words_read : (w : List ℕ) (v used : ℕ) (l : List ℕ) (n : ℕ) (counts : List ℕ) (garbage : ℕ)
    → placed w used l n && (clauses_ok w v l n && (counts_ok w l n counts && garbage_ok w used l n garbage)) ≡ true
    → Words w v used l n counts garbage
unfolding clauses_ok clause_ok_at live_at counts_ok count_ok garbage_ok
words_read w v used l n counts garbage e =
    let p = and_left _ _ e in
    let b = and_right (placed w used l n) _ e in
    let c = and_right (clauses_ok w v l n) _ b in
    record {
      ends = ends_read w used l n p;
      next = next_read w used l n p;
      clause = λ i h d. clause_read w v (at l i) (unless (live_at w l i) _ (all_at (clause_ok_at w v l) n (and_left _ _ b) i h) (ap not d));
      counts = λ t h. eqb-true (at counts t) (count_below (live_in w l t) n) (all_at (count_ok w l n counts) 4 (and_left _ _ c) t h);
      garbage = leb-true (garbage + sum_below (live_size w l) n) used (and_right (counts_ok w l n counts) _ c);
    }

-- ---- a tier's list tl, of m entries

pub record Tier (w : List ℕ) (used : ℕ) (l : List ℕ) (n t : ℕ) (tl : List ℕ) (m : ℕ) : Type 0 where
  pub listed : (i : ℕ) → i < n → live_in w l t i ≡ true → any_below (stands_at tl (at l i)) m ≡ true
  pub entry : (q : ℕ) → q < m → (any_below (ref_at w l (at tl q)) n ≡ true) ⊎ (stale_ok w used l n (at tl q) ≡ true)

pub tier_read : (w : List ℕ) (used : ℕ) (l : List ℕ) (n t : ℕ) (tl : List ℕ) (m : ℕ) → covered w l n t tl m && entries_ok w used l n tl m ≡ true → Tier w used l n t tl m
unfolding covered covered_at entries_ok entry_ok
tier_read w used l n t tl m e = record {
  listed = λ i h d. unless (live_in w l t i) _ (all_at (covered_at w l t tl m) n (and_left _ _ e) i h) d;
  entry = λ q h. either _ _ (all_at (entry_ok w used l n tl) m (and_right (covered w l n t tl m) _ e) q h);
}

-- ---- the rows

pub record Rows (h : Held) : Type 0 where
  pub below : (c k : ℕ) → c < 2 * h.vars → k < length (list_at h.rows c) → at (list_at h.rows c) k < 2 * h.vars
  pub apart : (c k : ℕ) → c < 2 * h.vars → k < length (list_at h.rows c) → var_of (at (list_at h.rows c) k) ≡ var_of c → ⊥
  pub even : (a b : ℕ) → a < 2 * h.vars → b < 2 * h.vars → times_in h (neg a) b ≡ times_in h (neg b) a
  pub half : h.binary * 2 ≡ sum_below (row_length h) (2 * h.vars)

pub rows_read : (h : Held) → rows_pass h ≡ true → Rows h
unfolding rows_pass rows_in_range row_in_range row_entry_ok rows_symmetric symmetric_with symmetric_at binary_ok
rows_read h e =
    let r = and_left _ _ e in
    let b = and_right (rows_in_range h) _ e in
    let entry : (c k : ℕ) → c < 2 * h.vars → k < length (list_at h.rows c) → row_entry_ok h c k ≡ true =
    λ c k f g. all_at (row_entry_ok h c) (length (list_at h.rows c)) (all_at (row_in_range h) (2 * h.vars) r c f) k g in
    record {
      below = λ c k f g. ltb-true (at (list_at h.rows c) k) (2 * h.vars) (and_left _ _ (entry c k f g));
      apart = λ c k f g q. eqb-false (var_of (at (list_at h.rows c) k)) (var_of c) (not-true _ (and_right (ltb (at (list_at h.rows c) k) (2 * h.vars)) _ (entry c k f g))) q;
      even = λ x y f g. eqb-true (times_in h (neg x) y) (times_in h (neg y) x) (all_at (symmetric_at h x) (2 * h.vars) (all_at (symmetric_with h) (2 * h.vars) (and_left _ _ b) x f) y g);
      half = eqb-true (h.binary * 2) (sum_below (row_length h) (2 * h.vars)) (and_right (rows_symmetric h) _ b);
    }

-- ---- bump and inverse decay

pub record Floats (h : Held) : Type 0 where
  pub bump : to_bits binary32 h.activity.bump < limit_bits
  pub above : 0x3f80_0000 < to_bits binary32 h.activity.inv_decay
  pub below : to_bits binary32 h.activity.inv_decay < 0x4180_0000

pub floats_read : (h : Held) → floats_pass h ≡ true → Floats h
unfolding floats_pass bump_ok inverse_ok
floats_read h e =
    let b = and_right (ltb (to_bits binary32 h.activity.bump) limit_bits) _ e in
    record {
      bump = ltb-true (to_bits binary32 h.activity.bump) limit_bits (and_left _ _ e);
      above = ltb-true 0x3f80_0000 (to_bits binary32 h.activity.inv_decay) (and_left _ _ b);
      below = ltb-true (to_bits binary32 h.activity.inv_decay) 0x4180_0000 (and_right (ltb 0x3f80_0000 (to_bits binary32 h.activity.inv_decay)) _ b);
    }

-- ---- the host's side

pub record TrailLit (s : Side) (j : ℕ) : Type 0 where
  pub true_there : is_true s.values (at s.trail j) ≡ true
  pub low : 1 ≤ kind_of s (at s.trail j)
  pub high : kind_of s (at s.trail j) ≤ 3
  pub level : at s.levels (var_of (at s.trail j)) ≤ s.level

pub record HostSide (v : ℕ) (s : Side) : Type 0 where
  pub values : (x : ℕ) → x < v → at s.values x ≤ 2
  pub kinds : (x : ℕ) → x < v → at s.kinds x ≤ 4
  pub trail : Lits s.trail v 0 (length s.trail)
  pub level : s.level ≤ v
  pub lits : (j : ℕ) → j < length s.trail → TrailLit s j
  pub removed : (x : ℕ) → x < v → (at s.values x ≡ 2) ⊎ ((on_trail s x ≡ true) ⊎ (at s.kinds x ≡ 4))
  pub binary : (j : ℕ) → j < length s.trail → kind_of s (at s.trail j) ≡ 2 → is_false s.values (reason_word s (at s.trail j)) ≡ true

pub at_most_read : (m : ℕ) (l : List ℕ) (n : ℕ) → all_below (at_most_at m l) n ≡ true → (i : ℕ) → i < n → at l i ≤ m
unfolding at_most_at
at_most_read m l n e i h = leb-true (at l i) m (all_at (at_most_at m l) n e i h)

pub trail_lit_read : (s : Side) (j : ℕ) → trail_ok_at s j ≡ true → TrailLit s j
unfolding trail_ok_at
trail_lit_read s j e =
    let l = at s.trail j in
    let b = and_right (is_true s.values l) _ e in
    let c = and_right (leb 1 (kind_of s l)) _ b in
    record {
      true_there = and_left _ _ e;
      low = leb-true 1 (kind_of s l) (and_left _ _ b);
      high = leb-true (kind_of s l) 3 (and_left _ _ c);
      level = leb-true (at s.levels (var_of l)) s.level (and_right (leb (kind_of s l) 3) _ c);
    }

pub side_read : (v : ℕ) (s : Side) → side_passes v s ≡ true → HostSide v s
unfolding side_passes values_in_range kinds_in_range trail_in_range level_in_range trail_ok removed_ok off_trail_ok binary_reasons_ok binary_reason_ok
side_read v s e =
    let b = and_right (values_in_range v s) _ e in
    let c = and_right (kinds_in_range v s) _ b in
    let d = and_right (trail_in_range v s) _ c in
    let f = and_right (level_in_range v s) _ d in
    let g = and_right (trail_ok s) _ f in
    record {
      values = at_most_read 2 s.values v (and_left _ _ e);
      kinds = at_most_read 4 s.kinds v (and_left _ _ b);
      trail = lits_read s.trail v 0 (length s.trail) (and_left _ _ c);
      level = leb-true s.level v (and_left _ _ d);
      lits = λ j h. trail_lit_read s j (all_at (trail_ok_at s) (length s.trail) (and_left _ _ f) j h);
      removed = λ x h.
          ⊎_elim
          (λ q. inl (eqb-true (at s.values x) 2 q))
          (λ q. inr (⊎_elim (λ r. inl r) (λ r. inr (eqb-true (at s.kinds x) 4 r)) (either _ _ q)))
          (either _ _ (all_at (off_trail_ok s) v (and_left _ _ g) x h));
      binary = λ j h q. unless (eqb (kind_of s (at s.trail j)) 2) _ (all_at (binary_reason_ok s) (length s.trail) (and_right (removed_ok v s) _ g) j h) (eq_true (kind_of s (at s.trail j)) 2 q);
    }

pub record ReasonClause (h : Held) (l o : ℕ) : Type 0 where
  pub live : is_live h.words h.clauses o ≡ true
  pub first : first_at h.words o ≡ l
  pub others : (i : ℕ) → i < len_at h.words o - 1 → is_false h.host.values (at h.words (o + 4 + i)) ≡ true

pub reason_read : (h : Held) → long_reasons_ok h ≡ true → (j : ℕ) → j < length h.host.trail → kind_of h.host (at h.host.trail j) ≡ 3
    → ReasonClause h (at h.host.trail j) (reason_word h.host (at h.host.trail j))
unfolding long_reasons_ok long_reason_ok reason_clause_ok other_false
reason_read h e j g q =
    let l = at h.host.trail j in
    let o = reason_word h.host l in
    let r = unless (eqb (kind_of h.host l) 3) (reason_clause_ok h l o) (all_at (long_reason_ok h) (length h.host.trail) e j g) (eq_true (kind_of h.host l) 3 q) in
    let b = and_right (is_live h.words h.clauses o) _ r in
    record {
      live = and_left _ _ r;
      first = eqb-true (first_at h.words o) l (and_left _ _ b);
      others = λ i f. all_at (other_false h o) (len_at h.words o - 1) (and_right (eqb (first_at h.words o) l) _ b) i f;
    }

-- ---- the parts of what is held, where they are lent

module _ (p : Parts) (h : Held) (e : store_passes p h ≡ true) where
  pub words_pass_lem : p.words ≡ true → words_pass h ≡ true
  unfolding store_passes
  words_pass_lem q = lent_test p.words _ (and_left _ _ e) q

  pub tiers_pass : p.words && p.tiers ≡ true → tiers_ok h ≡ true
  unfolding store_passes
  tiers_pass q = lent_test (p.words && p.tiers) _ (and_left _ _ (and_right (lent_then p.words (words_pass h)) _ e)) q

  pub rows_pass_lem : p.rows ≡ true → rows_pass h ≡ true
  unfolding store_passes
  rows_pass_lem q = lent_test p.rows _ (and_left _ _ (and_right (lent_then (p.words && p.tiers) (tiers_ok h)) _ (and_right (lent_then p.words (words_pass h)) _ e))) q

  pub floats_pass_lem : p.state ≡ true → floats_pass h ≡ true
  unfolding store_passes
  floats_pass_lem q = lent_test p.state _ (and_right (lent_then p.rows (rows_pass h)) _ (and_right (lent_then (p.words && p.tiers) (tiers_ok h)) _ (and_right (lent_then p.words (words_pass h)) _ e))) q

pub held_words : (h : Held) → words_pass h ≡ true → Words h.words h.vars h.used h.clauses (length h.clauses) h.counts h.garbage
unfolding words_pass
held_words h e = words_read h.words h.vars h.used h.clauses (length h.clauses) h.counts h.garbage e

pub held_tier : (h : Held) → tiers_ok h ≡ true → (t : ℕ) → t < 4 → Tier h.words h.used h.clauses (length h.clauses) t (list_at h.tiers t) (length (list_at h.tiers t))
unfolding tiers_ok tier_ok
held_tier h e t g = tier_read h.words h.used h.clauses (length h.clauses) t (list_at h.tiers t) (length (list_at h.tiers t)) (all_at (tier_ok h) 4 e t g)

module _ (p : Parts) (h : Held) (e : host_passes p h ≡ true) where
  pub levels_pass : p.levels ≡ true → (x : ℕ) → x < h.vars → at h.host.levels x ≤ h.vars
  unfolding host_passes levels_in_range
  levels_pass q = at_most_read h.vars h.host.levels h.vars (lent_test p.levels _ (and_left _ _ e) q)

  pub side_pass : p.host ≡ true → HostSide h.vars h.host
  unfolding host_passes
  side_pass q = side_read h.vars h.host (lent_test p.host _ (and_left _ _ (and_right (lent_then p.levels (levels_in_range h.vars h.host)) _ e)) q)

  pub reasons_pass : p.host && p.words ≡ true → long_reasons_ok h ≡ true
  unfolding host_passes
  reasons_pass q = lent_test (p.host && p.words) _ (and_right (lent_then p.host (side_passes h.vars h.host)) _ (and_right (lent_then p.levels (levels_in_range h.vars h.host)) _ e)) q
