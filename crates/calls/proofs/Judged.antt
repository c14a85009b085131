-- What a judging that gave 0 says, and what room for the finished call says: the facts that a step's code stands on. Assumes nothing.
use mathlib.Core.Path.{◌≡◌, refl, sym, ap, ◌∙◌}
use mathlib.Core.Bool.{Bool, true, false, cond, not, ◌&&◌}
use mathlib.Core.List.{List, [], ◌∷◌}
use Prim.Native.Nat.{ℕ, zero, suc, ◌*◌, ◌^◌, ◌≤◌, ◌<◌}
use native.Mathlib.Omega.{arith}
use lib.ListN.{length}
use lib.Dec.{eqb, leb}
use borrow.Author.Tests.{leb-true, eqb-true}
use Rattle.laws.specs.Fold.{all_below}
use Rattle.laws.specs.Lists.{at, list_at}
use Rattle.laws.proofs.Folds.{and_left, and_right, all_at}
use Rattle.kinds.specs.Lent.{Lent, Host, Parts, room_of}
use Rattle.kinds.specs.Held.{Held}
use Rattle.kinds.specs.Layout.{view, fit, fit_tier, fit_row, lent_then}
use Rattle.calls.specs.Size.{vars_in_range, sized, words_sized, tier_sized, tiers_sized, row_sized, rows_sized, record_sized, levels_sized, host_sized, sizes_ok}
use Rattle.calls.specs.StorePasses.{store_passes}
use Rattle.calls.specs.HostPasses.{host_passes}
use Rattle.calls.specs.Refusing.{lowest}
use Rattle.calls.specs.Outcome.{judged}
use Rattle.calls.proofs.Readings.{lent_test}

-- ---- three checks, none given

module _ (a b c : Bool) (e : ◌≡◌ {A = ℕ} (cond (not a) 1 (cond (not b) 2 (cond (not c) 3 0))) 0) where
  first_true : a ≡ true
  first_true = go a e
    where
      go : (x : Bool) → ◌≡◌ {A = ℕ} (cond (not x) 1 (cond (not b) 2 (cond (not c) 3 0))) 0 → x ≡ true
      go true q = refl
      go false q = absurd (omega arith)

  second_true : b ≡ true
  second_true = go a b e
    where
      go : (x y : Bool) → ◌≡◌ {A = ℕ} (cond (not x) 1 (cond (not y) 2 (cond (not c) 3 0))) 0 → y ≡ true
      go true true q = refl
      go true false q = absurd (omega arith)
      go false y q = absurd (omega arith)

  third_true : c ≡ true
  third_true = go a b c e
    where
      go : (x y z : Bool) → ◌≡◌ {A = ℕ} (cond (not x) 1 (cond (not y) 2 (cond (not z) 3 0))) 0 → z ≡ true
      go true true true q = refl
      go true true false q = absurd (omega arith)
      go true false z q = absurd (omega arith)
      go false y z q = absurd (omega arith)

module _ (p : Parts) (k : Lent) (e : judged p k ≡ 0) where
  pub sizes_judged : sizes_ok p k ≡ true
  unfolding judged lowest
  sizes_judged = first_true (sizes_ok p k) (store_passes p (view k)) (host_passes p (view k)) e

  pub store_judged : store_passes p (view k) ≡ true
  unfolding judged lowest
  store_judged = second_true (sizes_ok p k) (store_passes p (view k)) (host_passes p (view k)) e

  pub host_judged : host_passes p (view k) ≡ true
  unfolding judged lowest
  host_judged = third_true (sizes_ok p k) (store_passes p (view k)) (host_passes p (view k)) e

-- and the other way: three tests that hold, or the first that fails
module _ (p : Parts) (k : Lent) where
  chosen : (a b c : Bool) → sizes_ok p k ≡ a → store_passes p (view k) ≡ b → host_passes p (view k) ≡ c → judged p k ≡ cond (not a) 1 (cond (not b) 2 (cond (not c) 3 0))
  unfolding judged lowest
  chosen a b c x y z =
      ap (λ (t : Bool). cond (not t) 1 (cond (not (store_passes p (view k))) 2 (cond (not (host_passes p (view k))) 3 0))) x
      ∙ ap (λ (t : Bool). cond (not a) 1 (cond (not t) 2 (cond (not (host_passes p (view k))) 3 0))) y
      ∙ ap (λ (t : Bool). cond (not a) 1 (cond (not b) 2 (cond (not t) 3 0))) z

  pub sizes_fail : sizes_ok p k ≡ false → 1 ≡ judged p k
  sizes_fail x = sym (chosen false (store_passes p (view k)) (host_passes p (view k)) x refl refl)

  pub store_fails : sizes_ok p k ≡ true → store_passes p (view k) ≡ false → 2 ≡ judged p k
  store_fails x y = sym (chosen true false (host_passes p (view k)) x y refl)

  pub host_fails : sizes_ok p k ≡ true → store_passes p (view k) ≡ true → host_passes p (view k) ≡ false → 3 ≡ judged p k
  host_fails x y z = sym (chosen true true false x y z)

  pub all_judged : sizes_ok p k ≡ true → store_passes p (view k) ≡ true → host_passes p (view k) ≡ true → 0 ≡ judged p k
  all_judged x y z = sym (chosen true true true x y z)

-- ---- refusal 1, read

pub record SizedList (m n : ℕ) (l : List ℕ) : Type 0 where
  pub most : length l ≤ m
  pub used : n ≤ length l

pub sized_read : (m n : ℕ) (l : List ℕ) → sized m n l ≡ true → SizedList m n l
unfolding sized
sized_read m n l e = record { most = leb-true (length l) m (and_left _ _ e); used = leb-true n (length l) (and_right (leb (length l) m) _ e) }

pub record HostSized (v : ℕ) (s : Host) : Type 0 where
  pub values : length s.values ≡ v
  pub kinds : length s.kinds ≡ v
  pub reasons : length s.reasons ≡ v
  pub trail : v ≤ length s.trail
  pub assigned : s.assigned ≤ length s.trail

host_read : (v : ℕ) (s : Host) → host_sized v s ≡ true → HostSized v s
unfolding host_sized
host_read v s e =
    let b = and_right (eqb (length s.values) v) _ e in
    let c = and_right (eqb (length s.kinds) v) _ b in
    let d = and_right (eqb (length s.reasons) v) _ c in
    record {
      values = eqb-true (length s.values) v (and_left _ _ e);
      kinds = eqb-true (length s.kinds) v (and_left _ _ b);
      reasons = eqb-true (length s.reasons) v (and_left _ _ c);
      trail = leb-true v (length s.trail) (and_left _ _ d);
      assigned = leb-true s.assigned (length s.trail) (and_right (leb v (length s.trail)) _ d);
    }

module _ (p : Parts) (k : Lent) (e : sizes_ok p k ≡ true) where
  pub vars_low : p.vars ≡ true → 1 ≤ k.state.vars
  unfolding sizes_ok vars_in_range
  vars_low q = leb-true 1 k.state.vars (and_left _ _ (lent_test p.vars _ (and_left _ _ e) q))

  pub vars_high : p.vars ≡ true → k.state.vars ≤ 65536
  unfolding sizes_ok vars_in_range
  vars_high q = leb-true k.state.vars 65536 (and_right (leb 1 k.state.vars) _ (lent_test p.vars _ (and_left _ _ e) q))

  words_both : p.words ≡ true → words_sized k ≡ true
  unfolding sizes_ok
  words_both q = lent_test p.words _ (and_left _ _ (and_right (lent_then p.vars (vars_in_range k.state.vars)) _ e)) q

  pub words_sized_lem : p.words ≡ true → SizedList (2 ^ 24) k.state.words k.words
  unfolding words_sized
  words_sized_lem q = sized_read (2 ^ 24) k.state.words k.words (and_left _ _ (words_both q))

  pub clauses_sized : p.words ≡ true → SizedList (2 ^ 22) k.state.clauses k.clauses
  unfolding words_sized
  clauses_sized q = sized_read (2 ^ 22) k.state.clauses k.clauses (and_right (sized (2 ^ 24) k.state.words k.words) _ (words_both q))

  pub tier_sized_lem : p.tiers ≡ true → (t : ℕ) → t < 4 → SizedList (2 ^ 22) (at k.state.tiers t) (list_at k.tiers t)
  unfolding sizes_ok tiers_sized tier_sized
  tier_sized_lem q t h =
      sized_read (2 ^ 22) (at k.state.tiers t) (list_at k.tiers t)
      (all_at (tier_sized k) 4
      (lent_test p.tiers _ (and_left _ _ (and_right (lent_then p.words (words_sized k)) _ (and_right (lent_then p.vars (vars_in_range k.state.vars)) _ e))) q) t h)

  rows_all : p.rows ≡ true → rows_sized k ≡ true
  unfolding sizes_ok
  rows_all q =
      lent_test p.rows _
      (and_left _ _ (and_right (lent_then p.tiers (tiers_sized k)) _ (and_right (lent_then p.words (words_sized k)) _ (and_right (lent_then p.vars (vars_in_range k.state.vars)) _ e)))) q

  pub rows_most : p.rows ≡ true → length k.rows ≤ 2 ^ 24
  unfolding rows_sized
  rows_most q = leb-true (length k.rows) (2 ^ 24) (and_left _ _ (rows_all q))

  pub counts_long : p.rows ≡ true → length k.counts ≡ 2 * k.state.vars
  unfolding rows_sized
  counts_long q = eqb-true (length k.counts) (2 * k.state.vars) (and_left _ _ (and_right (leb (length k.rows) (2 ^ 24)) _ (rows_all q)))

  pub counts_within : p.rows ≡ true → (c : ℕ) → c < 2 * k.state.vars → at k.counts c ≤ room_of k.state.vars k.rows
  unfolding rows_sized row_sized
  counts_within q c h =
      leb-true (at k.counts c) (room_of k.state.vars k.rows)
      (all_at (row_sized k) (2 * k.state.vars) (and_right (eqb (length k.counts) (2 * k.state.vars)) _ (and_right (leb (length k.rows) (2 ^ 24)) _ (rows_all q))) c h)

  pub record_sized_lem : p.rec ≡ true → SizedList (2 ^ 24) k.state.recorded k.rec
  unfolding sizes_ok record_sized
  record_sized_lem q =
      sized_read (2 ^ 24) k.state.recorded k.rec
      (lent_test p.rec _
      (and_left _ _ (and_right (lent_then p.rows (rows_sized k)) _ (and_right (lent_then p.tiers (tiers_sized k)) _ (and_right (lent_then p.words (words_sized k)) _ (and_right (lent_then p.vars (vars_in_range k.state.vars)) _ e))))) q)

  pub levels_long : p.levels ≡ true → length k.host.levels ≡ k.state.vars
  unfolding sizes_ok levels_sized
  levels_long q =
      eqb-true (length k.host.levels) k.state.vars
      (lent_test p.levels _
      (and_left _ _ (and_right (lent_then p.rec (record_sized k)) _ (and_right (lent_then p.rows (rows_sized k)) _ (and_right (lent_then p.tiers (tiers_sized k)) _ (and_right (lent_then p.words (words_sized k)) _ (and_right (lent_then p.vars (vars_in_range k.state.vars)) _ e)))))) q)

  pub host_sized_lem : p.host ≡ true → HostSized k.state.vars k.host
  unfolding sizes_ok
  host_sized_lem q =
      host_read k.state.vars k.host
      (lent_test p.host _
      (and_right (lent_then p.levels (levels_sized k.state.vars k.host)) _ (and_right (lent_then p.rec (record_sized k)) _ (and_right (lent_then p.rows (rows_sized k)) _ (and_right (lent_then p.tiers (tiers_sized k)) _ (and_right (lent_then p.words (words_sized k)) _ (and_right (lent_then p.vars (vars_in_range k.state.vars)) _ e)))))) q)

-- ---- room for the finished call, read

module _ (p : Parts) (k : Lent) (h : Held) (e : fit p k h ≡ true) where
  pub words_fit : p.words ≡ true → h.used ≤ length k.words
  unfolding fit
  words_fit q = leb-true h.used (length k.words) (and_left _ _ (lent_test p.words _ (and_left _ _ e) q))

  pub clauses_fit : p.words ≡ true → length h.clauses ≤ length k.clauses
  unfolding fit
  clauses_fit q = leb-true (length h.clauses) (length k.clauses) (and_right (leb h.used (length k.words)) _ (lent_test p.words _ (and_left _ _ e) q))

  pub tier_fits : p.tiers ≡ true → (t : ℕ) → t < 4 → length (list_at h.tiers t) ≤ length (list_at k.tiers t)
  unfolding fit fit_tier
  tier_fits q t g =
      leb-true (length (list_at h.tiers t)) (length (list_at k.tiers t))
      (all_at (fit_tier k h) 4 (lent_test p.tiers _ (and_left _ _ (and_right (lent_then p.words (leb h.used (length k.words) && leb (length h.clauses) (length k.clauses))) _ e)) q) t g)

  pub row_fits : p.rows ≡ true → (c : ℕ) → c < 2 * k.state.vars → length (list_at h.rows c) ≤ room_of k.state.vars k.rows
  unfolding fit fit_row
  row_fits q c g =
      leb-true (length (list_at h.rows c)) (room_of k.state.vars k.rows)
      (all_at (fit_row k h) (2 * k.state.vars)
      (lent_test p.rows _ (and_left _ _ (and_right (lent_then p.tiers (all_below (fit_tier k h) 4)) _ (and_right (lent_then p.words (leb h.used (length k.words) && leb (length h.clauses) (length k.clauses))) _ e))) q) c g)

  pub record_fits : p.rec ≡ true → length h.rec ≤ length k.rec
  unfolding fit
  record_fits q =
      leb-true (length h.rec) (length k.rec)
      (lent_test p.rec _ (and_right (lent_then p.rows (all_below (fit_row k h) (2 * k.state.vars))) _ (and_right (lent_then p.tiers (all_below (fit_tier k h) 4)) _ (and_right (lent_then p.words (leb h.used (length k.words) && leb (length h.clauses) (length k.clauses))) _ e))) q)
