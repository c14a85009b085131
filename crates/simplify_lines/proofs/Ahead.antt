-- The walk apart from any buffer: the clauses ahead are as they came, the four counts suffice, and garbage stays bounded. Assumes nothing.
use mathlib.Core.Path.{◌≡◌, refl, ap, ◌∙◌}
use mathlib.Core.Bool.{Bool, true, false, cond, not, ◌&&◌}
use mathlib.Core.List.{List, [], ◌∷◌}
use Prim.Native.Nat.{ℕ, zero, suc, ◌+◌, ◌-◌, ◌*◌, ◌^◌, ◌≤◌, ◌<◌}
use native.Mathlib.Omega.{arith}
use native.Mathlib.Decide.{dec_lt, ℕ_discrete}
use native.Mathlib.Nat.{add-zero}
use native.Mathlib.Numerals.{add-one}
use lib.ListN.{length, length-set, get_or-eq_default}
use lib.Seq.{sets, length-sets, get_or-set_same, get_or-set_other}
use lib.Dec.{eqb}
use borrow.Author.Tests.{eq-eqb}
use Rattle.laws.specs.Fold.{one, count_below, sum_below}
use Rattle.laws.specs.Lists.{at, less}
use Rattle.laws.proofs.Folds.{count_more}
use Rattle.laws.proofs.Sums.{count_sum, sum_more}
use Rattle.laws.proofs.Reading.{length_read, read_same, at_sets_above}
use Rattle.kinds.specs.Clauses.{deleted_at, lits_at, len_at, end_at, size_at, tier_at, head_at}
use Rattle.kinds.specs.Held.{Held}
use Rattle.calls.specs.Adding.{pair_pushed}
use Rattle.calls.specs.StorePasses.{live_at, live_in, live_size}
use Rattle.calls.specs.Simplifying.{any_true, unfalsified}
use Rattle.simplify_lines.specs.Walk.{Walkable}
use Rattle.simplify_lines.proofs.Literals.{unfalsified_length}
use Rattle.simplify_lines.proofs.Done.{gone, stays, settle, sim_one, state_at, state_zero, state_next, either}

-- ---- counts and sums over more indices
sum_mono : (f : ℕ → ℕ) (i d : ℕ) → sum_below f i ≤ sum_below f (d + i)
unfolding sum_below
sum_mono f i zero = let e : 0 + i ≡ i = omega arith in rw e (omega arith)
sum_mono f i (suc d) = let e : suc d + i ≡ suc (d + i) = omega arith in rw e (omega (arith, sum_mono f i d))

sum_within : (f : ℕ → ℕ) (i n : ℕ) → i < n → sum_below f i + f i ≤ sum_below f n
sum_within f i n h =
    let e : n - (i + 1) + (i + 1) ≡ n = omega arith in
    let m : sum_below f (i + 1) ≤ sum_below f n = rw e at (sum_mono f (i + 1) (n - (i + 1))) in
    omega (arith, m, sum_more f i)

count_within : (f : ℕ → Bool) (i n : ℕ) → i < n → count_below f i + one (f i) ≤ count_below f n
count_within f i n h = omega (arith, sum_within (λ k. one (f k)) i n h, count_sum f i, count_sum f n)

-- ---- one clause: the words from its end on stay, the counts lose one of its tier at most, and garbage gains its words at most
pub record Small (o : ℕ) (s t : Held) : Type 0 where
  pub size : length t.words ≡ length s.words
  pub above : (p : ℕ) → end_at s.words o ≤ p → at t.words p ≡ at s.words p
  pub counts : (q : ℕ) → at s.counts q ≤ at t.counts q + one (not (deleted_at s.words o) && eqb (tier_at s.words o) q)
  pub sum : t.garbage ≤ s.garbage + one (not (deleted_at s.words o)) * size_at s.words o
  pub binary : t.binary ≤ s.binary + 1

less_at : (ts : List ℕ) (t : ℕ) → at ts t ≤ at (less t ts) t + 1
less_at ts t = go (dec_lt t (length ts))
  where
    go : Dec (t < length ts) → at ts t ≤ at (less t ts) t + 1
    go (yes l) = rw (get_or-set_same ts t (at ts t - 1) 0 l) (omega arith)
    go (no l) = omega (arith, get_or-eq_default ts 0 {n = t} (omega arith))

module _ (o : ℕ) (s : Held) where
  stays_small : (said ws : List ℕ) → length ws ≡ length s.words → ((p : ℕ) → end_at s.words o ≤ p → at ws p ≡ at s.words p) → Small o s (stays o said ws s)
  stays_small said ws e f = record { size = e; above = f; counts = λ q. omega arith; sum = omega arith; binary = omega arith }

  gone_small : deleted_at s.words o ≡ false → (said : List ℕ) (rows : List (List ℕ)) (b : ℕ) → b ≤ s.binary + 1 → Small o s (gone o said rows b s)
  gone_small d said rows b l = record { binary = l; size = simp length-set; above = λ p h. get_or-set_other s.words (o + 1) p _ 0 (omega arith); counts = λ q. go q (ℕ_discrete q (tier_at s.words o)); sum = rw d (omega arith) }
    where
      go : (q : ℕ) → Dec (q ≡ tier_at s.words o) → at s.counts q ≤ at (less (tier_at s.words o) s.counts) q + one (not (deleted_at s.words o) && eqb (tier_at s.words o) q)
      go q (yes e) = rw (e, d, eq-eqb (tier_at s.words o) (tier_at s.words o) refl) (less_at s.counts (tier_at s.words o))
      go q (no e) = rw (get_or-set_other s.counts (tier_at s.words o) q (at s.counts (tier_at s.words o) - 1) 0 e) (omega arith)

  shorter_above : (a : List ℕ) (p : ℕ) → end_at s.words o ≤ p
      → at (sets s.words (o + 2) (length (unfalsified a (lits_at s.words o)) ∷ unfalsified a (lits_at s.words o))) p ≡ at s.words p
  shorter_above a p h =
      let r = unfalsified a (lits_at s.words o) in
      at_sets_above (length r ∷ r) s.words (o + 2) p (omega (arith, unfalsified_length a (lits_at s.words o), length_read s.words (o + 3) (len_at s.words o)))

  settle_small : (a : List ℕ) → deleted_at s.words o ≡ false → Small o s (settle a (lits_at s.words o) o s)
  settle_small a d =
      let ls = lits_at s.words o in
      let r = unfalsified a ls in
      either (Small o s) (any_true a ls) _ _ (gone_small d _ s.rows s.binary (omega arith))
      (either (Small o s) (eqb (length r) (length ls)) _ _ (stays_small [] s.words refl (λ p h. refl))
      (either (Small o s) (eqb (length r) 2) _ _ (gone_small d _ (pair_pushed (at r 0) (at r 1) s.rows) (s.binary + 1) (omega arith))
      (stays_small _ (sets s.words (o + 2) (length r ∷ r)) (length-sets s.words (o + 2) (length r ∷ r)) (shorter_above a))))

  pub one_small : (a : List ℕ) → Small o s (sim_one a o s)
  unfolding sim_one
  one_small a = go (deleted_at s.words o) refl
    where
      go : (b : Bool) → deleted_at s.words o ≡ b → Small o s (cond b s (settle a (lits_at s.words o) o s))
      go true d = record { size = refl; above = λ p h. refl; counts = λ q. omega arith; sum = omega arith; binary = omega arith }
      go false d = settle_small a d

-- ---- the walk
pub record Ahead (h : Held) (i : ℕ) : Type 0 where
  pub size : length (state_at h i).words ≡ length h.words
  pub frame : (j : ℕ) → i ≤ j → j < length h.clauses → (p : ℕ) → at h.clauses j ≤ p → at (state_at h i).words p ≡ at h.words p
  pub counts : (t : ℕ) → at h.counts t ≤ at (state_at h i).counts t + count_below (live_in h.words h.clauses t) i
  pub sum : (state_at h i).garbage ≤ h.garbage + sum_below (live_size h.words h.clauses) i
  pub binary : (state_at h i).binary ≤ h.binary + i

module _ {h : Held} (R : Walkable h) where
  -- the clauses ahead start behind this one
  rise : (i : ℕ) → i < length h.clauses → (d : ℕ) → i + 1 + d < length h.clauses → end_at h.words (at h.clauses i) ≤ at h.clauses (i + 1 + d)
  rise i g zero l = rw (add-zero (i + 1)) (R.next i (omega arith))
  rise i g (suc d) l =
      let e : i + 1 + suc d ≡ i + 1 + d + 1 = omega arith in
      let q = R.next (i + 1 + d) (omega arith) in
      rw e (omega (arith, q, rise i g d (omega arith)))

  -- the clause whose turn it is, as it came
  module _ (i : ℕ) (g : i < length h.clauses) (A : Ahead h i) where
    pub now_is : (p : ℕ) → at h.clauses i ≤ p → at (state_at h i).words p ≡ at h.words p
    now_is p l = A.frame i (omega arith) g p l

    pub head_same : head_at (state_at h i).words (at h.clauses i) ≡ head_at h.words (at h.clauses i)
    head_same = now_is (at h.clauses i + 1) (omega arith)

    pub len_same : len_at (state_at h i).words (at h.clauses i) ≡ len_at h.words (at h.clauses i)
    len_same = now_is (at h.clauses i + 2) (omega arith)

    end_is : end_at (state_at h i).words (at h.clauses i) ≡ end_at h.words (at h.clauses i)
    end_is = ap (λ (n : ℕ). at h.clauses i + (n + 3)) len_same

    pub lits_same : lits_at (state_at h i).words (at h.clauses i) ≡ lits_at h.words (at h.clauses i)
    lits_same = rw len_same (read_same (state_at h i).words h.words (at h.clauses i + 3) (at h.clauses i + 3) _ (λ j l. now_is (at h.clauses i + 3 + j) (omega arith)))

    -- room for one clause more
    pub sum_next : deleted_at h.words (at h.clauses i) ≡ false → (state_at h i).garbage + size_at (state_at h i).words (at h.clauses i) < 2 ^ 32
    sum_next d =
        let f = live_size h.words h.clauses in
        let here : f i ≡ size_at h.words (at h.clauses i) = unfold live_size in unfold live_at in rw d (omega arith) in
        rw len_same (omega (arith, A.sum, sum_within f i (length h.clauses) g, here, R.garbage))

    -- the count of its tier is not 0
    pub one_left : deleted_at h.words (at h.clauses i) ≡ false → 0 < at (state_at h i).counts (tier_at (state_at h i).words (at h.clauses i))
    one_left d =
        let t = tier_at h.words (at h.clauses i) in
        let f = live_in h.words h.clauses t in
        let here : one (f i) ≡ 1 = unfold live_in in unfold live_at in rw (d, eq-eqb t t refl) in
        rw head_same (omega (arith, A.counts t, count_within f i (length h.clauses) g, here, R.counts t (omega arith)))

    ahead_next : Ahead h (i + 1)
    ahead_next =
        let e = state_next h i g in
        let m = one_small (at h.clauses i) (state_at h i) h.host.values in
        record {
          size = rw e (m.size ∙ A.size);
          frame = λ j b l p q. let z : i + 1 + (j - (i + 1)) ≡ j = omega arith in
              rw e (m.above p (omega (arith, end_is, rw z at (rise i g (j - (i + 1)) (omega arith)))) ∙ A.frame j (omega arith) l p q);
          counts = λ t. rw (e, count_more (live_in h.words h.clauses t) i) (unfold live_in in unfold live_at in (omega (arith, A.counts t, rw head_same at (m.counts t))));
          sum = rw (e, sum_more (live_size h.words h.clauses) i) (unfold live_size in unfold live_at in (omega (arith, A.sum, rw (head_same, len_same) at m.sum)));
          binary = rw e (omega (arith, A.binary, m.binary));
        }

  pub ahead : (i : ℕ) → i ≤ length h.clauses → Ahead h i
  ahead zero g = record { size = rw (state_zero h) refl; frame = λ j b l p q. rw (state_zero h) refl; counts = λ t. rw (state_zero h) (omega arith); sum = rw (state_zero h) (omega arith); binary = rw (state_zero h) (omega arith) }
  ahead (suc i) g = rw (← add-one) (ahead_next i (omega arith) (ahead i (omega arith)))
