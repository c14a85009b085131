-- Every listed live activity and the bump stay in document 01's ranges through rescale, bump and decay: "an activity from +0 to the rescale limit (not -0)", "Bump is +0 or more (not -0) and below
-- the limit". So they stay finite. Assumes nothing.
use mathlib.Core.Path.{◌≡◌, refl, sym, subst}
use mathlib.Core.Bool.{Bool, true, false, cond}
use mathlib.Core.List.{List}
use Prim.Native.Nat.{ℕ, ◌+◌, ◌≤◌, ◌<◌}
use native.Mathlib.Omega.{arith}
use lib.Dec.{T, lit≤}
use lib.Ieee.Fits.{mul-fits}
use native.Mathlib.Nat.{le_trans, le_of_lt}
use lib.ListN.{length, set, take}
use lib.Seq.{get_or-take, length-take-le, get_or-set_other}
use lib.Ieee.{binary32, mul, lt, le, fits, to_bits}
use Rattle.laws.specs.Lists.{at}
use Rattle.kinds.specs.Clauses.{activity_at, head_at, deleted_at, undeleted}
use Rattle.kinds.specs.Floats.{limit, limit_bits, bump_sum, activity_ok, bump_ok, inverse_ok}
use Rattle.kinds.specs.Held.{Held}
use Rattle.kinds.specs.declared.ClauseActivity.{ClauseActivity}
use Rattle.kinds.proofs.FloatRanges.{activity_bound, bound_activity, sum_range, sum_kept, bump_bound, rescaled_range, grown_range, grown_kept, under_set, listed_ok}
use Rattle.calls.specs.Bumping.{scaled_at, rescaled, activity_raised, activity_bumped, bump_grown, decayed}
use Rattle.activity.specs.Stored.{holding, Bounded, twice_limit, Away}
use Rattle.activity.proofs.Scaling.{live_loud, looser, raised_bounded}

pub record InRange (h : Held) : Type 0 where
  pub activities : (k : ℕ) → k < length h.clauses → deleted_at h.words (at h.clauses k) ≡ false → activity_ok (activity_at h.words (at h.clauses k)) ≡ true
  pub bump : bump_ok h.activity.bump ≡ true

chosen : (t : Bool) (a b : Held) → (t ≡ true → InRange a) → (t ≡ false → InRange b) → InRange (cond t a b)
chosen true a b f g = f refl
chosen false a b f g = g refl

-- the activities as they were judged
judged : (ws clauses : List ℕ) (n : ℕ) (a : ClauseActivity) → Bounded limit_bits ws clauses n → bump_ok a.bump ≡ true → InRange (holding ws clauses n a)
judged ws clauses n a b e =
    let len = length-take-le n clauses b.placed.within in
    record {
      activities = λ k h d.
          let l : k < n = omega arith in
          let q = get_or-take n clauses k 0 l in
          bound_activity _ (subst (λ (o : ℕ). at ws o ≤ limit_bits) (sym q) (b.bound k l (subst (λ (o : ℕ). deleted_at ws o ≡ false) q d)));
      bump = e;
    }

pub rescale_keeps : (ws clauses : List ℕ) (n : ℕ) (a : ClauseActivity) → T (fits binary32 a.bump) → to_bits binary32 a.bump ≤ 0x7f7f_fffd → Bounded twice_limit ws clauses n → InRange (rescaled (holding ws clauses n a))
unfolding rescaled scaled_at
rescale_keeps ws clauses n a F h b = record { activities = λ k h d. listed_ok (undeleted ws (take n clauses)) ws (live_loud ws clauses n b) k h; bump = rescaled_range a.bump F h }

module _ (ws clauses : List ℕ) (n : ℕ) (a : ClauseActivity) (F : T (fits binary32 a.bump)) (b : Bounded limit_bits ws clauses n) (B : bump_ok a.bump ≡ true) where
  -- ---- bump

  module _ (o : ℕ) (there : o < length ws) (own : activity_ok (at ws o) ≡ true) (away : Away clauses n o) where
    sum : ℕ
    sum = to_bits binary32 (bump_sum (at ws o) a.bump)

    raised_keeps : lt limit (bump_sum (at ws o) a.bump) ≡ false → InRange (activity_raised o (holding ws clauses n a))
    unfolding sum
    raised_keeps e =
        let len = length-take-le n clauses b.placed.within in
        let low = activity_bound sum (sum_kept (at ws o) a.bump F own B e) in
        record {
          activities = λ k h d.
              let l : k < n = omega arith in
              let q = get_or-take n clauses k 0 l in
              let t = b.placed.there k l in
              let same : head_at (set ws o sum) (at clauses k) ≡ head_at ws (at clauses k) = get_or-set_other ws o (at clauses k + 1) sum 0 (away k l) in
              let d' : deleted_at (set ws o sum) (at clauses k) ≡ false = subst (λ (x : ℕ). deleted_at (set ws o sum) x ≡ false) q d in
              bound_activity _ (subst (λ (x : ℕ). at (set ws o sum) x ≤ limit_bits) (sym q) (under_set limit_bits ws o (at clauses k) sum low (omega arith, b.bound k l (rw same at d'))).1);
          bump = B;
        }

    pub bump_keeps : InRange (activity_bumped o (holding ws clauses n a))
    unfolding activity_bumped sum
    bump_keeps =
        chosen (lt limit (bump_sum (at ws o) a.bump)) (rescaled (activity_raised o (holding ws clauses n a))) (activity_raised o (holding ws clauses n a))
        (λ e. rescale_keeps (set ws o sum) clauses n a F (le_trans (le_of_lt (bump_bound a.bump B)) (lit≤ tt)) (raised_bounded ws clauses n o sum (sum_range (at ws o) a.bump F own B) away b))
        raised_keeps

  -- ---- decay

  module _ (G : T (fits binary32 a.inv_decay)) (I : inverse_ok a.inv_decay ≡ true) where
    pub decay_keeps : InRange (decayed (holding ws clauses n a)) × (inverse_ok (decayed (holding ws clauses n a)).activity.inv_decay ≡ true)
    unfolding decayed rescaled
    decay_keeps = (
      chosen (le limit (mul binary32 a.bump a.inv_decay)) (rescaled (bump_grown (holding ws clauses n a))) (bump_grown (holding ws clauses n a))
          (λ e. rescale_keeps ws clauses n (bump_grown (holding ws clauses n a)).activity (mul-fits binary32 a.bump a.inv_decay) (grown_range a.bump a.inv_decay F G B I) (looser ws clauses n b))
          (λ e. judged ws clauses n (bump_grown (holding ws clauses n a)).activity b (grown_kept a.bump a.inv_decay F G B I e)),
      same (le limit (mul binary32 a.bump a.inv_decay)),
    )
      where
        same : (t : Bool) → inverse_ok (cond t (rescaled (bump_grown (holding ws clauses n a))) (bump_grown (holding ws clauses n a))).activity.inv_decay ≡ true
        same true = unfold rescaled in I
        same false = I
