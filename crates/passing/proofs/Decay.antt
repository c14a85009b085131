-- Decaying and setting the decay keep what passing says. Assumes nothing.
use mathlib.Core.Path.{◌≡◌, refl}
use mathlib.Core.Bool.{Bool, true, false, cond}
use mathlib.Core.List.{List}
use Prim.Native.Nat.{ℕ}
use native.Mathlib.Omega.{arith}
use lib.Dec.{ltb, T}
use lib.Ieee.{Float, binary32, mul, le, to_bits, fits}
use lib.Ieee.Fits.{mul-fits, div-fits}
use borrow.Author.Tests.{ltb-true}
use Rattle.laws.proofs.Folds.{and_left, and_right}
use Rattle.kinds.specs.Floats.{unity, limit, factor, inverse, inverse_ok, decay_ok}
use Rattle.kinds.specs.Held.{Held}
use Rattle.kinds.proofs.FloatRanges.{grown_kept, grown_scaled, inverse_ok_lem}
use Rattle.calls.specs.Bumping.{rescaled, bump_grown, decayed, decay_set}
use Rattle.passing.proofs.Good.{Whole}
use Rattle.passing.proofs.Rescale.{Loud, rescaled_store, rescaled_reasons, rescaled_quiet, tuned_bump, tuned_inverse, retuned}

-- ---- decay

grown_good : (h : Held) (p : List ℕ) → Whole h p → le limit (bump_grown h).activity.bump ≡ false → Whole (bump_grown h) p
grown_good h p d e =
    let t = d.tuned in
    record {
      store = d.store;
      quiet = d.quiet;
      rows = d.rows;
      tuned = retuned t (mul binary32 h.activity.bump h.activity.inv_decay) (mul-fits binary32 h.activity.bump h.activity.inv_decay)
          (grown_kept h.activity.bump h.activity.inv_decay t.bump_fits t.inverse_fits (tuned_bump t) (tuned_inverse t) e);
      sided = d.sided;
      reasons = d.reasons;
    }

scaled_good : (h : Held) (p : List ℕ) → Whole h p → Whole (rescaled (bump_grown h)) p
unfolding rescaled
scaled_good h p d =
    let t = d.tuned in
    let loud : Loud h.words h.clauses = λ o m q. let z = d.quiet o m q in omega arith in
    record {
      store = rescaled_store d.store h.host d.reasons loud;
      quiet = rescaled_quiet d.store h.host d.reasons loud;
      rows = d.rows;
      tuned = retuned t (mul binary32 (mul binary32 h.activity.bump h.activity.inv_decay) factor) (mul-fits binary32 (mul binary32 h.activity.bump h.activity.inv_decay) factor)
          (grown_scaled h.activity.bump h.activity.inv_decay t.bump_fits t.inverse_fits (tuned_bump t) (tuned_inverse t));
      sided = d.sided;
      reasons = rescaled_reasons d.store h.host d.reasons loud;
    }

pub decayed_good : (h : Held) (p : List ℕ) → Whole h p → Whole (decayed h) p
unfolding decayed
decayed_good h p d = go (le limit (bump_grown h).activity.bump) refl
  where
    go : (b : Bool) → le limit (bump_grown h).activity.bump ≡ b → Whole (cond b (rescaled (bump_grown h)) (bump_grown h)) p
    go true e = scaled_good h p d
    go false e = grown_good h p d e

-- ---- setting the decay

pub decay_set_good : (x : Float) → T (fits binary32 x) → decay_ok x ≡ true → (h : Held) (p : List ℕ) → Whole h p → Whole (decay_set x h) p
unfolding decay_set inverse_ok
decay_set_good x f e h p d =
    let i = inverse_ok_lem x f e in
    record {
      store = d.store;
      quiet = d.quiet;
      rows = d.rows;
      tuned = record {
        bump = d.tuned.bump;
        above = ltb-true 0x3f80_0000 (to_bits binary32 (inverse x)) (and_left _ _ i);
        below = ltb-true (to_bits binary32 (inverse x)) 0x4180_0000 (and_right (ltb 0x3f80_0000 (to_bits binary32 (inverse x))) _ i);
        bump_fits = d.tuned.bump_fits;
        inverse_fits = div-fits binary32 unity x;
      };
      sided = d.sided;
      reasons = d.reasons;
    }
