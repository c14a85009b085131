-- Activities, bump and inverse decay stay in document 01's ranges through bump, decay and rescale; 1/decay of an accepted decay lies strictly between 1 and 16; P6 and P7. Assumes nothing.
-- `T (fits binary32 x)` is what owning an f32 tells: it is a float of the format.
use mathlib.Core.Path.{◌≡◌, refl, sym, ap₂, ◌∙◌, subst}
use mathlib.Core.Logic.{◌≢◌}
use mathlib.Core.List.{List, [], ◌∷◌}
use mathlib.Core.Bool.{Bool, true, false, not, ◌&&◌}
use Prim.Native.Nat.{ℕ, zero, suc, ◌^◌, ◌≤◌, ◌<◌, suc-le-suc}
use native.Mathlib.Nat.{le_trans, le_of_lt, le_refl, lt_of_le_of_lt, lt_of_lt_of_le, not-suc-le-zero, zero-lt-suc, le_of_suc-le-suc}
use native.Mathlib.Decide.{ℕ_discrete}
use native.Mathlib.Omega.{arith}
use lib.Dec.{T, ltb, leb, lit<, lit≤}
use lib.ListN.{length, set, length-set}
use lib.Seq.{get_or-set_same, get_or-set_other}
use lib.Ieee.{Float, binary32, add, mul, div, lt, le, fits, is_nan, nan_bits, of_bits, to_bits}
use lib.Ieee.Bits.{of_bits-to_bits, of_bits-fits, nan_bits_is}
use lib.Ieee.Fits.{add-fits, mul-fits}
use borrow.Author.Tests.{ltb-true, leb-true, ltb-false, leb-false, lt-ltb, le-leb}
use Rattle.laws.specs.Fold.{fold_list}
use Rattle.laws.specs.Lists.{at}
use Rattle.laws.proofs.Folds.{and_left, and_right, and_both}
use Rattle.kinds.specs.Floats.{unity, limit, limit_bits, factor, bump_sum, scaled, activity_ok, bump_ok, inverse_ok, decay_ok, inverse}
use Rattle.kinds.proofs.FloatOrder.{val, bits_value, value_of_bits, lt_bits, le_bits}
use Rattle.kinds.proofs.FloatMeaning.{limit_is, value_no_nan}
use Rattle.kinds.proofs.FloatOps.{add_b, mul_b, div_b, add_bits, mul_bits, div_bits}

-- ---- P6: "their rounded product exactly 1.0", and P7

pub factor_is : factor ≡ of_bits binary32 0x0180_0001
unfolding div of_bits
factor_is = refl

pub exact_rescale : (to_bits binary32 limit ≡ limit_bits) × (to_bits binary32 factor ≡ 0x0180_0001) × (mul binary32 limit factor ≡ unity)
unfolding div mul of_bits to_bits
exact_rescale = (refl, refl, refl)

pub inverse_of_half : inverse (of_bits binary32 0x3f00_0000) ≡ of_bits binary32 0x4000_0000
unfolding div of_bits
inverse_of_half = refl

-- ---- no NaN

pub no_nan : (x : Float) → T (fits binary32 x) → to_bits binary32 x < 2139095040 → T (not (is_nan x))
no_nan x F h = value_no_nan x (val (to_bits binary32 x)) (2 ^ 149) (value_of_bits x F h)

pub no_nan_bits : (w : ℕ) → w < 2139095040 → T (not (nan_bits binary32 w))
no_nan_bits w h = subst (λ (b : Bool). T (not b)) (sym (nan_bits_is binary32 w)) (value_no_nan (of_bits binary32 w) (val w) (2 ^ 149) (bits_value w h))

-- ---- the operations at their largest operands
top_sum : add_b 0x7d7f_ffff 0x7d7f_ffff ≡ 0x7dff_ffff
unfolding add of_bits to_bits
top_sum = refl

top_scaled : mul_b 0x7f7f_fffd 0x0180_0001 ≡ 0x417f_ffff
unfolding mul of_bits to_bits
top_scaled = refl

top_decayed : mul_b 0x7d7f_fffe 0x417f_ffff ≡ 0x7f7f_fffd
unfolding mul of_bits to_bits
top_decayed = refl

least_inverse : div_b 0x3f80_0000 0x3f7f_ffff ≡ 0x3f80_0001
unfolding div of_bits to_bits
least_inverse = refl

top_inverse : div_b 0x3f80_0000 0x3d80_0001 ≡ 0x417f_fffe
unfolding div of_bits to_bits
top_inverse = refl

-- ---- a bump of an activity from +0 to the limit stays at most twice the limit
sum_bits : (w b : ℕ) → w ≤ 0x7d7f_ffff → b ≤ 0x7d7f_ffff → add_b w b ≤ 0x7dff_ffff
sum_bits w b h k =
    subst (λ (z : ℕ). add_b w b ≤ z) top_sum
    (add_bits w b 0x7d7f_ffff 0x7d7f_ffff h k (lit< tt) (lit< tt) (subst (λ (z : ℕ). z < 2139095040) (sym top_sum) (lit< tt)))

-- a rescaled value of the largest bump or less is below 16
scaled_bits : (w : ℕ) → w ≤ 0x7f7f_fffd → scaled w ≤ 0x417f_ffff
scaled_bits w h =
    subst (λ (f : Float). to_bits binary32 (mul binary32 (of_bits binary32 w) f) ≤ 0x417f_ffff) (sym factor_is)
    (subst (λ (z : ℕ). mul_b w 0x0180_0001 ≤ z) top_scaled
    (mul_bits w 0x0180_0001 0x7f7f_fffd 0x0180_0001 h (le_refl 0x0180_0001) (lit< tt) (lit< tt) (subst (λ (z : ℕ). z < 2139095040) (sym top_scaled) (lit< tt))))

-- a bump below the limit times an inverse decay below 16 is finite
decayed_bits : (b v : ℕ) → b < 0x7d7f_ffff → v < 0x4180_0000 → mul_b b v ≤ 0x7f7f_fffd
decayed_bits b v h k =
    subst (λ (z : ℕ). mul_b b v ≤ z) top_decayed
    (mul_bits b v 0x7d7f_fffe 0x417f_ffff (omega arith) (omega arith) (lit< tt) (lit< tt) (subst (λ (z : ℕ). z < 2139095040) (sym top_decayed) (lit< tt)))

-- 1 / decay is strictly between 1 and 16, rounding and all
inverse_bits : (d : ℕ) → 0x3d80_0000 < d → d < 0x3f80_0000 → (0x3f80_0000 < div_b 0x3f80_0000 d) × (div_b 0x3f80_0000 d < 0x4180_0000)
inverse_bits d h k =
    let hi : div_b 0x3f80_0000 d ≤ 0x417f_fffe =
    subst (λ (z : ℕ). div_b 0x3f80_0000 d ≤ z) top_inverse
    (div_bits 0x3f80_0000 d 0x3f80_0000 0x3d80_0001 (le_refl 0x3f80_0000) h (lit< tt) (lit< tt) (lt_of_lt_of_le k (lit≤ tt)) (subst (λ (z : ℕ). z < 2139095040) (sym top_inverse) (lit< tt))) in
    let lo : 0x3f80_0001 ≤ div_b 0x3f80_0000 d =
    subst (λ (z : ℕ). z ≤ div_b 0x3f80_0000 d) least_inverse
    (div_bits 0x3f80_0000 0x3f7f_ffff 0x3f80_0000 d (le_refl 0x3f80_0000) (omega arith) (omega arith) (lit< tt) (lit< tt) (lt_of_le_of_lt hi (lit< tt))) in
    (lo, lt_of_le_of_lt hi (lit< tt))

-- ---- the order of finite floats that are not negative is the order of their bits

pub order_is_bits : (x y : Float) → T (fits binary32 x) → T (fits binary32 y) → to_bits binary32 x < 2139095040 → to_bits binary32 y < 2139095040
    → (lt x y ≡ ltb (to_bits binary32 x) (to_bits binary32 y)) × (le x y ≡ leb (to_bits binary32 x) (to_bits binary32 y))
order_is_bits x y F G a b =
    let p = of_bits-to_bits binary32 x F in
    let q = of_bits-to_bits binary32 y G in (
      ap₂ lt (sym p) (sym q) ∙ lt_bits (to_bits binary32 x) (to_bits binary32 y) a b,
      ap₂ le (sym p) (sym q) ∙ le_bits (to_bits binary32 x) (to_bits binary32 y) a b,
    )

-- ---- the tests of specs/Floats.antt, as bounds

pub activity_bound : (w : ℕ) → activity_ok w ≡ true → w ≤ limit_bits
unfolding activity_ok
activity_bound w e = leb-true w limit_bits e

pub bound_activity : (w : ℕ) → w ≤ limit_bits → activity_ok w ≡ true
unfolding activity_ok
bound_activity w h = le-leb w limit_bits h

pub bump_bound : (b : Float) → bump_ok b ≡ true → to_bits binary32 b < limit_bits
unfolding bump_ok
bump_bound b e = ltb-true (to_bits binary32 b) limit_bits e

bound_bump : (b : Float) → to_bits binary32 b < limit_bits → bump_ok b ≡ true
unfolding bump_ok
bound_bump b h = lt-ltb (to_bits binary32 b) limit_bits h

inverse_bound : (v : Float) → inverse_ok v ≡ true → to_bits binary32 v < 0x4180_0000
unfolding inverse_ok
inverse_bound v e = ltb-true (to_bits binary32 v) 0x4180_0000 (and_right (ltb 0x3f80_0000 (to_bits binary32 v)) _ e)

-- ---- a test against the limit, by the patterns

limit_fits : T (fits binary32 limit)
limit_fits = subst (λ (z : Float). T (fits binary32 z)) (sym limit_is) (of_bits-fits binary32 limit_bits)

module _ (x : Float) (F : T (fits binary32 x)) (h : to_bits binary32 x < 2139095040) where
  against : (lt limit x ≡ ltb limit_bits (to_bits binary32 x)) × (le limit x ≡ leb limit_bits (to_bits binary32 x))
  against = subst (λ (n : ℕ). (lt limit x ≡ ltb n (to_bits binary32 x)) × (le limit x ≡ leb n (to_bits binary32 x))) exact_rescale.0 (order_is_bits limit x limit_fits F (subst (λ (n : ℕ). n < 2139095040) (sym exact_rescale.0) (lit< tt)) h)

  -- bump >= limit failed
  under_limit : le limit x ≡ false → to_bits binary32 x < limit_bits
  under_limit e = leb-false limit_bits (to_bits binary32 x) (sym against.1 ∙ e)

  -- activity > limit failed
  at_limit : lt limit x ≡ false → to_bits binary32 x ≤ limit_bits
  at_limit e = ltb-false limit_bits (to_bits binary32 x) (sym against.0 ∙ e)

-- ---- a bump: the sum is finite and at most twice the limit, and where it does not exceed the limit it is an activity

module _ (w : ℕ) (b : Float) (F : T (fits binary32 b)) (W : activity_ok w ≡ true) (B : bump_ok b ≡ true) where
  pub sum_range : to_bits binary32 (bump_sum w b) ≤ 0x7dff_ffff
  sum_range = subst (λ (z : Float). to_bits binary32 (bump_sum w z) ≤ 0x7dff_ffff) (of_bits-to_bits binary32 b F) (sum_bits w (to_bits binary32 b) (activity_bound w W) (le_of_lt (bump_bound b B)))

  pub sum_kept : lt limit (bump_sum w b) ≡ false → activity_ok (to_bits binary32 (bump_sum w b)) ≡ true
  sum_kept e = bound_activity _ (at_limit (bump_sum w b) (add-fits binary32 (of_bits binary32 w) b) (lt_of_le_of_lt sum_range (lit< tt)) e)

-- ---- a rescale: what is at most twice the limit, or a grown bump, becomes small

pub scaled_small : (w : ℕ) → w ≤ 0x7dff_ffff → scaled w ≤ 0x417f_ffff
scaled_small w h = scaled_bits w (le_trans h (lit≤ tt))

pub scaled_ok : (w : ℕ) → w ≤ 0x7dff_ffff → activity_ok (scaled w) ≡ true
scaled_ok w h = bound_activity (scaled w) (le_trans (scaled_small w h) (lit≤ tt))

-- 0x7f7f_fffd: the largest bump that a decay makes (`grown-range`)
pub rescaled_range : (b : Float) → T (fits binary32 b) → to_bits binary32 b ≤ 0x7f7f_fffd → bump_ok (mul binary32 b factor) ≡ true
rescaled_range b F h = bound_bump _ (lt_of_le_of_lt (subst (λ (z : Float). to_bits binary32 (mul binary32 z factor) ≤ 0x417f_ffff) (of_bits-to_bits binary32 b F) (scaled_bits (to_bits binary32 b) h)) (lit< tt))

pub bump_scaled : (b : Float) → T (fits binary32 b) → bump_ok b ≡ true → bump_ok (mul binary32 b factor) ≡ true
bump_scaled b F B = rescaled_range b F (le_trans (le_of_lt (bump_bound b B)) (lit≤ tt))

-- ---- a decay: the grown bump is finite; it is below the limit, or rescaled

module _ (b v : Float) (F : T (fits binary32 b)) (G : T (fits binary32 v)) (B : bump_ok b ≡ true) (I : inverse_ok v ≡ true) where
  pub grown_range : to_bits binary32 (mul binary32 b v) ≤ 0x7f7f_fffd
  grown_range =
      subst (λ (z : Float). to_bits binary32 (mul binary32 z v) ≤ 0x7f7f_fffd) (of_bits-to_bits binary32 b F)
      (subst (λ (z : Float). to_bits binary32 (mul binary32 (of_bits binary32 (to_bits binary32 b)) z) ≤ 0x7f7f_fffd) (of_bits-to_bits binary32 v G) (decayed_bits (to_bits binary32 b) (to_bits binary32 v) (bump_bound b B) (inverse_bound v I)))

  pub grown_kept : le limit (mul binary32 b v) ≡ false → bump_ok (mul binary32 b v) ≡ true
  grown_kept e = bound_bump _ (under_limit (mul binary32 b v) (mul-fits binary32 b v) (lt_of_le_of_lt grown_range (lit< tt)) e)

  pub grown_scaled : bump_ok (mul binary32 (mul binary32 b v) factor) ≡ true
  grown_scaled = rescaled_range (mul binary32 b v) (mul-fits binary32 b v) grown_range

-- ---- "inverse decay 1/decay" of an accepted decay lies strictly between 1 and 16, rounding and all

pub inverse_ok_lem : (d : Float) → T (fits binary32 d) → decay_ok d ≡ true → inverse_ok (inverse d) ≡ true
unfolding decay_ok inverse_ok
inverse_ok_lem d F e =
    let r = inverse_bits (to_bits binary32 d) (ltb-true 0x3d80_0000 (to_bits binary32 d) (and_left _ (ltb (to_bits binary32 d) 0x3f80_0000) e)) (ltb-true (to_bits binary32 d) 0x3f80_0000 (and_right (ltb 0x3d80_0000 (to_bits binary32 d)) _ e)) in
    subst (λ (z : Float). ltb 0x3f80_0000 (to_bits binary32 (div binary32 unity z)) && ltb (to_bits binary32 (div binary32 unity z)) 0x4180_0000 ≡ true) (of_bits-to_bits binary32 d F)
    (and_both _ _ (lt-ltb _ _ r.0) (lt-ltb _ _ r.1))

-- "bump 1.0" at a start
pub unity_ok : bump_ok unity ≡ true
unfolding bump_ok of_bits to_bits
unity_ok = refl

-- ---- the listed activities, rescaled one after the other (`scaled_at` of crate calls, opened)

abbrev pub scaled_in : List ℕ → ℕ → List ℕ
scaled_in ws o = set ws o (scaled (at ws o))

-- there is a word at o, and its pattern is m at most
abbrev pub Under : ℕ → List ℕ → ℕ → Type 0
Under m ws o = (o < length ws) × (at ws o ≤ m)

pub under_set : (m : ℕ) (ws : List ℕ) (o p v : ℕ) → v ≤ m → Under m ws p → Under m (set ws o v) p
under_set m ws o p v sm h = (subst (λ (n : ℕ). p < n) (sym (length-set ws o v)) h.0, go (ℕ_discrete p o))
  where
    go : Dec (p ≡ o) → at (set ws o v) p ≤ m
    go (yes e) = subst (λ (z : ℕ). at (set ws z v) p ≤ m) e (subst (λ (z : ℕ). z ≤ m) (sym (get_or-set_same ws p v 0 h.0)) sm)
    go (no n) = subst (λ (z : ℕ). z ≤ m) (sym (get_or-set_other ws o p v 0 n)) h.1

pub scaled_length : (list ws : List ℕ) → length (fold_list scaled_in ws list) ≡ length ws
unfolding fold_list
scaled_length [] ws = refl
scaled_length (o ∷ os) ws = scaled_length os (scaled_in ws o) ∙ length-set ws o (scaled (at ws o))

-- a word that is not listed stays
pub unlisted_stays : (list ws : List ℕ) (p : ℕ) → ((k : ℕ) → k < length list → p ≢ at list k) → at (fold_list scaled_in ws list) p ≡ at ws p
unfolding fold_list
unlisted_stays [] ws p h = refl
unlisted_stays (o ∷ os) ws p h = unlisted_stays os (scaled_in ws o) p (λ k g. h (suc k) (suc-le-suc g)) ∙ get_or-set_other ws o p (scaled (at ws o)) 0 (h zero (zero-lt-suc (length os)))

-- each listed word is small after, whatever the list repeats
scaled_again : (list ws : List ℕ) (p : ℕ) → Under 0x417f_ffff ws p → at (fold_list scaled_in ws list) p ≤ 0x417f_ffff
unfolding fold_list
scaled_again [] ws p h = h.1
scaled_again (o ∷ os) ws p h = scaled_again os (scaled_in ws o) p (go (ℕ_discrete p o))
  where
    go : Dec (p ≡ o) → Under 0x417f_ffff (scaled_in ws o) p
    go (yes e) = under_set 0x417f_ffff ws o p (scaled (at ws o)) (scaled_small (at ws o) (subst (λ (z : ℕ). at ws z ≤ 0x7dff_ffff) e (le_trans h.1 (lit≤ tt)))) h
    go (no n) = (subst (λ (n : ℕ). p < n) (sym (length-set ws o (scaled (at ws o)))) h.0, subst (λ (z : ℕ). z ≤ 0x417f_ffff) (sym (get_or-set_other ws o p (scaled (at ws o)) 0 n)) h.1)

pub listed_small : (list ws : List ℕ) → ((k : ℕ) → k < length list → Under 0x7dff_ffff ws (at list k)) → (k : ℕ) → k < length list → at (fold_list scaled_in ws list) (at list k) ≤ 0x417f_ffff
unfolding fold_list
listed_small [] ws h k l = absurd (not-suc-le-zero l)
listed_small (o ∷ os) ws h zero l =
    let w = h zero (zero-lt-suc (length os)) in
    scaled_again os (scaled_in ws o) o
    (subst (λ (n : ℕ). o < n) (sym (length-set ws o (scaled (at ws o)))) w.0, subst (λ (z : ℕ). z ≤ 0x417f_ffff) (sym (get_or-set_same ws o (scaled (at ws o)) 0 w.0)) (scaled_small (at ws o) w.1))
listed_small (o ∷ os) ws h (suc k) l =
    let w = h zero (zero-lt-suc (length os)) in
    listed_small os (scaled_in ws o) (λ j g. under_set 0x7dff_ffff ws o (at os j) (scaled (at ws o)) (le_trans (scaled_small (at ws o) w.1) (lit≤ tt)) (h (suc j) (suc-le-suc g))) k (le_of_suc-le-suc l)

pub listed_ok : (list ws : List ℕ) → ((k : ℕ) → k < length list → Under 0x7dff_ffff ws (at list k)) → (k : ℕ) → k < length list → activity_ok (at (fold_list scaled_in ws list) (at list k)) ≡ true
listed_ok list ws h k l = bound_activity _ (le_trans (listed_small list ws h k l) (lit≤ tt))
