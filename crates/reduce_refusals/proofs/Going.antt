-- The code's test of a clause that goes, and its tallies. Assumes nothing.
use mathlib.Core.Path.{◌≡◌, refl, sym, ap, subst}
use mathlib.Core.Bool.{Bool, true, false}
use mathlib.Core.List.{List}
use Prim.Native.Nat.{ℕ, zero, suc, ◌+◌, ◌-◌, ◌*◌, ◌^◌, ◌≤◌, ◌<◌}
use native.Mathlib.Omega.{arith}
use borrow.Author.Tests.{le-ltb}
use Rattle.laws.specs.Fold.{one, count_below, sum_below}
use Rattle.laws.specs.Lists.{at}
use native.Mathlib.Nat.{one-mul, zero-mul}
use Rattle.laws.proofs.Totals.{count_yes, count_no, sum_next}
use Rattle.laws.proofs.Folds.{count_none, and_fails_right}
use Rattle.laws.proofs.Sums.{sum_none}
use Rattle.kinds.specs.Clauses.{len_at}
use Rattle.calls.specs.Reducing.{sort_key}
use Rattle.reduce_refusals.specs.Counted.{goer, goes, goes_at, line_at, Rising}

-- ---- one clause more

pub record Tallied (w values kinds reasons : List ℕ) (key : ℕ) (l : List ℕ) (i count lines : ℕ) : Type 0 where
  pub counted : count ≡ count_below (goes_at w values kinds reasons key l) i
  pub measured : lines ≡ sum_below (line_at w values kinds reasons key l) i
  pub count_few : count ≤ i
  pub lines_few : lines ≤ i * 4294967300

pub tally_start : (w values kinds reasons : List ℕ) (key : ℕ) (l : List ℕ) → Tallied w values kinds reasons key l 0 0 0
tally_start w values kinds reasons key l = record { counted = sym (count_none _); measured = sym (sum_none _); count_few = omega arith; lines_few = omega arith }

module _ {w values kinds reasons : List ℕ} {key : ℕ} {l : List ℕ} {i count lines : ℕ} (I : Tallied w values kinds reasons key l i count lines) where
  pub tally_goes : goes w values kinds reasons key (at l i) ≡ true → len_at w (at l i) < 2 ^ 32 → Tallied w values kinds reasons key l (i + 1) (count + 1) (lines + (len_at w (at l i) + 2))
  unfolding goes_at line_at
  tally_goes t small = record {
    counted = count_yes _ i I.counted refl t;
    measured = sum_next _ i I.measured (rw t (sym (one-mul (len_at w (at l i) + 2)))) refl;
    count_few = omega arith;
    lines_few = omega arith;
  }

  pub tally_stays : goes w values kinds reasons key (at l i) ≡ false → Tallied w values kinds reasons key l (i + 1) count lines
  unfolding goes_at line_at
  tally_stays t = record {
    counted = count_no _ i I.counted refl t;
    measured = sum_next _ i {x = 0} I.measured (rw t (sym (zero-mul (len_at w (at l i) + 2)))) (omega arith);
    count_few = omega arith;
    lines_few = omega arith;
  }

-- ---- halving: fewer than half go below the lower bound, more than half below the higher one

none_counted : (f : ℕ → Bool) (n : ℕ) → ((i : ℕ) → f i ≡ false) → count_below f n ≡ 0
unfolding count_below
none_counted f zero h = refl
none_counted f (suc n) h = let a = none_counted f n h in let b = ap one (h n) in omega arith

pub record Between (w values kinds reasons l : List ℕ) (n half low high : ℕ) : Type 0 where
  pub order : low < high
  pub most : high ≤ 9223372036854775808
  pub below : count_below (goes_at w values kinds reasons low l) n ≤ half
  pub above : half < count_below (goes_at w values kinds reasons high l) n

module _ {w values kinds reasons l : List ℕ} {n half : ℕ} where
  pub bounds_start : half < count_below (goes_at w values kinds reasons 9223372036854775808 l) n → Between w values kinds reasons l n half 0 9223372036854775808
  unfolding goes_at goes
  bounds_start h = record {
    order = omega arith;
    most = omega arith;
    below = let e = none_counted (goes_at w values kinds reasons 0 l) n (λ i. and_fails_right (goer w values kinds reasons (at l i)) _ (le-ltb (sort_key w (at l i)) 0 (omega arith))) in omega arith;
    above = h;
  }

  pub bounds_end : {low high : ℕ} → Between w values kinds reasons l n half low high → high - low ≤ 1 → Rising w values kinds reasons l n → count_below (goes_at w values kinds reasons low l) n ≡ half
  bounds_end {low} {high} I h r =
      let a = I.above in
      let e : high ≡ low + 1 = omega arith in
      let s = r low in
      let t : half < count_below (goes_at w values kinds reasons (low + 1) l) n = subst (λ (x : ℕ). half < count_below (goes_at w values kinds reasons x l) n) e a in
      omega arith
