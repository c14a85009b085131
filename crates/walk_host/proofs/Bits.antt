-- A pattern that is at most infinity's, its sign aside, is no NaN's. Assumes nothing.
use mathlib.Core.Path.{◌≡◌, refl, sym, subst}
use mathlib.Core.Bool.{Bool, true, false, not, ◌&&◌}
use Prim.Native.Nat.{ℕ, ◌/◌, ◌%◌, ◌≤◌}
use native.Mathlib.Omega.{arith}
use lib.Dec.{T, eqb}
use lib.Ieee.{nan_bits, binary32}
use borrow.Author.Tests.{eq-eqb, eqb-true}

-- the digits' field is 0 where the exponent's is all ones
digits_none : (b : ℕ) → b % 2147483648 ≤ 2139095040 → b % 2147483648 / 8388608 ≡ 255 → b % 8388608 ≡ 0
digits_none b h e = omega arith

pub not_nan : (b : ℕ) → b % 2147483648 ≤ 2139095040 → T (not (nan_bits binary32 b))
unfolding nan_bits
not_nan b h = go (eqb (b % 2147483648 / 8388608) 255) refl
  where
    go : (t : Bool) → eqb (b % 2147483648 / 8388608) 255 ≡ t → T (not (t && not (eqb (b % 8388608) 0)))
    go false e = tt
    go true e = subst (λ (t : Bool). T (not (true && not t))) (sym (eq-eqb _ _ (digits_none b h (eqb-true _ _ e)))) tt
