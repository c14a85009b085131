-- Tests by their equations, and one index more of `all_below`. Assumes nothing.
use mathlib.Core.Path.{◌≡◌, refl, sym, ap, ◌∙◌}
use mathlib.Core.Bool.{Bool, true, false, not, ◌&&◌, ◌||◌}
use Prim.Native.Nat.{ℕ, ◌+◌}
use native.Mathlib.Numerals.{add-one}
use borrow.Author.Tests.{not-true, not-false}
use Rattle.laws.specs.Fold.{all_below}

pub and_true : (a : Bool) → a && true ≡ a
and_true true = refl
and_true false = refl

pub or_false : (a : Bool) → a || false ≡ a
or_false true = refl
or_false false = refl

pub or_true : (a : Bool) → a || true ≡ true
or_true true = refl
or_true false = refl

pub not_not : (a : Bool) → not (not a) ≡ a
not_not true = refl
not_not false = refl

pub all_step : (f : ℕ → Bool) (i : ℕ) → all_below f (i + 1) ≡ all_below f i && f i
unfolding all_below
all_step f i = rw add-one

-- r is what a test gave, and the code goes by `if !r`
pub passed : {r b : Bool} → r ≡ b → not r ≡ false → b ≡ true
passed e h = sym e ∙ not-false _ h

pub failed : {r b : Bool} → r ≡ b → not r ≡ true → b ≡ false
failed e h = sym e ∙ not-true _ h

-- a row of tests in the code: r is what the first gave, and the code leaves by `if !r`; else q is what the rest gave
pub and_out : {r a : Bool} (b : Bool) → r ≡ a → not r ≡ true → false ≡ a && b
and_out b e h = sym (ap (λ (x : Bool). x && b) (failed e h))

pub and_in : {r a q b : Bool} → r ≡ a → not r ≡ false → q ≡ b → q ≡ a && b
and_in {r} {a} {q} {b} e h k = k ∙ sym (ap (λ (x : Bool). x && b) (passed e h))
