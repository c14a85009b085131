-- A number in decimal, digit by digit from the last one. Assumes nothing.
use mathlib.Core.Path.{◌≡◌, sym, ap, ◌∙◌}
use mathlib.Core.List.{List, ◌∷◌, ◌++◌, append_assoc, append-nil}
use Prim.Native.Nat.{ℕ, zero, suc, ◌+◌, ◌-◌, ◌/◌, ◌%◌, ◌≤◌, ◌<◌, ◌^◌}
use native.Mathlib.Omega.{arith}
use native.Mathlib.Numerals.{add-one}
use native.Mathlib.Nat.{pow-suc, div-lt_iff_lt-mul}
use lib.ListN.{length, set, take, drop, length-set, length-drop, drop_of_length-le}
use lib.Seq.{take_all, drop-cons, drop-set-lt, get_or-set_same}
use borrow.Author.Tests.{lt-ltb, le-ltb}
use Rattle.walk_text.specs.Page.{page, written}
use Rattle.walk_text.specs.Numbers.{spelled, decimal}

-- the text from place i on, where its first byte was just written
front : (text : List ℕ) (i x : ℕ) → i < length text → drop i (set text i x) ≡ x ∷ drop (i + 1) text
front text i x h =
    let here = get_or-set_same text i x 0 h in
    let rest = drop-set-lt (suc i) text i x (omega arith) in
    rw (drop-cons (set text i x) i 0 (simp length-set h), here, rest, add-one)

-- a digit that others stand before
before_digit : (text : List ℕ) (n i x : ℕ) → i < length text → 10 ≤ n → x ≡ 48 + n % 10 → spelled (suc i) n ++ drop (i + 1) text ≡ spelled i (n / 10) ++ drop i (set text i x)
unfolding spelled
before_digit text n i x h g e = rw (le-ltb n 10 g, front text i x h, e) (append_assoc (spelled i (n / 10)) _ _)

pub more_digits : (text : List ℕ) (n i x : ℕ) (whole : List ℕ) → 0 < i → i < length text → 10 ≤ n → x ≡ 48 + n % 10
    → spelled (suc i) n ++ drop (i + 1) text ≡ whole → spelled (suc (i - 1)) (n / 10) ++ drop (i - 1 + 1) (set text i x) ≡ whole
more_digits text n i x whole pos h g e so =
    let one : suc (i - 1) ≡ i = omega arith in
    let same : i - 1 + 1 ≡ i = omega arith in
    rw (one, same) (sym (before_digit text n i x h g e) ∙ so)

-- the first digit
pub first_digit : (text : List ℕ) (n i x : ℕ) → i < length text → n < 10 → x ≡ 48 + n % 10
    → spelled (suc i) n ++ drop (i + 1) text ≡ drop i (set text i x)
unfolding spelled
first_digit text n i x h g e = rw (lt-ltb n 10 g, front text i x h, e)

-- 20 digits hold the number, and one less a tenth of it
pub all_digits : (n : ℕ) (text : List ℕ) → length text ≡ 20 → spelled 20 n ++ drop 20 text ≡ decimal n
all_digits n text e = rw (drop_of_length-le text {i = 20} (omega arith)) (append-nil (spelled 20 n))

pub fewer : (n i : ℕ) → 0 < i → n < 10 ^ (i + 1) → n / 10 < 10 ^ (i - 1 + 1)
fewer n i pos h =
    let same : i - 1 + 1 ≡ i = omega arith in
    rw same ((div-lt_iff_lt-mul {k = 10} {x = n} {y = 10 ^ i} (omega arith)).1 (rw (add-one, pow-suc) at h))

pub several : (n i : ℕ) → n < 10 ^ (i + 1) → 10 ≤ n → 0 < i
several n zero h g = absurd (omega arith)
several n (suc i) h g = omega arith

-- the text from the first digit on, to its end
pub written_out : (out after text : List ℕ) (at to from n : ℕ) → length text ≡ 20 → drop from text ≡ decimal n
    → page after to ≡ written (take (20 - from) (drop from text)) (page out at) → page after to ≡ written (decimal n) (page out at)
written_out out after text at to from n e d so =
    so ∙ ap (λ (t : List ℕ). written t (page out at)) (take_all (20 - from) (drop from text) (rw (length-drop from text) (omega arith)) ∙ d)
