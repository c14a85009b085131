-- Sums, products and quotients of values of binary32 that are finite and not negative, by their bit patterns: each grows with its operands' patterns (a quotient shrinks as its divisor's grows), below the infinity.
-- So a bound on a result is what the operation gives at the largest operands, which antt computes. Assumes nothing.
use mathlib.Core.Path.{◌≡◌, sym, ap, ap₂, ◌∙◌, subst}
use Prim.Native.Nat.{ℕ, zero, suc, ◌+◌, ◌*◌, ◌^◌, ◌≤◌, ◌<◌}
use native.Mathlib.Nat.{lt_of_le_of_lt, lt_of_lt_of_le, lt_irrefl, mul_comm, mul_assoc, mul_left_comm, mul_right_comm, add-mul, mul-pos, mul-le-mul, mul-le-mul_right, mul-mul-mul_comm, add-le-add, zero-mul}
use native.Mathlib.Omega.{arith}
use mathlib.Core.Bool.{true, false, cond, true≢false}
use lib.Dec.{T, eqb, eqb→eq, not_T}
use lib.Pow.{pow_pos}
use lib.Ieee.{Float, nan, inf, fin, binary32, up, down, round, add, mul, div, of_bits, to_bits}
use lib.Ieee.Bits.{cond_no}
use lib.Ieee.Fits.{down_pos}
use lib.Ieee.Exact.{HasValue}
use lib.Ieee.Scale.{round_same}
use Rattle.kinds.proofs.FloatOrder.{val, val_le, val_lt, bits_value, round_bits}

-- ---- an operation on values a / c and b / d is one rounding of the exact result
add_is : (x y : Float) (a b c : ℕ) → 0 < c → HasValue x false a c → HasValue y false b c → add binary32 x y ≡ round binary32 false (a + b) c
unfolding add
add_is nan y a b c C p q = absurd p
add_is (inf s) y a b c C p q = absurd p
add_is (fin true m e) y a b c C p q = absurd (true≢false p.0)
add_is (fin false m e) nan a b c C p q = absurd q
add_is (fin false m e) (inf t) a b c C p q = absurd q
add_is (fin false m e) (fin true n d) a b c C p q = absurd (true≢false q.0)
add_is (fin false m e) (fin false n d) a b c C p q =
    round_same binary32 false (m * up e * down d + n * up d * down e) (down e * down d) (a + b) c (mul-pos (down_pos e) (down_pos d)) C
    (add-mul (m * up e * down d) (n * up d * down e) c
    ∙ ap₂ (λ (x y : ℕ). x + y)
    (mul_right_comm (m * up e) (down d) c ∙ ap (λ (z : ℕ). z * down d) p.1 ∙ mul_assoc a (down e) (down d))
    (mul_right_comm (n * up d) (down e) c ∙ ap (λ (z : ℕ). z * down e) q.1 ∙ mul_right_comm b (down d) (down e) ∙ mul_assoc b (down e) (down d))
    ∙ sym (add-mul a b (down e * down d)))

mul_is : (x y : Float) (a c b d : ℕ) → 0 < c → 0 < d → HasValue x false a c → HasValue y false b d → mul binary32 x y ≡ round binary32 false (a * b) (c * d)
unfolding mul
mul_is nan y a c b d C D p q = absurd p
mul_is (inf s) y a c b d C D p q = absurd p
mul_is (fin true m e) y a c b d C D p q = absurd (true≢false p.0)
mul_is (fin false m e) nan a c b d C D p q = absurd q
mul_is (fin false m e) (inf t) a c b d C D p q = absurd q
mul_is (fin false m e) (fin true n k) a c b d C D p q = absurd (true≢false q.0)
mul_is (fin false m e) (fin false n k) a c b d C D p q =
    round_same binary32 false (m * up e * (n * up k)) (down e * down k) (a * b) (c * d) (mul-pos (down_pos e) (down_pos k)) (mul-pos C D)
    (mul-mul-mul_comm (m * up e) (n * up k) c d ∙ ap₂ (λ (x y : ℕ). x * y) p.1 q.1 ∙ mul-mul-mul_comm a (down e) b (down k))

no_zero : (n z b e : ℕ) → 0 < b → 0 < e → n * z ≡ b * e → T (eqb n 0) → ⊥
no_zero n z b e B E h t = lt_irrefl 0 (lt_of_lt_of_le (mul-pos B E) (subst (λ (w : ℕ). w ≤ 0) (sym (ap (λ (w : ℕ). w * z) (eqb→eq n 0 t) ∙ zero-mul z) ∙ h) (omega arith)))

div_is : (x y : Float) (a c b d : ℕ) → 0 < c → 0 < d → 0 < b → HasValue x false a c → HasValue y false b d → div binary32 x y ≡ round binary32 false (a * d) (b * c)
unfolding div
div_is nan y a c b d C D B p q = absurd p
div_is (inf s) y a c b d C D B p q = absurd p
div_is (fin true m e) y a c b d C D B p q = absurd (true≢false p.0)
div_is (fin false m e) nan a c b d C D B p q = absurd q
div_is (fin false m e) (inf t) a c b d C D B p q = absurd q
div_is (fin false m e) (fin true n k) a c b d C D B p q = absurd (true≢false q.0)
div_is (fin false m e) (fin false n k) a c b d C D B p q =
    let nz : T (eqb n 0) → ⊥ = no_zero n (up k * d) b (down k) B (down_pos k) (sym (mul_assoc n (up k) d) ∙ q.1) in
    cond_no (eqb n 0) (cond (eqb m 0) nan (inf false)) (round binary32 false (m * up e * down k) (n * up k * down e)) (not_T (eqb n 0) nz)
    ∙ round_same binary32 false (m * up e * down k) (n * up k * down e) (a * d) (b * c) (divisor n (up k) (down e) b d (down k) B D (down_pos k) (down_pos e) q.1) (mul-pos B C)
    (mul-mul-mul_comm (m * up e) (down k) b c ∙ swap (m * up e) (down k) b c ∙ ap₂ (λ (x y : ℕ). x * y) p.1 (sym q.1) ∙ mul-mul-mul_comm a (down e) (n * up k) d ∙ last a (down e) (n * up k) d)
  where
    swap : (m k b c : ℕ) → m * b * (k * c) ≡ m * c * (b * k)
    swap m k b c = simp (mul_assoc, mul_comm, mul_left_comm)

    last : (a e n d : ℕ) → a * n * (e * d) ≡ a * d * (n * e)
    last a e n d = simp (mul_assoc, mul_comm, mul_left_comm)

    divisor : (n u e b d k : ℕ) → 0 < b → 0 < d → 0 < k → 0 < e → n * u * d ≡ b * k → 0 < n * u * e
    divisor n u e b d k B D K E h = mul-pos (pos_of (n * u) d (subst (λ (w : ℕ). 0 < w) (sym h) (mul-pos B K))) E
      where
        pos_of : (x y : ℕ) → 0 < x * y → 0 < x
        pos_of zero y h = absurd (lt_irrefl 0 (subst (λ (w : ℕ). 0 < w) (zero-mul y) h))
        pos_of (suc x) y h = omega arith

-- ---- by the patterns
abbrev U : ℕ
U = 2 ^ 149

U_pos : 0 < U
U_pos = pow_pos 149

pub val_pos : (b : ℕ) → 0 < b → 0 < val b
val_pos b h = val_lt 0 b h

add_round : (a b : ℕ) → a < 2139095040 → b < 2139095040 → add binary32 (of_bits binary32 a) (of_bits binary32 b) ≡ round binary32 false (val a + val b) U
add_round a b A B = add_is (of_bits binary32 a) (of_bits binary32 b) (val a) (val b) U U_pos (bits_value a A) (bits_value b B)

mul_round : (a b : ℕ) → a < 2139095040 → b < 2139095040 → mul binary32 (of_bits binary32 a) (of_bits binary32 b) ≡ round binary32 false (val a * val b) (U * U)
mul_round a b A B = mul_is (of_bits binary32 a) (of_bits binary32 b) (val a) U (val b) U U_pos U_pos (bits_value a A) (bits_value b B)

div_round : (a b : ℕ) → a < 2139095040 → b < 2139095040 → 0 < b → div binary32 (of_bits binary32 a) (of_bits binary32 b) ≡ round binary32 false (val a * U) (val b * U)
div_round a b A B P = div_is (of_bits binary32 a) (of_bits binary32 b) (val a) U (val b) U U_pos U_pos (val_pos b P) (bits_value a A) (bits_value b B)

-- what holds of two roundings holds of the operations that they are
carry : (x y x' y' : Float) → x ≡ x' → y ≡ y' → (to_bits binary32 y' < 2139095040 → to_bits binary32 x' ≤ to_bits binary32 y') → to_bits binary32 y < 2139095040 → to_bits binary32 x ≤ to_bits binary32 y
carry x y x' y' p q h k =
    subst (λ (z : Float). to_bits binary32 z ≤ to_bits binary32 y) (sym p)
    (subst (λ (z : Float). to_bits binary32 x' ≤ to_bits binary32 z) (sym q) (h (subst (λ (z : Float). to_bits binary32 z < 2139095040) q k)))

abbrev pub add_b : ℕ → ℕ → ℕ
add_b a b = to_bits binary32 (add binary32 (of_bits binary32 a) (of_bits binary32 b))

abbrev pub mul_b : ℕ → ℕ → ℕ
mul_b a b = to_bits binary32 (mul binary32 (of_bits binary32 a) (of_bits binary32 b))

abbrev pub div_b : ℕ → ℕ → ℕ
div_b a b = to_bits binary32 (div binary32 (of_bits binary32 a) (of_bits binary32 b))

pub add_bits : (a b a' b' : ℕ) → a ≤ a' → b ≤ b' → a' < 2139095040 → b' < 2139095040 → add_b a' b' < 2139095040 → add_b a b ≤ add_b a' b'
add_bits a b a' b' p q A B =
    carry (add binary32 (of_bits binary32 a) (of_bits binary32 b)) (add binary32 (of_bits binary32 a') (of_bits binary32 b')) (round binary32 false (val a + val b) U) (round binary32 false (val a' + val b') U)
    (add_round a b (lt_of_le_of_lt p A) (lt_of_le_of_lt q B))
    (add_round a' b' A B)
    (round_bits (val a + val b) U (val a' + val b') U U_pos U_pos (mul-le-mul_right U (add-le-add (val_le a a' p) (val_le b b' q))))

pub mul_bits : (a b a' b' : ℕ) → a ≤ a' → b ≤ b' → a' < 2139095040 → b' < 2139095040 → mul_b a' b' < 2139095040 → mul_b a b ≤ mul_b a' b'
mul_bits a b a' b' p q A B =
    carry (mul binary32 (of_bits binary32 a) (of_bits binary32 b)) (mul binary32 (of_bits binary32 a') (of_bits binary32 b')) (round binary32 false (val a * val b) (U * U)) (round binary32 false (val a' * val b') (U * U))
    (mul_round a b (lt_of_le_of_lt p A) (lt_of_le_of_lt q B))
    (mul_round a' b' A B)
    (round_bits (val a * val b) (U * U) (val a' * val b') (U * U) (mul-pos U_pos U_pos) (mul-pos U_pos U_pos) (mul-le-mul_right (U * U) (mul-le-mul (val_le a a' p) (val_le b b' q))))

pub div_bits : (a b a' b' : ℕ) → a ≤ a' → b' ≤ b → 0 < b' → a' < 2139095040 → b < 2139095040 → div_b a' b' < 2139095040 → div_b a b ≤ div_b a' b'
div_bits a b a' b' p q P A B =
    carry (div binary32 (of_bits binary32 a) (of_bits binary32 b)) (div binary32 (of_bits binary32 a') (of_bits binary32 b')) (round binary32 false (val a * U) (val b * U)) (round binary32 false (val a' * U) (val b' * U))
    (div_round a b (lt_of_le_of_lt p A) B (lt_of_lt_of_le P q))
    (div_round a' b' A (lt_of_le_of_lt q B) P)
    (round_bits (val a * U) (val b * U) (val a' * U) (val b' * U) (mul-pos (val_pos b (lt_of_lt_of_le P q)) U_pos) (mul-pos (val_pos b' P) U_pos)
    (mul-le-mul (mul-le-mul_right U (val_le a a' p)) (mul-le-mul_right U (val_le b' b q))))
