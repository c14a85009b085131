-- A field of n binary digits from place k on of a word of k + n + m: what a shift and a mask read there, what a mask, a shift and an `|` write there, and that a write leaves every other field.
-- Assumes nothing.
use mathlib.Core.Path.{◌≡◌, refl, sym, ap, ap₂, ◌∙◌, subst}
use Prim.Native.Nat.{ℕ, ◌+◌, ◌-◌, ◌*◌, ◌/◌, ◌%◌, ◌^◌, ◌≤◌, ◌<◌}
use native.Mathlib.Omega.{arith}
use native.Mathlib.Decide.{ℕ_discrete}
use native.Mathlib.Nat.{one-mul, div-one, mul-one, mul_assoc, add-mul, le_of_eq, mul-le-mul_left, le-add_right, lt_of_lt_of_le, le_trans, mod-lt, mod-eq_of_lt, mul_comm, zero-mul, zero-add, add_comm, add_assoc, add-sub_of_le, div-lt_iff_lt-mul}
use lib.Arith.{digits_lt}
use lib.Pow.{pow-add, pow_pos, pow_mono, pow-lt, split, high, low, ones_lt, field, shl_lt, shr-shr, mod-mod-pow}
use mathlib.Core.Bool.{Bool, true, false, not}
use mir.Val.{bool_byte}
use lib.Dec.{lit<, eqb}
use lib.Bits.{bit_and, bit_or, and_mask, and_block, or_block, or_zero_r, or_shifted_r}
use Rattle.laws.specs.Fold.{one}
use Rattle.kinds.specs.Header as spec

-- ---- reading: `(w >> k) & (2 ^ n - 1)`
pub read : (k n w : ℕ) → bit_and (w / 2 ^ k) (2 ^ n - 1) ≡ spec.field k n w
read k n w = and_mask (w / 2 ^ k) n

-- ---- writing: `(w & M) | (v << k)`, where M has ones outside the field
lows : (k n w : ℕ) → w % 2 ^ (k + n) % 2 ^ k ≡ w % 2 ^ k
lows k n w = ap (λ (e : ℕ). w % 2 ^ e % 2 ^ k) (add_comm k n) ∙ mod-mod-pow w n k

ones_fit : (k n : ℕ) → 2 ^ k - 1 < 2 ^ (k + n)
ones_fit k n = lt_of_lt_of_le (ones_lt k) (subst (λ (e : ℕ). 2 ^ k ≤ e) (sym (pow-add 2 k n)) (widen (2 ^ k) (2 ^ n) (pow_pos n)))
  where
    widen : (a b : ℕ) → 0 < b → a ≤ a * b
    widen a b h = le_trans (le_of_eq (sym (mul-one a))) (mul-le-mul_left a h)

shifted_fits : (k n v : ℕ) → v < 2 ^ n → v * 2 ^ k < 2 ^ (k + n)
shifted_fits k n v h = subst (λ (e : ℕ). v * 2 ^ k < 2 ^ e) (add_comm n k) (shl_lt n k h)

cleared : (m k n w : ℕ) → w < 2 ^ (m + (k + n)) → bit_and w ((2 ^ m - 1) * 2 ^ (k + n) + (2 ^ k - 1)) ≡ w / 2 ^ (k + n) * 2 ^ (k + n) + w % 2 ^ k
cleared m k n w h =
    let j = k + n in
    ap (λ (x : ℕ). bit_and x ((2 ^ m - 1) * 2 ^ j + (2 ^ k - 1))) (sym (split w j))
    ∙ and_block j (w / 2 ^ j) (2 ^ m - 1) (w % 2 ^ j) (2 ^ k - 1) (mod-lt w (pow_pos j)) (ones_fit k n)
    ∙ ap₂ (λ (x y : ℕ). x * 2 ^ j + y)
    (and_mask (w / 2 ^ j) m ∙ mod-eq_of_lt ((div-lt_iff_lt-mul (pow_pos j)).1 (subst (λ (e : ℕ). w < e) (pow-add 2 m j) h)))
    (and_mask (w % 2 ^ j) k ∙ lows k n w)

pub write : (m k n M w v : ℕ) → M ≡ (2 ^ m - 1) * 2 ^ (k + n) + (2 ^ k - 1) → w < 2 ^ (m + (k + n)) → v < 2 ^ n → bit_or (bit_and w M) (v * 2 ^ k) ≡ spec.put k n v w
write m k n M w v e h g =
    let j = k + n in
    let below : w % 2 ^ k < 2 ^ j = lt_of_lt_of_le (mod-lt w (pow_pos k)) (pow_mono (grow k n)) in
    ap (λ (x : ℕ). bit_or (bit_and w x) (v * 2 ^ k)) e
    ∙ ap₂ bit_or (cleared m k n w h) (sym (zero-add (v * 2 ^ k)) ∙ ap (λ (x : ℕ). x + v * 2 ^ k) (sym (zero-mul (2 ^ j))))
    ∙ or_block j (w / 2 ^ j) 0 (w % 2 ^ k) (v * 2 ^ k) below (shifted_fits k n v g)
    ∙ ap₂ (λ (x y : ℕ). x * 2 ^ j + y) (or_zero_r (w / 2 ^ j)) (or_shifted_r v k (w % 2 ^ k) (mod-lt w (pow_pos k)))
  where
    grow : (k n : ℕ) → k ≤ k + n
    grow k n = le-add_right k n

-- with the shift's own remainder, as the machine has it
pub store : (m k n M w v : ℕ) → M ≡ (2 ^ m - 1) * 2 ^ (k + n) + (2 ^ k - 1) → w < 2 ^ (m + (k + n)) → v < 2 ^ n → bit_or (bit_and w M) (v * 2 ^ k % 2 ^ (m + (k + n))) ≡ spec.put k n v w
store m k n M w v e h g =
    ap (bit_or (bit_and w M)) (mod-eq_of_lt (lt_of_lt_of_le (shifted_fits k n v g) (pow_mono (subst (λ (x : ℕ). k + n ≤ x) (add_comm (k + n) m) (le-add_right (k + n) m)))))
    ∙ write m k n M w v e h g

-- ---- a write, read back, and every other field
module _ (k n v w : ℕ) (g : v < 2 ^ n) where
  rest : v * 2 ^ k + w % 2 ^ k < 2 ^ (k + n)
  rest = subst (λ (e : ℕ). v * 2 ^ k + w % 2 ^ k < e) (mul_comm (2 ^ n) (2 ^ k) ∙ sym (pow-add 2 k n)) (digits_lt g (mod-lt w (pow_pos k)))

  put_is : spec.put k n v w ≡ (w / 2 ^ (k + n) * 2 ^ n + v) * 2 ^ k + w % 2 ^ k
  put_is =
      sym (add_assoc (w / 2 ^ (k + n) * 2 ^ (k + n)) (v * 2 ^ k) (w % 2 ^ k))
      ∙ ap (λ (x : ℕ). x + v * 2 ^ k + w % 2 ^ k) (ap (λ (x : ℕ). w / 2 ^ (k + n) * x) (pow-add 2 k n ∙ mul_comm (2 ^ k) (2 ^ n)) ∙ sym (mul_assoc (w / 2 ^ (k + n)) (2 ^ n) (2 ^ k)))
      ∙ ap (λ (x : ℕ). x + w % 2 ^ k) (sym (add-mul (w / 2 ^ (k + n) * 2 ^ n) v (2 ^ k)))

  pub put_same : spec.field k n (spec.put k n v w) ≡ v
  put_same = ap (λ (x : ℕ). x / 2 ^ k % 2 ^ n) put_is ∙ ap (λ (x : ℕ). x % 2 ^ n) (high (w / 2 ^ (k + n) * 2 ^ n + v) k (mod-lt w (pow_pos k))) ∙ low (w / 2 ^ (k + n)) n g

  pub put_above : (i l : ℕ) → k + n ≤ i → spec.field i l (spec.put k n v w) ≡ spec.field i l w
  put_above i l h =
      let j = k + n in
      let e : j + (i - j) ≡ i = add-sub_of_le h in
      ap (λ (x : ℕ). spec.put k n v w / 2 ^ x % 2 ^ l) (sym e)
      ∙ ap (λ (x : ℕ). x % 2 ^ l) (sym (shr-shr (spec.put k n v w) j (i - j)) ∙ ap (λ (x : ℕ). x / 2 ^ (i - j)) (high (w / 2 ^ j) j rest) ∙ shr-shr w j (i - j))
      ∙ ap (λ (x : ℕ). w / 2 ^ x % 2 ^ l) e

  pub put_below : (i l : ℕ) → l + i ≤ k → spec.field i l (spec.put k n v w) ≡ spec.field i l w
  put_below i l h =
      let d = k - (l + i) in
      let e : d + (l + i) ≡ k = add_comm d (l + i) ∙ add-sub_of_le h in
      let cut : (x : ℕ) → x % 2 ^ (l + i) ≡ x % 2 ^ k % 2 ^ (l + i) = λ x. sym (mod-mod-pow x d (l + i)) ∙ ap (λ (z : ℕ). x % 2 ^ z % 2 ^ (l + i)) e in
      sym (field (spec.put k n v w) l i)
      ∙ ap (λ (x : ℕ). x / 2 ^ i) (cut (spec.put k n v w) ∙ ap (λ (x : ℕ). x % 2 ^ (l + i)) (ap (λ (x : ℕ). x % 2 ^ k) put_is ∙ low (w / 2 ^ (k + n) * 2 ^ n + v) k (mod-lt w (pow_pos k))) ∙ sym (cut w))
      ∙ field w l i

-- ---- at place 0, and of one digit
pub read0 : (n w : ℕ) → bit_and w (2 ^ n - 1) ≡ spec.field 0 n w
read0 n w = ap (λ (x : ℕ). bit_and x (2 ^ n - 1)) (sym (div-one w)) ∙ read 0 n w

pub store0 : (m n M w v : ℕ) → M ≡ (2 ^ m - 1) * 2 ^ (0 + n) + 0 → w < 2 ^ (m + (0 + n)) → v < 2 ^ n → bit_or (bit_and w M) v ≡ spec.put 0 n v w
store0 m n M w v e h g = ap (bit_or (bit_and w M)) (sym (mul-one v)) ∙ write m 0 n M w v e h g

pub flag : (b : Bool) → bool_byte b ≡ one b
flag true = refl
flag false = refl

pub flag_lt : (b : Bool) → bool_byte b < 2 ^ 1
flag_lt true = lit< tt
flag_lt false = lit< tt

-- ---- a flag at any place of a word of 32
width : (at : ℕ) → at < 32 → 31 - at + (at + 1) ≡ 32
width at h = omega arith

ones_but : (a b p : ℕ) → 0 < b → p + 2 * b ≡ a → a - 1 - b ≡ p + (b - 1)
ones_but a b p h e = omega arith

mask : (at : ℕ) → at < 32 → 0xffff_ffff - 1 * 2 ^ at % 0x1_0000_0000 ≡ (2 ^ (31 - at) - 1) * 2 ^ (at + 1) + (2 ^ at - 1)
mask at h =
    let b = 2 ^ at in
    let up : 2 ^ (at + 1) ≡ 2 * b = pow-add 2 at 1 ∙ mul_comm (2 ^ at) 2 in
    let all : (2 ^ (31 - at) - 1) * 2 ^ (at + 1) + 2 * b ≡ 0x1_0000_0000 =
    ap (λ (x : ℕ). (2 ^ (31 - at) - 1) * 2 ^ (at + 1) + x) (sym up)
    ∙ whole (2 ^ (31 - at)) (2 ^ (at + 1)) (pow_pos (31 - at))
    ∙ sym (pow-add 2 (31 - at) (at + 1)) ∙ ap (λ (x : ℕ). 2 ^ x) (width at h) in
    ap (λ (x : ℕ). 0xffff_ffff - x) (ap (λ (x : ℕ). x % 0x1_0000_0000) (one-mul b) ∙ mod-eq_of_lt (pow-lt h))
    ∙ ones_but 0x1_0000_0000 b ((2 ^ (31 - at) - 1) * 2 ^ (at + 1)) (pow_pos at) all
  where
    whole : (a c : ℕ) → 0 < a → (a - 1) * c + c ≡ a * c
    whole a c h = ap (λ (x : ℕ). (a - 1) * c + x) (sym (one-mul c)) ∙ sym (add-mul (a - 1) 1 c) ∙ ap (λ (x : ℕ). x * c) (back a h)
      where
        back : (a : ℕ) → 0 < a → a - 1 + 1 ≡ a
        back a h = omega arith

pub store_flag : (at w : ℕ) (on : Bool) → at < 32 → w < 2 ^ 32 → bit_or (bit_and w (0xffff_ffff - 1 * 2 ^ at % 0x1_0000_0000)) (bool_byte on * 2 ^ at % 0x1_0000_0000) ≡ spec.put at 1 (one on) w
store_flag at w on h W =
    let e = width at h in
    ap (λ (x : ℕ). bit_or (bit_and w (0xffff_ffff - 1 * 2 ^ at % 0x1_0000_0000)) (bool_byte on * 2 ^ at % 2 ^ x)) (sym e)
    ∙ store (31 - at) at 1 (0xffff_ffff - 1 * 2 ^ at % 0x1_0000_0000) w (bool_byte on) (mask at h) (subst (λ (x : ℕ). w < 2 ^ x) (sym e) W) (flag_lt on)
    ∙ ap (λ (v : ℕ). spec.put at 1 v w) (flag on)

-- ---- a flag is set where its digit is 1
digit : (x : ℕ) → x < 2 → not (eqb x 0) ≡ eqb x 1
digit x h = go (ℕ_discrete x 0)
  where
    go : Dec (x ≡ 0) → not (eqb x 0) ≡ eqb x 1
    go (yes e) = rw e
    go (no n) = let e : x ≡ 1 = omega arith in rw e

pub read_flag : (k w : ℕ) → not (eqb (bit_and (w / 2 ^ k) 1) 0) ≡ eqb (spec.field k 1 w) 1
read_flag k w = ap (λ (x : ℕ). not (eqb x 0)) (read k 1 w) ∙ digit (spec.field k 1 w) (mod-lt (w / 2 ^ k) (pow_pos 1))

-- what a field of n digits holds is below 2 ^ n
pub field_lt : (k n w : ℕ) → spec.field k n w < 2 ^ n
field_lt k n w = mod-lt (w / 2 ^ k) (pow_pos n)
