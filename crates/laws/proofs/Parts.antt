-- Parts of a list, as loops over a slice read them and the library's writes leave them. Assumes nothing.
use mathlib.Core.Path.{◌≡◌, refl, sym, ap, ◌∙◌}
use mathlib.Core.List.{List, ◌++◌}
use Prim.Native.Nat.{ℕ, ◌+◌, ◌-◌, ◌≤◌, ◌<◌}
use native.Mathlib.Nat.{add-zero}
use native.Mathlib.Omega.{arith}
use lib.ListN.{length, take, drop, replicate, length-take, length-drop, length-replicate}
use lib.Seq.{sets, sets-eq, take-length, get_or-take, get_or-drop}
use borrow.Rule.Slice.PartMut.{put_mid}
use Rattle.std.proofs.lemmas.Slice.{put_mid-paste}
use Rattle.std.specs.List.{copy_within}
use Rattle.laws.specs.Lists.{read_n, at}
use Rattle.laws.proofs.Reading.{read_take, length_read, at_read}

-- the n numbers from i on now are vs
pub sets_part : (l now vs : List ℕ) (i n : ℕ) → now ≡ vs → length vs ≡ n → i + n ≤ length l → put_mid i n l now ≡ sets l i vs
sets_part l now vs i n e k h = put_mid-paste i n l now vs n e refl (sym k) ∙ rw (← k, take-length, sets-eq vs l i (omega arith))

-- `fill`
pub filled_part : (l now : List ℕ) (i e x : ℕ) → i ≤ e → e ≤ length l → now ≡ replicate (length (take (e - i) (drop i l))) x → put_mid i (e - i) l now ≡ sets l i (replicate (e - i) x)
filled_part l now i e x a b f = sets_part l now (replicate (e - i) x) i (e - i) (f ∙ ap (λ (n : ℕ). replicate n x) (simp (length-take, length-drop) (omega arith))) (length-replicate (e - i) x) (omega arith)

-- `copy_from_slice`
pub copied_part : (l now from : List ℕ) (i s n : ℕ) → i + n ≤ length l → s + n ≤ length from → now ≡ take (s + n - s) (drop s from) → put_mid i (i + n - i) l now ≡ sets l i (read_n from s n)
copied_part l now from i s n a b f =
    let e : s + n - s ≡ n = omega arith in
    sets_part l now (read_n from s n) i (i + n - i) (f ∙ rw e (sym (read_take from s n b))) (length_read from s n ∙ omega arith) (omega arith)

-- `copy_within`, downwards
pub moved_part : (l : List ℕ) (from to n : ℕ) → to ≤ from → from + n ≤ length l → copy_within l from (from + n) to ≡ sets l to (read_n l from n)
moved_part l from to n a b =
    let e : from + n - from ≡ n = omega arith in
    let k = length_read l from n in
    rw (e, ← read_take l from n b, sets-eq (read_n l from n) l to (omega arith), k)

-- ---- what is read of a part

-- an element of `&list[..n]`
pub in_front : (n : ℕ) (l : List ℕ) (i : ℕ) → i < length (take n l) → (i < n) × (at (take n l) i ≡ at l i)
in_front n l i h = let g : i < n = omega (arith, length-take n l) in (g, get_or-take n l i 0 g)

-- `&list[o..o + n]`
pub part_is : (l : List ℕ) (o n : ℕ) → o + n ≤ length l → take (o + n - o) (drop o l) ≡ read_n l o n
part_is l o n h = let z : o + n - o ≡ n = omega arith in rw z (sym (read_take l o n h))

-- what holds of each number of a part holds of each number that is read
pub read_each : (P : ℕ → Type 0) (l : List ℕ) (o n : ℕ) → ((p : ℕ) → p < n → P (at l (o + p))) → {read : List ℕ} → read ≡ read_n l o n → (p : ℕ) → p < length read → P (at read p)
read_each P l o n f e p h = let g : p < n = omega (arith, ap length e, length_read l o n) in rw (e, at_read l o n p g) (f p g)

-- lists that agree from i on agree at i
pub same_next : (l m : List ℕ) (i : ℕ) → drop i l ≡ drop i m → at l i ≡ at m i
same_next l m i e = simp add-zero at (sym (get_or-drop i l 0 0) ∙ ap (λ (r : List ℕ). at r 0) e ∙ get_or-drop i m 0 0)
