-- A buffer that holds something else: `fill` as the writes that a call makes. Assumes nothing.
use mathlib.Core.Path.{◌≡◌, refl, sym, ap, ap₂, ◌∙◌, subst}
use mathlib.Core.List.{List, [], ◌∷◌, ◌++◌, append_assoc}
use Prim.Native.Nat.{ℕ, zero, suc, ◌+◌, ◌-◌, ◌≤◌, ◌<◌, max}
use native.Mathlib.Omega.{arith}
use native.Mathlib.Decide.{dec_lt}
use lib.ListN.{length, take, drop, set, replicate, length-append, length-take, length-drop, length-replicate, length-set, take-append-drop, get_or-append, get_or-replicate}
use lib.Seq.{sets, sets-eq, length-sets, length-take-le, drop-append-add, drop-append-le, drop-drop, take-append_seam, get_or-append-add, get_or-drop, ext_get_or}
use Rattle.laws.specs.Lists.{at, snoc, fill}

zero_more : (n : ℕ) → n - n ≡ 0
zero_more n = omega arith

max_right : (n m : ℕ) → n ≤ m → max n m ≡ m
max_right n m h = omega arith

max_left : (n m : ℕ) → m ≤ n → max n m ≡ n
max_left n m h = omega arith

in_front : (buf xs : List ℕ) → length xs ≤ length buf → sets buf 0 xs ≡ xs ++ drop (length xs) buf
in_front buf xs h = let e : 0 + length xs ≡ length xs = omega arith in sets-eq xs buf 0 (omega arith) ∙ ap (λ (k : ℕ). xs ++ drop k buf) e

-- ---- more than before: nothing is given up
pub fill_more : (buf : List ℕ) (n : ℕ) (xs : List ℕ) → n ≤ length xs → fill buf n xs ≡ xs ++ drop (length xs) buf
unfolding fill
fill_more buf n xs h =
    let z : n - length xs ≡ 0 = omega arith in
    rw (z, max_right n (length xs) h)

-- the used part stays, and xs stands behind it: what a push, a line of the record or a new clause writes
pub fill_append : (buf : List ℕ) (n : ℕ) (xs : List ℕ) → n + length xs ≤ length buf → fill buf n (take n buf ++ xs) ≡ sets buf n xs
fill_append buf n xs h =
    let t : length (take n buf) ≡ n = length-take-le n buf (omega arith) in
    let l : length (take n buf ++ xs) ≡ n + length xs = length-append (take n buf) xs ∙ ap (λ (k : ℕ). k + length xs) t in
    fill_more buf n (take n buf ++ xs) (omega arith)
    ∙ ap (λ (k : ℕ). (take n buf ++ xs) ++ drop k buf) l
    ∙ sym (sets-eq xs buf n h)

pub fill_push : (buf : List ℕ) (n x : ℕ) → n < length buf → fill buf n (snoc (take n buf) x) ≡ set buf n x
fill_push buf n x h = fill_append buf n (x ∷ []) (omega arith)

-- ---- nothing changes
pub fill_same : (buf : List ℕ) (n : ℕ) → n ≤ length buf → fill buf n (take n buf) ≡ buf
fill_same buf n h =
    let t : length (take n buf) ≡ n = length-take-le n buf h in
    fill_more buf n (take n buf) (omega arith) ∙ ap (λ (k : ℕ). take n buf ++ drop k buf) t ∙ take-append-drop n buf

-- ---- fewer than before: xs in front, and 0 in what is given up
pub fill_fewer : (buf : List ℕ) (n : ℕ) (xs : List ℕ) → length xs ≤ n → n ≤ length buf → fill buf n xs ≡ sets (sets buf 0 xs) (length xs) (replicate (n - length xs) 0)
unfolding fill
fill_fewer buf n xs h g =
    let zs : List ℕ = replicate (n - length xs) 0 in
    let z : length zs ≡ n - length xs = length-replicate (n - length xs) 0 in
    let front : sets buf 0 xs ≡ xs ++ drop (length xs) buf = in_front buf xs (omega arith) in
    let a : take (length xs) (xs ++ drop (length xs) buf) ≡ xs = take-append_seam xs (drop (length xs) buf) in
    let d : drop (length xs + length zs) (xs ++ drop (length xs) buf) ≡ drop n buf =
    drop-append-add xs (drop (length xs) buf) (length zs) ∙ drop-drop (length zs) (length xs) buf ∙ ap (λ (k : ℕ). drop k buf) (same (length xs) (length zs) n z h) in
    rw (max_left n (length xs) h)
    (sym (append_assoc xs zs (drop n buf)) ∙ sym (sets-eq zs (sets buf 0 xs) (length xs) (simp (length-sets, z) (omega arith))
    ∙ ap (λ (l : List ℕ). take (length xs) l ++ zs ++ drop (length xs + length zs) l) front
    ∙ ap₂ (λ (x y : List ℕ). x ++ zs ++ y) a d))
  where
    same : (x z n : ℕ) → z ≡ n - x → x ≤ n → x + z ≡ n
    same x z n e h = omega arith

-- the used part is cut
pub fill_cut : (buf : List ℕ) (n m : ℕ) → m ≤ n → n ≤ length buf → fill buf n (take m buf) ≡ sets buf m (replicate (n - m) 0)
fill_cut buf n m h g =
    let t : length (take m buf) ≡ m = length-take-le m buf (omega arith) in
    fill_fewer buf n (take m buf) (omega arith) g
    ∙ ap (λ (l : List ℕ). sets l (length (take m buf)) (replicate (n - length (take m buf)) 0)) (in_front buf (take m buf) (omega arith) ∙ ap (λ (k : ℕ). take m buf ++ drop k buf) t ∙ take-append-drop m buf)
    ∙ ap (λ (k : ℕ). sets buf k (replicate (n - k) 0)) t

-- ---- number k of a filled buffer

pub at_fill_in : (buf : List ℕ) (n : ℕ) (xs : List ℕ) (k : ℕ) → k < length xs → at (fill buf n xs) k ≡ at xs k
unfolding fill
at_fill_in buf n xs k h = get_or-append xs _ 0 k h

at_behind : (xs ys : List ℕ) (k : ℕ) → length xs ≤ k → at (xs ++ ys) k ≡ at ys (k - length xs)
at_behind xs ys k h = let e : k ≡ length xs + (k - length xs) = omega arith in ap (at (xs ++ ys)) e ∙ get_or-append-add xs ys (k - length xs) 0

pub at_fill_gap : (buf : List ℕ) (n : ℕ) (xs : List ℕ) (k : ℕ) → length xs ≤ k → k < n → at (fill buf n xs) k ≡ 0
unfolding fill
at_fill_gap buf n xs k h g =
    let zs : List ℕ = replicate (n - length xs) 0 in
    let z : length zs ≡ n - length xs = length-replicate (n - length xs) 0 in
    at_behind xs _ k h ∙ get_or-append zs _ 0 (k - length xs) (omega arith) ∙ get_or-replicate (n - length xs) (k - length xs) 0 0 (omega arith)

pub at_fill_behind : (buf : List ℕ) (n : ℕ) (xs : List ℕ) (k : ℕ) → length xs ≤ k → n ≤ k → at (fill buf n xs) k ≡ at buf k
unfolding fill
at_fill_behind buf n xs k h g =
    let zs : List ℕ = replicate (n - length xs) 0 in
    let z : length zs ≡ n - length xs = length-replicate (n - length xs) 0 in
    let m : max n (length xs) + (k - length xs - length zs) ≡ k = omega arith in
    at_behind xs _ k h ∙ at_behind zs (drop (max n (length xs)) buf) (k - length xs) (omega arith) ∙ get_or-drop (max n (length xs)) buf (k - length xs - length zs) 0 ∙ ap (at buf) m

pub length_fill : (buf : List ℕ) (n : ℕ) (xs : List ℕ) → n ≤ length buf → length xs ≤ length buf → length (fill buf n xs) ≡ length buf
unfolding fill
length_fill buf n xs h k = simp (length-append, length-replicate, length-drop) (omega arith)

-- ---- one fill after another that only adds
pub fill_fill : (buf : List ℕ) (n : ℕ) (xs ys : List ℕ) → n ≤ length buf → length xs ≤ length ys → length ys ≤ length buf → fill (fill buf n xs) (length xs) ys ≡ fill buf n ys
fill_fill buf n xs ys b h g =
    let a : length (fill buf n xs) ≡ length buf = length_fill buf n xs b (omega arith) in
    let c : length (fill (fill buf n xs) (length xs) ys) ≡ length buf = length_fill (fill buf n xs) (length xs) ys (omega arith) (omega arith) ∙ a in
    ext_get_or 0 _ _ (c ∙ sym (length_fill buf n ys b g)) (λ k q. each k (dec_lt k (length ys)) (dec_lt k n))
  where
    each : (k : ℕ) → Dec (k < length ys) → Dec (k < n) → at (fill (fill buf n xs) (length xs) ys) k ≡ at (fill buf n ys) k
    each k (yes p) d = at_fill_in (fill buf n xs) (length xs) ys k p ∙ sym (at_fill_in buf n ys k p)
    each k (no p) (yes q) = at_fill_behind (fill buf n xs) (length xs) ys k (omega arith) (omega arith) ∙ at_fill_gap buf n xs k (omega arith) q ∙ sym (at_fill_gap buf n ys k (omega arith) q)
    each k (no p) (no q) = at_fill_behind (fill buf n xs) (length xs) ys k (omega arith) (omega arith) ∙ at_fill_behind buf n xs k (omega arith) (omega arith) ∙ sym (at_fill_behind buf n ys k (omega arith) (omega arith))
