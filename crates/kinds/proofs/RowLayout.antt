-- Rows in their buffer: what they hold, one more entry, and one layout after another. Assumes nothing.
use mathlib.Core.Path.{◌≡◌, refl, sym, ap, ap₂, ◌∙◌, subst}
use mathlib.Core.List.{List, [], ◌∷◌, ◌++◌}
use Prim.Native.Nat.{ℕ, zero, suc, ◌+◌, ◌-◌, ◌*◌, ◌≤◌, ◌<◌}
use native.Mathlib.Omega.{arith}
use native.Mathlib.Nat.{suc-mul}
use lib.ListN.{length, take, drop, set, get_or, length-drop, length-take, length-set, length-append, take-append-drop}
use lib.Seq.{drop-drop, take-take, length-take-le, set-append_left, drop_at, take_at, take-length}
use Rattle.laws.specs.Lists.{at, list_at, snoc, more, push, lengths, fill}
use Rattle.laws.proofs.Fills.{fill_push, fill_same, fill_fill, length_fill}
use Rattle.kinds.specs.Layout.{rows_of, fill_rows}
use Rattle.kinds.proofs.Layouts.{Sized, AllFit}

-- ---- lengths

pub lengths_rows : (m : ℕ) (ns buf : List ℕ) → Sized m ns buf → lengths (rows_of m ns buf) ≡ ns
unfolding rows_of lengths
lengths_rows m [] buf z = refl
lengths_rows m (n ∷ ns) buf (h, g, z) = ap₂ (λ (x : ℕ) (y : List ℕ). x ∷ y) (length-take-le n buf (omega arith)) (lengths_rows m ns (drop m buf) z)

pub length_lengths : (ls : List (List ℕ)) → length (lengths ls) ≡ length ls
unfolding lengths
length_lengths [] = refl
length_lengths (l ∷ ls) = ap suc (length_lengths ls)

pub at_lengths : (ls : List (List ℕ)) (k : ℕ) → at (lengths ls) k ≡ length (list_at ls k)
unfolding lengths
at_lengths [] k = refl
at_lengths (l ∷ ls) zero = refl
at_lengths (l ∷ ls) (suc k) = at_lengths ls k

pub lengths_set : (ls : List (List ℕ)) (k : ℕ) (l : List ℕ) → lengths (set ls k l) ≡ set (lengths ls) k (length l)
unfolding lengths
lengths_set [] k l = refl
lengths_set (x ∷ ls) zero l = refl
lengths_set (x ∷ ls) (suc k) l = ap (λ (y : List ℕ). length x ∷ y) (lengths_set ls k l)

pub lengths_push : (ls : List (List ℕ)) (k x : ℕ) → lengths (push k x ls) ≡ more k (lengths ls)
lengths_push ls k x =
    lengths_set ls k (snoc (list_at ls k) x)
    ∙ ap (set (lengths ls) k) (length_snoc (list_at ls k) x ∙ ap (λ (n : ℕ). n + 1) (sym (at_lengths ls k)))
  where
    length_snoc : (l : List ℕ) (x : ℕ) → length (snoc l x) ≡ length l + 1
    length_snoc [] x = omega arith
    length_snoc (y ∷ l) x = let e = length_snoc l x in omega arith

-- ---- nothing changes

pub rows_same : (m : ℕ) (ns buf : List ℕ) → Sized m ns buf → fill_rows m ns (rows_of m ns buf) buf ≡ buf
unfolding rows_of fill_rows
rows_same m [] buf z = refl
rows_same m (n ∷ ns) buf (h, g, z) =
    ap₂ (λ (x y : List ℕ). x ++ y) (first m n buf h g) (rows_same m ns (drop m buf) z) ∙ take-append-drop m buf
  where
    first : (m n : ℕ) (buf : List ℕ) → n ≤ m → m ≤ length buf → fill (take m buf) n (take n buf) ≡ take m buf
    first m n buf h g =
        let t : length (take m buf) ≡ m = length-take-le m buf g in
        ap (fill (take m buf) n) (sym (take-take n m buf h)) ∙ fill_same (take m buf) n (omega arith)

-- ---- one entry more

pub rows_push : (m : ℕ) (ns buf : List ℕ) (c x : ℕ) → Sized m ns buf → c < length ns → at ns c < m → set buf (c * m + at ns c) x ≡ fill_rows m ns (push c x (rows_of m ns buf)) buf
unfolding rows_of fill_rows
rows_push m [] buf c x z h g = absurd (omega arith)
rows_push m (n ∷ ns) buf zero x (a, b, z) h g =
    let t : length (take m buf) ≡ m = length-take-le m buf b in
    let e : 0 * m + n ≡ n = omega arith in
    let here : fill (take m buf) n (snoc (take n buf) x) ≡ set (take m buf) n x =
    ap (λ (l : List ℕ). fill (take m buf) n (snoc l x)) (sym (take-take n m buf a)) ∙ fill_push (take m buf) n x (omega arith) in
    let whole : set buf n x ≡ set (take m buf) n x ++ drop m buf =
    ap (λ (l : List ℕ). set l n x) (sym (take-append-drop m buf)) ∙ set-append_left (take m buf) (drop m buf) n x (omega arith) in
    ap (λ (k : ℕ). set buf k x) e ∙ whole ∙ ap₂ (λ (p q : List ℕ). p ++ q) (sym here) (sym (rows_same m ns (drop m buf) z))
rows_push m (n ∷ ns) buf (suc c) x (a, b, z) h g =
    let t : length (take m buf) ≡ m = length-take-le m buf b in
    let s = suc-mul c m in
    let e : suc c * m + at ns c ≡ length (take m buf) + (c * m + at ns c) = omega arith in
    let first : fill (take m buf) n (take n buf) ≡ take m buf =
    ap (fill (take m buf) n) (sym (take-take n m buf a)) ∙ fill_same (take m buf) n (omega arith) in
    let rest : set (drop m buf) (c * m + at ns c) x ≡ fill_rows m ns (push c x (rows_of m ns (drop m buf))) (drop m buf) = rows_push m ns (drop m buf) c x z (omega arith) g in
    ap (λ (k : ℕ). set buf k x) e
    ∙ ap (λ (l : List ℕ). set l (length (take m buf) + (c * m + at ns c)) x) (sym (take-append-drop m buf))
    ∙ set_right (take m buf) (drop m buf) (c * m + at ns c) x
    ∙ ap₂ (λ (p q : List ℕ). p ++ q) (sym first) rest
  where
    set_right : (p q : List ℕ) (k x : ℕ) → set (p ++ q) (length p + k) x ≡ p ++ set q k x
    set_right [] q k x = let e : 0 + k ≡ k = omega arith in ap (λ (j : ℕ). set q j x) e
    set_right (y ∷ p) q k x =
        let e : suc (length p) + k ≡ suc (length p + k) = omega arith in
        ap (λ (j : ℕ). set (y ∷ (p ++ q)) j x) e ∙ ap (λ (l : List ℕ). y ∷ l) (set_right p q k x)

-- ---- one layout after another, where each row only grows

abbrev pub Growing : List (List ℕ) → List (List ℕ) → Type 0
Growing [] ys = Unit {0}
Growing (x ∷ xs) [] = ⊥
Growing (x ∷ xs) (y ∷ ys) = (length x ≤ length y) × Growing xs ys

pub rows_again : (m : ℕ) (ns : List ℕ) (xs ys : List (List ℕ)) (buf : List ℕ) → Sized m ns buf → AllFit m ys → length xs ≡ length ns → length ys ≡ length ns → Growing xs ys
    → fill_rows m (lengths xs) ys (fill_rows m ns xs buf) ≡ fill_rows m ns ys buf
unfolding fill_rows lengths
rows_again m [] [] ys buf z f p q g = refl
rows_again m [] (x ∷ xs) ys buf z f p q g = absurd (omega arith)
rows_again m (n ∷ ns) [] ys buf z f p q g = absurd (omega arith)
rows_again m (n ∷ ns) (x ∷ xs) [] buf z f p q g = absurd (omega arith)
rows_again m (n ∷ ns) (x ∷ xs) (y ∷ ys) buf (h, k, z) (fb, f) p q (g, gs) =
    let t : length (take m buf) ≡ m = length-take-le m buf k in
    let l : length (fill (take m buf) n x) ≡ m = length_fill (take m buf) n x (omega arith) (omega arith) ∙ t in
    ap₂ (λ (u v : List ℕ). fill u (length x) y ++ fill_rows m (lengths xs) ys v) (take_at (fill (take m buf) n x) (fill_rows m ns xs (drop m buf)) m l) (drop_at (fill (take m buf) n x) (fill_rows m ns xs (drop m buf)) m l)
    ∙ ap₂ (λ (u v : List ℕ). u ++ v) (fill_fill (take m buf) n x y (omega arith) g (omega arith)) (rows_again m ns xs ys (drop m buf) z f (omega arith) (omega arith) gs)

growing_same : (ls : List (List ℕ)) → Growing ls ls
growing_same [] = tt
growing_same (l ∷ ls) = (omega arith, growing_same ls)

pub growing_push : (ls : List (List ℕ)) (k x : ℕ) → Growing ls (push k x ls)
growing_push [] k x = tt
growing_push (l ∷ ls) zero x = (simp length-append (omega arith), growing_same ls)
growing_push (l ∷ ls) (suc k) x = (omega arith, growing_push ls k x)

-- row c of what the buffer holds
pub row_at : (m : ℕ) (counts buf : List ℕ) (c : ℕ) → c < length counts → list_at (rows_of m counts buf) c ≡ take (at counts c) (drop (c * m) buf)
unfolding rows_of
row_at m [] buf c h = absurd (omega arith)
row_at m (n ∷ ns) buf zero h = let e : 0 * m ≡ 0 = omega arith in ap (λ (k : ℕ). take n (drop k buf)) (sym e)
row_at m (n ∷ ns) buf (suc c) h =
    let s = suc-mul c m in
    let e : m + c * m ≡ suc c * m = omega arith in
    row_at m ns (drop m buf) c (omega arith) ∙ ap (take (at ns c)) (drop-drop (c * m) m buf ∙ ap (λ (k : ℕ). drop k buf) e)

pub length_rows : (m : ℕ) (ns buf : List ℕ) → length (rows_of m ns buf) ≡ length ns
unfolding rows_of
length_rows m [] buf = refl
length_rows m (n ∷ ns) buf = ap suc (length_rows m ns (drop m buf))
