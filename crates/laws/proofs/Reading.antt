-- Numbers read one after the other, and writes beside them. Assumes nothing.
use mathlib.Core.Path.{◌≡◌, refl, sym, ap, ap₂, ◌∙◌}
use mathlib.Core.List.{List, [], ◌∷◌, ◌++◌}
use Prim.Native.Nat.{ℕ, zero, suc, ◌+◌, ◌-◌, ◌≤◌, ◌<◌}
use native.Mathlib.Omega.{arith}
use native.Mathlib.Numerals.{add-one, add-two}
use lib.ListN.{length, get_or, set, take, drop, replicate, length-take, length-drop}
use lib.Seq.{sets, get_or-set_same, get_or-set_other, drop-cons, take-length}
use Rattle.laws.specs.Lists.{at, read_n}

pub length_read : (ws : List ℕ) (o n : ℕ) → length (read_n ws o n) ≡ n
unfolding read_n
length_read ws o zero = refl
length_read ws o (suc n) = ap suc (length_read ws (suc o) n)

-- the first of what is left to read
pub read_next : (ws : List ℕ) (o end : ℕ) → o < end → read_n ws o (end - o) ≡ at ws o ∷ read_n ws (o + 1) (end - (o + 1))
unfolding read_n
read_next ws o end h = let e : end - o ≡ suc (end - (o + 1)) = omega arith in rw (e, add-one)

-- buffers that agree in a range read the same there
pub read_same : (a b : List ℕ) (o p n : ℕ) → ((j : ℕ) → j < n → at a (o + j) ≡ at b (p + j)) → read_n a o n ≡ read_n b p n
unfolding read_n
read_same a b o p zero h = refl
read_same a b o p (suc n) h =
    let here : at a o ≡ at b p = rw (add_zero o, add_zero p) at (h 0 (omega arith)) in
    let rest : read_n a (suc o) n ≡ read_n b (suc p) n = read_same a b (suc o) (suc p) n (λ j g. step j (h (suc j) (omega arith))) in
    ap₂ (λ (x : ℕ) (y : List ℕ). x ∷ y) here rest
  where
    add_zero : (x : ℕ) → x + 0 ≡ x
    add_zero x = omega arith

    step : (j : ℕ) → at a (o + suc j) ≡ at b (p + suc j) → at a (suc o + j) ≡ at b (suc p + j)
    step j e =
        let x : o + suc j ≡ suc o + j = omega arith in
        let y : p + suc j ≡ suc p + j = omega arith in
        rw (x, y) at e

-- what is read is what a list's middle holds
pub read_take : (ws : List ℕ) (o n : ℕ) → o + n ≤ length ws → read_n ws o n ≡ take n (drop o ws)
unfolding read_n
read_take ws o zero h = refl
read_take ws o (suc n) h = rw (drop-cons ws o 0 (omega arith)) (ap (λ (l : List ℕ). at ws o ∷ l) (read_take ws (suc o) n (omega arith)))

-- a number of what is read
pub at_read : (ws : List ℕ) (o n k : ℕ) → k < n → at (read_n ws o n) k ≡ at ws (o + k)
unfolding read_n
at_read ws o zero k h = absurd (omega arith)
at_read ws o (suc n) zero h = let e : o + 0 ≡ o = omega arith in rw e
at_read ws o (suc n) (suc k) h = let e : o + suc k ≡ suc o + k = omega arith in rw e (at_read ws (suc o) n k (omega arith))

-- a write outside what is read
pub read_set : (ws : List ℕ) (i x o n : ℕ) → ((j : ℕ) → j < n → o + j ≡ i → ⊥) → read_n (set ws i x) o n ≡ read_n ws o n
read_set ws i x o n h = read_same (set ws i x) ws o o n (λ j g. get_or-set_other ws i (o + j) x 0 (h j g))

-- several writes: below, at and above their place
pub at_sets_below : (vs ws : List ℕ) (i k : ℕ) → k < i → at (sets ws i vs) k ≡ at ws k
at_sets_below [] ws i k h = refl
at_sets_below (v ∷ vs) ws i k h = at_sets_below vs (set ws i v) (suc i) k (omega arith) ∙ get_or-set_other ws i k v 0 (λ e. omega arith)

pub at_sets_above : (vs ws : List ℕ) (i k : ℕ) → i + length vs ≤ k → at (sets ws i vs) k ≡ at ws k
at_sets_above [] ws i k h = refl
at_sets_above (v ∷ vs) ws i k h = at_sets_above vs (set ws i v) (suc i) k (omega arith) ∙ get_or-set_other ws i k v 0 (λ e. omega arith)

pub at_sets : (vs ws : List ℕ) (i k : ℕ) → k < length vs → i + length vs ≤ length ws → at (sets ws i vs) (i + k) ≡ at vs k
at_sets [] ws i k h g = absurd (omega arith)
at_sets (v ∷ vs) ws i zero h g =
    let e : i + 0 ≡ i = omega arith in
    rw e (at_sets_below vs (set ws i v) (suc i) i (omega arith) ∙ get_or-set_same ws i v 0 (omega arith))
at_sets (v ∷ vs) ws i (suc k) h g =
    let e : i + suc k ≡ suc i + k = omega arith in
    rw e (at_sets vs (set ws i v) (suc i) k (omega arith) (simp lib.ListN.length-set (omega arith)))

-- one more behind what is read, and behind what is written
read_more : (ws : List ℕ) (o n : ℕ) → read_n ws o (suc n) ≡ read_n ws o n ++ (at ws (o + n) ∷ [])
unfolding read_n
read_more ws o zero = let e : o + 0 ≡ o = omega arith in rw e
read_more ws o (suc n) = let e : o + suc n ≡ suc o + n = omega arith in rw e (ap (λ (l : List ℕ). at ws o ∷ l) (read_more ws (suc o) n))

pub read_snoc : (ws : List ℕ) (o n : ℕ) → read_n ws o (n + 1) ≡ read_n ws o n ++ (at ws (o + n) ∷ [])
read_snoc ws o n = rw add-one (read_more ws o n)

pub sets_snoc : (vs ws : List ℕ) (i x : ℕ) → sets ws i (vs ++ (x ∷ [])) ≡ set (sets ws i vs) (i + length vs) x
sets_snoc [] ws i x = let e : i + 0 ≡ i = omega arith in rw e
sets_snoc (v ∷ vs) ws i x = let e : i + suc (length vs) ≡ suc i + length vs = omega arith in rw e (sets_snoc vs (set ws i v) (suc i) x)

-- a whole list, read from its start
pub read_whole : (l : List ℕ) → read_n l 0 (length l) ≡ l
read_whole l = read_take l 0 (length l) (omega arith) ∙ take-length l

-- numbers written one by one before a copy
pub sets_two : (l m : List ℕ) (i x y : ℕ) (vs : List ℕ) → m ≡ sets (set (set l i x) (i + 1) y) (i + 2) vs → m ≡ sets l i (x ∷ y ∷ vs)
sets_two l m i x y vs e = rw (add-one, add-two) at e

pub sets_three : (l m : List ℕ) (i x y z : ℕ) (vs : List ℕ) → m ≡ sets (set (set (set l i x) (i + 1) y) (i + 2) z) (i + 3) vs → m ≡ sets l i (x ∷ y ∷ z ∷ vs)
sets_three l m i x y z vs e =
    let a : i + 1 ≡ suc i = omega arith in
    let b : i + 2 ≡ suc (suc i) = omega arith in
    let c : i + 3 ≡ suc (suc (suc i)) = omega arith in
    rw (a, b, c) at e
