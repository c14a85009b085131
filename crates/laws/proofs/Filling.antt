-- A buffer that holds a list: `fill`. Assumes nothing.
use mathlib.Core.Path.{◌≡◌, refl, sym, ap, ap₂, ◌∙◌}
use mathlib.Core.List.{List, [], ◌∷◌, ◌++◌, append_assoc}
use Prim.Native.Nat.{ℕ, suc, ◌+◌, ◌-◌, ◌≤◌, ◌<◌, max}
use native.Mathlib.Omega.{arith}
use lib.ListN.{length, take, drop, replicate, length-replicate, take-append-drop}
use lib.Seq.{sets, sets-eq, length-take-le, take_at, drop_at}
use Rattle.laws.specs.Lists.{at, list_at, lengths, take_each, fill, fill_each}

-- the list as it was
pub fill_same : (buf : List ℕ) (n : ℕ) → n ≤ length buf → fill buf n (take n buf) ≡ buf
unfolding fill
fill_same buf n h =
    let e = length-take-le n buf h in
    let z : n - n ≡ 0 = omega arith in
    let m : max n n ≡ n = omega arith in
    rw (e, z, m) (take-append-drop n buf)

-- what is given up was cleared: l has the new list in front, and the old buffer's rest from n on
pub fill_cleared : (buf l : List ℕ) (n r : ℕ) → r ≤ n → n ≤ length l → drop n l ≡ drop n buf → sets l r (replicate (n - r) 0) ≡ fill buf n (take r l)
unfolding fill
fill_cleared buf l n r h k e =
    let zs : List ℕ = replicate (n - r) 0 in
    let z : length zs ≡ n - r = length-replicate {A = ℕ} (n - r) 0 in
    let t = length-take-le r l (omega arith) in
    let end : r + length zs ≡ n = omega arith in
    let m : max n (length (take r l)) ≡ n = omega arith in
    sets-eq zs l r (omega arith)
    ∙ append_assoc (take r l) zs (drop (r + length zs) l)
    ∙ ap (λ (j : ℕ). take r l ++ (zs ++ drop j l)) end
    ∙ ap (λ (x : List ℕ). take r l ++ (zs ++ x)) e
    ∙ ap₂ (λ (j i : ℕ). take r l ++ (replicate (n - j) 0 ++ drop i buf)) (sym t) (sym m)

-- what it holds
pub take_fill : (buf : List ℕ) (n : ℕ) (xs : List ℕ) → take (length xs) (fill buf n xs) ≡ xs
unfolding fill
take_fill buf n xs = take_at xs _ (length xs) refl

-- the same list once more
pub fill_again : (buf : List ℕ) (n : ℕ) (xs : List ℕ) → fill (fill buf n xs) (length xs) xs ≡ fill buf n xs
unfolding fill
fill_again buf n xs =
    let z : length xs - length xs ≡ 0 = omega arith in
    let m : max (length xs) (length xs) ≡ length xs = omega arith in
    rw (z, m) (ap (λ (r : List ℕ). xs ++ r) (drop_at xs _ (length xs) refl))

-- ---- several lists: as many used lengths as buffers, each within its buffer

pub record Within (ns : List ℕ) (bs : List (List ℕ)) : Type 0 where
  pub many : length ns ≡ length bs
  pub each : (t : ℕ) → t < length ns → at ns t ≤ length (list_at bs t)

rest : {n : ℕ} {ns b : List ℕ} {bs : List (List ℕ)} → Within (n ∷ ns) (b ∷ bs) → Within ns bs
rest w = let e = w.many in record { many = omega arith; each = λ t h. w.each (suc t) (omega arith) }

pub fill_each_same : (bs : List (List ℕ)) (ns : List ℕ) → Within ns bs → fill_each bs ns (take_each ns bs) ≡ bs
unfolding fill_each take_each
fill_each_same [] ns w = refl
fill_each_same (b ∷ bs) [] w = refl
fill_each_same (b ∷ bs) (n ∷ ns) w = ap₂ (λ (x : List ℕ) (y : List (List ℕ)). x ∷ y) (fill_same b n (w.each 0 (omega arith))) (fill_each_same bs ns (rest w))

pub lengths_taken : (bs : List (List ℕ)) (ns : List ℕ) → Within ns bs → lengths (take_each ns bs) ≡ ns
unfolding lengths take_each
lengths_taken bs [] w = refl
lengths_taken [] (n ∷ ns) w = let e = w.many in absurd (omega arith)
lengths_taken (b ∷ bs) (n ∷ ns) w = ap₂ (λ (x : ℕ) (y : List ℕ). x ∷ y) (length-take-le n b (w.each 0 (omega arith))) (lengths_taken bs ns (rest w))
