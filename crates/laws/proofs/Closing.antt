-- Numbers written behind what a filled buffer holds, and lists that close up in place. Assumes nothing.
use mathlib.Core.Path.{◌≡◌, refl, sym, ap, ap₂, ◌∙◌}
use mathlib.Core.List.{List, [], ◌∷◌, ◌++◌, append_assoc}
use Prim.Native.Nat.{ℕ, zero, suc, ◌+◌, ◌-◌, ◌≤◌, ◌<◌, max}
use native.Mathlib.Omega.{arith}
use native.Mathlib.Nat.{add-zero}
use lib.ListN.{length, set, take, drop, replicate, length-append, length-replicate}
use lib.Seq.{sets, sets-eq, take-append_seam}
use Rattle.laws.specs.Lists.{fill}
use Rattle.laws.proofs.Fills.{fill_append, fill_fill, length_fill}

-- one write behind another
pub sets_append : (l : List ℕ) (i : ℕ) (xs ys : List ℕ) → sets (sets l i xs) (i + length xs) ys ≡ sets l i (xs ++ ys)
sets_append l i [] ys = rw add-zero
sets_append l i (x ∷ xs) ys = let e : i + suc (length xs) ≡ suc i + length xs = omega arith in rw e (sets_append (set l i x) (suc i) xs ys)

take_fill : (buf : List ℕ) (n : ℕ) (xs : List ℕ) → take (length xs) (fill buf n xs) ≡ xs
unfolding fill
take_fill buf n xs = take-append_seam xs _

pub fill_sets : (buf : List ℕ) (n : ℕ) (xs ys : List ℕ) → n ≤ length buf → length xs + length ys ≤ length buf → sets (fill buf n xs) (length xs) ys ≡ fill buf n (xs ++ ys)
fill_sets buf n xs ys b h =
    let l = length_fill buf n xs b (omega arith) in
    let e = length-append xs ys in
    sym (fill_append (fill buf n xs) (length xs) ys (omega arith))
    ∙ ap (λ (z : List ℕ). fill (fill buf n xs) (length xs) (z ++ ys)) (take_fill buf n xs)
    ∙ fill_fill buf n xs (xs ++ ys) b (omega arith) (omega arith)

-- what stays stands in front, the numbers from n on are as they came, and those between become 0
pub closed : (l₀ l cl : List ℕ) (n to : ℕ) → to ≤ n → n ≤ length l → to ≡ length cl → take to l ≡ cl → drop n l ≡ drop n l₀ → sets l to (replicate (n - to) 0) ≡ fill l₀ n cl
unfolding fill
closed l₀ l cl n to h k e t d =
    let zs : List ℕ = replicate (n - to) 0 in
    let q : length zs ≡ n - to = length-replicate (n - to) 0 in
    let m : max n (length cl) ≡ n = omega arith in
    let r : to + length zs ≡ n = omega arith in
    sets-eq zs l to (omega arith) ∙ rw (r, t, d, m, e) (append_assoc cl (replicate (n - length cl) 0) (drop n l₀))
