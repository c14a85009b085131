-- Lists that agree from a place on; what stands before and behind a part that was written. Assumes nothing.
use mathlib.Core.Path.{◌≡◌, sym, ap, ◌∙◌}
use mathlib.Core.List.{List, ◌∷◌, ◌++◌, append_assoc}
use Prim.Native.Nat.{ℕ, ◌+◌, ◌-◌, ◌≤◌, ◌<◌, max}
use native.Mathlib.Numerals.{add-one}
use native.Mathlib.Omega.{arith}
use lib.ListN.{length, take, drop, replicate, length-append, length-replicate}
use lib.Seq.{drop-drop, get_or-drop, get_or-take, drop-cons, take_at, drop_at, length-take-le, sets, sets-eq}
use Rattle.laws.specs.Lists.{at, fill}

-- lists that agree from p on agree from any later place on
pub drop_more : (p q : ℕ) (a b : List ℕ) → p ≤ q → drop p a ≡ drop p b → drop q a ≡ drop q b
drop_more p q a b h e = let s : q ≡ p + (q - p) = omega arith in rw s (sym (drop-drop (q - p) p a) ∙ ap (drop (q - p)) e ∙ drop-drop (q - p) p b)

-- and at any later place
pub at_more : (p j : ℕ) (a b : List ℕ) → p ≤ j → drop p a ≡ drop p b → at a j ≡ at b j
at_more p j a b h e = let s : j ≡ p + (j - p) = omega arith in rw s (sym (get_or-drop p a (j - p) 0) ∙ ap (λ (l : List ℕ). at l (j - p)) e ∙ get_or-drop p b (j - p) 0)

-- entry i of the first n, and those behind it
pub drop_next : (cs : List ℕ) (n i : ℕ) → n ≤ length cs → i < n → drop i (take n cs) ≡ at cs i ∷ drop (i + 1) (take n cs)
drop_next cs n i h k =
    drop-cons (take n cs) i 0 (omega (arith, length-take-le n cs h))
    ∙ (λ j. get_or-take n cs i 0 k j ∷ drop (sym (add-one i) j) (take n cs))

module _ (ws vs : List ℕ) (i : ℕ) (h : i + length vs ≤ length ws) where
  written : sets ws i vs ≡ (take i ws ++ vs) ++ drop (i + length vs) ws
  written = sets-eq vs ws i h ∙ simp append_assoc

  front : length (take i ws ++ vs) ≡ i + length vs
  front = length-append (take i ws) vs ∙ ap (λ (n : ℕ). n + length vs) (length-take-le i ws (omega arith))

  pub take_sets : take (i + length vs) (sets ws i vs) ≡ take i ws ++ vs
  take_sets = ap (take (i + length vs)) written ∙ take_at (take i ws ++ vs) (drop (i + length vs) ws) (i + length vs) front

  pub drop_sets : drop (i + length vs) (sets ws i vs) ≡ drop (i + length vs) ws
  drop_sets = ap (drop (i + length vs)) written ∙ drop_at (take i ws ++ vs) (drop (i + length vs) ws) (i + length vs) front

-- a buffer whose first numbers are xs, and 0 written behind them up to n
pub filled : (buf ws : List ℕ) (n to : ℕ) (xs : List ℕ) → take to ws ≡ xs → to ≡ length xs → to ≤ n → n ≤ length ws → drop n ws ≡ drop n buf → sets ws to (replicate (n - to) 0) ≡ fill buf n xs
unfolding fill
filled buf ws n to xs e k h g d =
    let zs : List ℕ = replicate (n - to) 0 in
    let l : length zs ≡ n - to = length-replicate {A = ℕ} (n - to) 0 in
    let m : max n (length xs) ≡ n = omega arith in
    let f : to + length zs ≡ n = omega arith in
    let a : (take to ws ++ zs) ++ drop (to + length zs) ws ≡ take to ws ++ (zs ++ drop (to + length zs) ws) = append_assoc (take to ws) zs (drop (to + length zs) ws) in
    sets-eq zs ws to (omega arith) ∙ a
    ∙ (λ j. e j ++ (replicate (n - k j) 0 ++ (ap (λ (x : ℕ). drop x ws) f ∙ d ∙ ap (λ (x : ℕ). drop x buf) (sym m)) j))
