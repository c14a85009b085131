-- Sums over a list without repeated entries, as sums over a longer one. Assumes nothing.
use mathlib.Core.Path.{◌≡◌, refl, sym, ap, ◌∙◌, subst}
use mathlib.Core.Bool.{Bool, true, false, cond, ◌||◌, true≢false}
use mathlib.Core.List.{List, [], ◌∷◌}
use Prim.Native.Nat.{ℕ, ◌+◌, ◌≤◌, ◌<◌}
use native.Mathlib.Omega.{arith}
use lib.ListN.{length}
use lib.Dec.{eqb}
use borrow.Author.Tests.{ne_eqb}
use Rattle.laws.specs.Lists.{elem}
use Rattle.laws.proofs.Members.{In, Distinct, sum_list, sum_each, sum_change}
use Rattle.laws.proofs.Entries.{elem_here, elem_later}

-- nothing but zeros
pub sum_nothing : (f : ℕ → ℕ) (l : List ℕ) → ((x : ℕ) → In x l → f x ≡ 0) → sum_list f l ≡ 0
sum_nothing f [] h = refl
sum_nothing f (x ∷ l) h = let a = h x (elem_here x l) in let b = sum_nothing f l (λ y m. h y (elem_later y x l m)) in omega arith

-- at most one for each entry
pub sum_few : (f : ℕ → ℕ) (l : List ℕ) → ((x : ℕ) → f x ≤ 1) → sum_list f l ≤ length l
sum_few f [] h = omega arith
sum_few f (x ∷ l) h = let a = h x in let b = sum_few f l h in omega arith

-- of the entries of l, those that stand in os
abbrev pub within : (ℕ → ℕ) → List ℕ → ℕ → ℕ
within f os x = cond (elem x os) (f x) 0

pub sum_within : (f : ℕ → ℕ) (os l : List ℕ) → Distinct os → Distinct l → ((x : ℕ) → In x os → In x l) → sum_list (within f os) l ≡ sum_list f os
unfolding elem
sum_within f [] l d e h = sum_nothing (within f []) l (λ x m. refl)
sum_within f (o ∷ os) l (n, d) e h =
    let g = sum_change (within f os) (within f (o ∷ os)) o l e (h o (elem_here o os)) (λ x m q. ap (λ (b : Bool). cond (b || elem x os) (f x) 0) (ne_eqb x o q)) in
    let r = sum_within f os l d e (λ x m. h x (elem_later x o os m)) in
    let a : within f os o ≡ 0 = ap (λ (b : Bool). cond b (f o) 0) (absent (elem o os) n) in
    let b : within f (o ∷ os) o ≡ f o = ap (λ (c : Bool). cond c (f o) 0) (elem_here o os) in
    omega arith
  where
    absent : (b : Bool) → (b ≡ true → ⊥) → b ≡ false
    absent true q = absurd (q refl)
    absent false q = refl
