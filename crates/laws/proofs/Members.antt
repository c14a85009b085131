-- Membership in a list, and sums over its entries, also by places. Assumes nothing.
use mathlib.Core.Path.{◌≡◌, refl, sym, ap, ap₂, ◌∙◌, subst}
use mathlib.Core.Bool.{true}
use mathlib.Core.Logic.{⊎_elim, ◌⊎◌, inl, inr}
use mathlib.Core.List.{List, [], ◌∷◌, ◌++◌}
use Prim.Native.Nat.{ℕ, ◌+◌, ◌≤◌}
use native.Mathlib.Decide.{ℕ_discrete}
use native.Mathlib.Omega.{arith}
use lib.ListN.{length}
use Rattle.laws.specs.Fold.{sum_below}
use Rattle.laws.specs.Lists.{at, elem}
use Rattle.laws.proofs.Entries.{elem_none, elem_here, elem_later, elem_cases}
use Rattle.laws.proofs.Sums.{sum_first}

-- ---- x stands in the list

abbrev pub In : ℕ → List ℕ → Type 0
In x l = elem x l ≡ true

pub in_left : (x : ℕ) (a b : List ℕ) → In x a → In x (a ++ b)
in_left x [] b h = absurd (elem_none x h)
in_left x (y ∷ a) b h = go (in_left x a b) (elem_cases x y a h)
  where
    go : (In x a → In x (a ++ b)) → (x ≡ y) ⊎ In x a → In x (y ∷ (a ++ b))
    go ih (inl e) = subst (λ (z : ℕ). In x (z ∷ (a ++ b))) e (elem_here x (a ++ b))
    go ih (inr m) = elem_later x y (a ++ b) (ih m)

pub in_right : (x : ℕ) (a b : List ℕ) → In x b → In x (a ++ b)
in_right x [] b h = h
in_right x (y ∷ a) b h = elem_later x y (a ++ b) (in_right x a b h)

pub in_append : (x : ℕ) (a b : List ℕ) → In x (a ++ b) → In x a ⊎ In x b
in_append x [] b h = inr h
in_append x (y ∷ a) b h = go (in_append x a b) (elem_cases x y (a ++ b) h)
  where
    go : (In x (a ++ b) → In x a ⊎ In x b) → (x ≡ y) ⊎ In x (a ++ b) → In x (y ∷ a) ⊎ In x b
    go ih (inl e) = inl (subst (λ (z : ℕ). In x (z ∷ a)) e (elem_here x a))
    go ih (inr m) = ⊎_elim (λ q. inl (elem_later x y a q)) (λ q. inr q) (ih m)

pub in_last : (x : ℕ) (a : List ℕ) → In x (a ++ (x ∷ []))
in_last x a = in_right x a (x ∷ []) (elem_here x [])

pub in_snoc : (x y : ℕ) (a : List ℕ) → In x (a ++ (y ∷ [])) → In x a ⊎ (x ≡ y)
in_snoc x y a h = ⊎_elim (λ q. inl q) (λ q. ⊎_elim (λ e. inr e) (λ n. absurd (elem_none x n)) (elem_cases x y [] q)) (in_append x a (y ∷ []) h)

-- ---- no entry twice

abbrev pub Distinct : List ℕ → Type 0
Distinct [] = Unit {0}
Distinct (x ∷ l) = (In x l → ⊥) × Distinct l

-- ---- sums over the entries

abbrev pub sum_list : (ℕ → ℕ) → List ℕ → ℕ
sum_list f [] = 0
sum_list f (x ∷ l) = f x + sum_list f l

pub sum_append : (f : ℕ → ℕ) (a b : List ℕ) → sum_list f (a ++ b) ≡ sum_list f a + sum_list f b
sum_append f [] b = omega arith
sum_append f (x ∷ a) b = omega (arith, sum_append f a b)

pub sum_each : (f g : ℕ → ℕ) (l : List ℕ) → ((x : ℕ) → In x l → f x ≡ g x) → sum_list f l ≡ sum_list g l
sum_each f g [] h = refl
sum_each f g (x ∷ l) h = ap₂ (λ (a b : ℕ). a + b) (h x (elem_here x l)) (sum_each f g l (λ y m. h y (elem_later y x l m)))

pub sum_part : (f : ℕ → ℕ) (x : ℕ) (l : List ℕ) → In x l → f x ≤ sum_list f l
sum_part f x [] h = absurd (elem_none x h)
sum_part f x (y ∷ l) h = go (sum_part f x l) (elem_cases x y l h)
  where
    go : (In x l → f x ≤ sum_list f l) → (x ≡ y) ⊎ In x l → f x ≤ f y + sum_list f l
    go ih (inl e) = subst (λ (z : ℕ). f x ≤ f z + sum_list f l) e (omega arith)
    go ih (inr m) = let q = ih m in omega arith

-- the summand of one entry changes, of those that stand once
pub sum_change : (f g : ℕ → ℕ) (o : ℕ) (l : List ℕ) → Distinct l → In o l → ((x : ℕ) → In x l → (x ≡ o → ⊥) → g x ≡ f x) → sum_list g l + f o ≡ sum_list f l + g o
sum_change f g o [] d m h = absurd (elem_none o m)
sum_change f g o (x ∷ l) (n, d) m h = go (sum_change f g o l d) (ℕ_discrete o x)
  where
    go : (In o l → ((y : ℕ) → In y l → (y ≡ o → ⊥) → g y ≡ f y) → sum_list g l + f o ≡ sum_list f l + g o) → Dec (o ≡ x) → (g x + sum_list g l) + f o ≡ (f x + sum_list f l) + g o
    go ih (yes e) =
        let s = sum_each g f l (λ y q. h y (elem_later y x l q) (λ z. n (subst (λ (u : ℕ). In u l) (z ∙ e) q))) in
        subst (λ (z : ℕ). (g z + sum_list g l) + f o ≡ (f z + sum_list f l) + g o) e (omega arith)
    go ih (no ne) =
        let q = ih (⊎_elim (λ e. absurd (ne e)) (λ r. r) (elem_cases o x l m)) (λ y r. h y (elem_later y x l r)) in
        let e = h x (elem_here x l) (λ z. ne (sym z)) in
        omega arith

-- ---- by places

pub sum_places : (f : ℕ → ℕ) (l : List ℕ) → sum_below (λ (i : ℕ). f (at l i)) (length l) ≡ sum_list f l
unfolding sum_below
sum_places f [] = refl
sum_places f (x ∷ l) = sum_first (λ (i : ℕ). f (at (x ∷ l) i)) (length l) ∙ ap (λ (a : ℕ). f x + a) (sum_places f l)
