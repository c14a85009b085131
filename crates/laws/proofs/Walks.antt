-- Walking over the first n entries of a list: what is left, and a fold over it. Assumes nothing.
use mathlib.Core.Path.{◌≡◌, refl, sym, ap, ◌∙◌}
use mathlib.Core.List.{List, [], ◌∷◌, ◌++◌}
use Prim.Native.Nat.{ℕ, ◌+◌, ◌-◌, ◌≤◌, ◌<◌}
use native.Mathlib.Numerals.{add-one}
use native.Mathlib.Omega.{arith}
use lib.ListN.{length, get_or, take, drop, drop_of_length-le, take-append-drop}
use lib.Seq.{drop-cons, drop-drop, get_or-drop, get_or-take, length-take-le}
use Rattle.laws.specs.Fold.{fold_list}
use Rattle.laws.specs.Counts.{count}
use Rattle.laws.proofs.Sorting.{count_append}

-- two lists that are the same from p on are the same from q on
pub drop_more : (p q : ℕ) (a b : List ℕ) → p ≤ q → drop p a ≡ drop p b → drop q a ≡ drop q b
drop_more p q a b h e = let s : q ≡ p + (q - p) = omega arith in rw s (sym (drop-drop (q - p) p a) ∙ ap (drop (q - p)) e ∙ drop-drop (q - p) p b)

pub at_more : (p j : ℕ) (a b : List ℕ) → p ≤ j → drop p a ≡ drop p b → get_or a j 0 ≡ get_or b j 0
at_more p j a b h e = let s : j ≡ p + (j - p) = omega arith in rw s (sym (get_or-drop p a (j - p) 0) ∙ ap (λ (l : List ℕ). get_or l (j - p) 0) e ∙ get_or-drop p b (j - p) 0)

-- what is left of a list's first n, while i is below n
pub left_next : (l : List ℕ) (n i : ℕ) → i < n → n ≤ length l → drop i (take n l) ≡ get_or l i 0 ∷ drop (i + 1) (take n l)
left_next l n i lt le = drop-cons (take n l) i 0 (omega (arith, length-take-le n l le)) ∙ (λ j. get_or-take n l i 0 lt j ∷ drop (sym (add-one i) j) (take n l))

pub left_none : (l : List ℕ) (n i : ℕ) → n ≤ i → n ≤ length l → drop i (take n l) ≡ []
left_none l n i h le = drop_of_length-le (take n l) {i = i} (omega (arith, length-take-le n l le))

pub walk_next : {A : Type 0} (f : A → ℕ → A) (a : A) (x : ℕ) (xs : List ℕ) → fold_list f a (x ∷ xs) ≡ fold_list f (f a x) xs
unfolding fold_list
walk_next f a x xs = refl

pub walk_none : {A : Type 0} (f : A → ℕ → A) (a : A) → fold_list f a [] ≡ a
unfolding fold_list
walk_none f a = refl

pub count_split : (v n : ℕ) (a : List ℕ) → count v a ≡ count v (take n a) + count v (drop n a)
count_split v n a = ap (count v) (sym (take-append-drop n a)) ∙ count_append v (take n a) (drop n a)
