-- Lists of literals in range with different variables, and those that are not false of a clause's. Assumes nothing.
use mathlib.Core.Path.{◌≡◌, sym, ap, ◌∙◌, subst}
use mathlib.Core.Bool.{Bool, true, false, cond, not, ◌&&◌, ◌||◌}
use mathlib.Core.Logic.{⊎_elim}
use mathlib.Core.List.{List, [], ◌∷◌}
use Prim.Native.Nat.{ℕ, zero, suc, ◌+◌, ◌*◌, ◌≤◌, ◌<◌}
use native.Mathlib.Nat.{le_of_suc-le-suc, not-suc-le-zero}
use native.Mathlib.Omega.{arith}
use lib.ListN.{length}
use lib.Dec.{ltb}
use borrow.Author.Tests.{ltb-false}
use Rattle.laws.specs.Fold.{one}
use Rattle.laws.specs.Lists.{at, read_n}
use Rattle.laws.proofs.Reading.{length_read, at_read}
use Rattle.laws.proofs.Members.{In}
use Rattle.laws.proofs.Entries.{elem_here, elem_later, elem_cases, elem_index, elem_place}
use Rattle.kinds.specs.Clauses.{var_of}
use Rattle.kinds.specs.Held.{is_true, is_open, is_false}
use Rattle.calls.specs.Refusing.{open_count, lacking}
use Rattle.calls.specs.Simplifying.{any_true, unfalsified}
use Rattle.calls.proofs.Readings.{Lits}

abbrev pub Vars : ℕ → List ℕ → Type 0
Vars v [] = Unit {0}
Vars v (x ∷ l) = (x < 2 * v) × ((y : ℕ) → In y l → var_of y ≡ var_of x → ⊥) × Vars v l

pub vars_below : (v : ℕ) (l : List ℕ) → Vars v l → (j : ℕ) → j < length l → at l j < 2 * v
vars_below v [] c j h = absurd (not-suc-le-zero h)
vars_below v (x ∷ l) (a, b, c) zero h = a
vars_below v (x ∷ l) (a, b, c) (suc j) h = vars_below v l c j (le_of_suc-le-suc h)

pub vars_apart : (v : ℕ) (l : List ℕ) → Vars v l → (j k : ℕ) → j < length l → k < j → var_of (at l k) ≡ var_of (at l j) → ⊥
vars_apart v [] c j k h f e = absurd (not-suc-le-zero h)
vars_apart v (x ∷ l) c zero k h f e = absurd (not-suc-le-zero f)
vars_apart v (x ∷ l) (a, b, c) (suc j) zero h f e = b (at l j) (elem_index l j (le_of_suc-le-suc h)) (sym e)
vars_apart v (x ∷ l) (a, b, c) (suc j) (suc k) h f e = vars_apart v l c j k (le_of_suc-le-suc h) (le_of_suc-le-suc f) e

pub lits_vars : (w : List ℕ) (v s n : ℕ) → Lits w v s n → Vars v (read_n w s n)
unfolding read_n
lits_vars w v s zero c = tt
lits_vars w v s (suc n) c = (
  subst (λ (z : ℕ). at w z < 2 * v) (plus_zero s) (c.below 0 (omega arith)),
  (λ y m e.
      let r = elem_place y (read_n w (suc s) n) m in
      let k : r.0 < n = let q = length_read w (suc s) n in let z = r.1 in omega arith in
      let there : at w (s + suc r.0) ≡ y = ap (at w) (shift s r.0) ∙ sym (at_read w (suc s) n r.0 k) ∙ r.2 in
      c.apart (suc r.0) 0 (omega arith) (omega arith) (ap (λ (z : ℕ). var_of (at w z)) (plus_zero s) ∙ sym e ∙ ap var_of (sym there))),
  lits_vars w v (suc s) n (record {
    below = λ j h. subst (λ (z : ℕ). at w z < 2 * v) (shift s j) (c.below (suc j) (omega arith));
    apart = λ j k h f e. c.apart (suc j) (suc k) (omega arith) (omega arith) (ap (λ (z : ℕ). var_of (at w z)) (shift s k) ∙ e ∙ ap (λ (z : ℕ). var_of (at w z)) (sym (shift s j)));
  }),
)
  where
    plus_zero : (s : ℕ) → s + 0 ≡ s
    plus_zero s = omega arith

    shift : (s j : ℕ) → s + suc j ≡ suc s + j
    shift s j = omega arith

-- ---- those that are not false

pub unfalsified_in : (a l : List ℕ) (x : ℕ) → In x (unfalsified a l) → In x l
unfolding unfalsified
unfalsified_in a [] x m = m
unfalsified_in a (y ∷ l) x m = go (is_false a y) m (unfalsified_in a l x)
  where
    go : (b : Bool) → In x (cond b (unfalsified a l) (y ∷ unfalsified a l)) → (In x (unfalsified a l) → In x l) → In x (y ∷ l)
    go true n ih = elem_later x y l (ih n)
    go false n ih = ⊎_elim (λ e. subst (λ (z : ℕ). In x (z ∷ l)) e (elem_here x l)) (λ q. elem_later x y l (ih q)) (elem_cases x y (unfalsified a l) n)

pub unfalsified_vars : (v : ℕ) (a l : List ℕ) → Vars v l → Vars v (unfalsified a l)
unfolding unfalsified
unfalsified_vars v a [] c = tt
unfalsified_vars v a (y ∷ l) (p, q, c) = go (is_false a y) (unfalsified_vars v a l c)
  where
    go : (b : Bool) → Vars v (unfalsified a l) → Vars v (cond b (unfalsified a l) (y ∷ unfalsified a l))
    go true ih = ih
    go false ih = (p, (λ x m. q x (unfalsified_in a l x m)), ih)

pub unfalsified_most : (a l : List ℕ) → length (unfalsified a l) ≤ length l
unfolding unfalsified
unfalsified_most a [] = omega arith
unfalsified_most a (y ∷ l) = go (is_false a y) (unfalsified_most a l)
  where
    go : (b : Bool) → length (unfalsified a l) ≤ length l → length (cond b (unfalsified a l) (y ∷ unfalsified a l)) ≤ suc (length l)
    go true ih = omega arith
    go false ih = omega arith

open_least : (a l : List ℕ) → open_count a l ≤ length (unfalsified a l)
unfolding unfalsified open_count
open_least a [] = omega arith
open_least a (y ∷ l) = go (is_true a y) (is_open a y) (open_least a l)
  where
    go : (t o : Bool) → open_count a l ≤ length (unfalsified a l) → one o + open_count a l ≤ length (cond (not (t || o)) (unfalsified a l) (y ∷ unfalsified a l))
    go true true ih = omega arith
    go true false ih = omega arith
    go false true ih = omega arith
    go false false ih = omega arith

-- with no true literal, a clause that lacks nothing has two left
pub two_left : (a l : List ℕ) → lacking a l ≡ false → any_true a l ≡ false → 2 ≤ length (unfalsified a l)
unfolding lacking
two_left a l e f =
    let k = ltb-false (open_count a l) 2 (sym (ap (λ (b : Bool). not b && ltb (open_count a l) 2) f) ∙ e) in
    let z = open_least a l in
    omega arith
