-- The lines of the clauses that go: the first m of a sorted list that may go. Assumes nothing.
use mathlib.Core.Path.{◌≡◌, refl, sym, ap, ap₂, ◌∙◌, subst}
use mathlib.Core.Bool.{Bool, true, false, cond, not, ◌&&◌, ◌||◌}
use mathlib.Core.Logic.{⊎_elim}
use mathlib.Core.List.{List, [], ◌∷◌}
use Prim.Native.Nat.{ℕ, zero, suc, ◌+◌, ◌-◌, ◌*◌, ◌≤◌, ◌<◌}
use native.Mathlib.Omega.{arith}
use lib.Dec.{eqb, ltb, eqb-suc-zero}
use borrow.Author.Tests.{ltb-true, lt-ltb, eqb-true}
use Rattle.laws.specs.Fold.{one}
use Rattle.laws.specs.Counts.{Above, Sorted}
use Rattle.laws.proofs.Folds.{and_right, or_right}
use Rattle.laws.proofs.Members.{In, sum_list, sum_part}
use Rattle.laws.proofs.Entries.{elem_here, elem_later, elem_cases, elem_counted}
use Rattle.laws.proofs.Subsets.{sum_nothing}

-- some entry has a part of a sum
pub some : (f : ℕ → ℕ) (l : List ℕ) → 0 < sum_list f l → (x : ℕ) × (In x l) × (0 < f x)
some f [] h = absurd (omega arith)
some f (x ∷ l) h = go (f x) refl (some f l)
  where
    go : (n : ℕ) → f x ≡ n → (0 < sum_list f l → (y : ℕ) × (In y l) × (0 < f y)) → (y : ℕ) × (In y (x ∷ l)) × (0 < f y)
    go zero e r = let p = r (omega arith) in (p.0, elem_later p.0 x l p.1, p.2)
    go (suc n) e r = (x, elem_here x l, omega arith)

one_true : (b : Bool) → 0 < one b → b ≡ true
one_true true h = refl
one_true false h = absurd (omega arith)

stay : (m : ℕ) (b : Bool) → b ≡ false → eqb m 0 || not b ≡ true
stay m b e = or_right (eqb m 0) (not b) (ap not e)

-- g tells what may go, z the words of its line, k its key
module _ (g : ℕ → Bool) (z k : ℕ → ℕ) where
  unfoldable pub lines : ℕ → List ℕ → ℕ
  lines m [] = 0
  lines m (o ∷ os) = cond (eqb m 0 || not (g o)) (lines m os) (z o + lines (m - 1) os)

  nil : (m : ℕ) → lines m [] ≡ 0
  unfolding lines
  nil m = refl

  pub lines_stay : (m o : ℕ) (os : List ℕ) → eqb m 0 || not (g o) ≡ true → lines m (o ∷ os) ≡ lines m os
  unfolding lines
  lines_stay m o os e = ap (λ (b : Bool). cond b (lines m os) (z o + lines (m - 1) os)) e

  pub lines_go : (m o : ℕ) (os : List ℕ) → eqb m 0 || not (g o) ≡ false → lines m (o ∷ os) ≡ z o + lines (m - 1) os
  unfolding lines
  lines_go m o os e = ap (λ (b : Bool). cond b (lines m os) (z o + lines (m - 1) os)) e

  -- those below a bound, and their lines
  abbrev pub below : ℕ → ℕ → ℕ
  below b x = one (g x && ltb (k x) b)

  abbrev pub weight : ℕ → ℕ → ℕ
  weight b x = one (g x && ltb (k x) b) * z x

  abbrev pub may : ℕ → ℕ
  may x = one (g x)

  abbrev pub may_weight : ℕ → ℕ
  may_weight x = one (g x) * z x

  none_left : (os : List ℕ) → lines 0 os ≡ 0
  unfolding lines
  none_left [] = refl
  none_left (o ∷ os) = none_left os

  -- no more than all
  pub lines_most : (m : ℕ) (os : List ℕ) → lines m os ≤ sum_list may_weight os
  lines_most m [] = let e = nil m in omega arith
  lines_most m (o ∷ os) = go (g o) refl (eqb m 0) refl (lines_most m os) (lines_most (m - 1) os)
    where
      go : (a : Bool) → g o ≡ a → (b : Bool) → eqb m 0 ≡ b → lines m os ≤ sum_list may_weight os → lines (m - 1) os ≤ sum_list may_weight os → lines m (o ∷ os) ≤ one (g o) * z o + sum_list may_weight os
      go true e false f p q = let l = lines_go m o os (ap₂ (λ (x y : Bool). x || not y) f e) in let w = ap (λ (x : Bool). one x * z o) e in omega arith
      go true e true f p q = let l = lines_stay m o os (ap₂ (λ (x y : Bool). x || not y) f e) in omega arith
      go false e true f p q = let l = lines_stay m o os (ap₂ (λ (x y : Bool). x || not y) f e) in omega arith
      go false e false f p q = let l = lines_stay m o os (ap₂ (λ (x y : Bool). x || not y) f e) in omega arith

  -- where all may go
  pub lines_all : (m : ℕ) (os : List ℕ) → sum_list may os ≤ m → lines m os ≡ sum_list may_weight os
  lines_all m [] h = nil m
  lines_all m (o ∷ os) h = go (g o) refl (eqb m 0) refl (lines_all m os) (lines_all (m - 1) os)
    where
      go : (a : Bool) → g o ≡ a → (b : Bool) → eqb m 0 ≡ b → (sum_list may os ≤ m → lines m os ≡ sum_list may_weight os) → (sum_list may os ≤ m - 1 → lines (m - 1) os ≡ sum_list may_weight os) → lines m (o ∷ os) ≡ one (g o) * z o + sum_list may_weight os
      go true e false f p q =
          let l = lines_go m o os (ap₂ (λ (x y : Bool). x || not y) f e) in
          let w = ap (λ (x : Bool). one x * z o) e in
          let c = ap one e in
          let r = q (omega arith) in
          omega arith
      go true e true f p q = absurd (let c = ap one e in let d = eqb-true m 0 f in omega arith)
      go false e b f p q =
          let l = lines_stay m o os (stay m (g o) e) in
          let w = ap (λ (x : Bool). one x * z o) e in
          let c = ap one e in
          let r = p (omega arith) in
          omega arith

  head_below : (b m o : ℕ) (os : List ℕ) → Above k o os → sum_list (below b) (o ∷ os) ≡ suc m → k o < b
  unfolding Above
  head_below b m o os a h =
      let p = some (below b) (o ∷ os) (omega arith) in
      let l : k p.0 < b = ltb-true (k p.0) b (and_right (g p.0) _ (one_true _ p.2)) in
      ⊎_elim (λ e. subst (λ (y : ℕ). k y < b) e l) (λ i. let q = a p.0 (elem_counted p.0 os i) in omega arith) (elem_cases p.0 o os p.1)

  -- of a sorted list those below a bound, where they are m
  pub lines_below : (b m : ℕ) (os : List ℕ) → Sorted k os → sum_list (below b) os ≡ m → lines m os ≡ sum_list (weight b) os
  unfolding Sorted
  lines_below b m [] s h = nil m
  lines_below b zero (o ∷ os) s h = none_left (o ∷ os) ∙ sym (sum_nothing (weight b) (o ∷ os) (λ x i. zeros x i))
    where
      zeros : (x : ℕ) → In x (o ∷ os) → weight b x ≡ 0
      zeros x i = let a = sum_part (below b) x (o ∷ os) i in flat (g x && ltb (k x) b) (omega arith)
        where
          flat : (c : Bool) → one c ≤ 0 → one c * z x ≡ 0
          flat true q = absurd (omega arith)
          flat false q = omega arith
  lines_below b (suc m) (o ∷ os) (a, s) h = go (g o) refl (lines_below b (suc m) os s) (lines_below b m os s)
    where
      go : (c : Bool) → g o ≡ c → (sum_list (below b) os ≡ suc m → lines (suc m) os ≡ sum_list (weight b) os) → (sum_list (below b) os ≡ m → lines m os ≡ sum_list (weight b) os) → lines (suc m) (o ∷ os) ≡ weight b o + sum_list (weight b) os
      go false e p q =
          let l = lines_stay (suc m) o os (stay (suc m) (g o) e) in
          let w = ap (λ (x : Bool). one (x && ltb (k o) b) * z o) e in
          let c = ap (λ (x : Bool). one (x && ltb (k o) b)) e in
          let r = p (omega arith) in
          omega arith
      go true e p q =
          let f : ltb (k o) b ≡ true = lt-ltb (k o) b (head_below b m o os a h) in
          let d : suc m - 1 ≡ m = omega arith in
          let l = lines_go (suc m) o os (ap₂ (λ (x y : Bool). x || not y) (eqb-suc-zero m) e) ∙ ap (λ (x : ℕ). z o + lines x os) d in
          let w = ap₂ (λ (x y : Bool). one (x && y) * z o) e f in
          let c = ap₂ (λ (x y : Bool). one (x && y)) e f in
          let r = q (omega arith) in
          omega arith
