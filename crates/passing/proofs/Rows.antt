-- Adding a pair, and cleaning, keep the rows symmetric, with half their entries counted. Assumes nothing.
use mathlib.Core.Path.{◌≡◌, refl, sym, ap, ap₂, ◌∙◌, subst}
use mathlib.Core.Bool.{Bool, true, false, cond, ◌&&◌}
use mathlib.Core.Logic.{⊎_elim}
use mathlib.Core.List.{List, [], ◌∷◌}
use Prim.Native.Nat.{ℕ, zero, suc, ◌+◌, ◌*◌, ◌/◌, ◌<◌}
use native.Mathlib.Decide.{ℕ_discrete}
use native.Mathlib.Omega.{arith}
use lib.ListN.{length, get_or, length-append}
use lib.Dec.{eqb}
use borrow.Author.Tests.{eq-eqb, ne_eqb}
use Rattle.laws.specs.Fold.{one, sum_below}
use Rattle.laws.specs.Lists.{list_at, snoc, push, joined}
use Rattle.laws.specs.Counts.{is, count}
use Rattle.laws.proofs.Sorting.{is_same, is_other, count_cons, count_nil}
use Rattle.laws.proofs.Members.{In}
use Rattle.laws.proofs.Sums.{sum_same, sum_add}
use Rattle.laws.proofs.Entries.{elem_here, elem_later, elem_cases}
use Rattle.laws.proofs.Pushes.{pushed_here, pushed_other, pushed_cases, length_push}
use Rattle.laws.proofs.Tables.{sum_is, length_counts, count_in, symmetric_sum, count_push, length_joined}
use Rattle.kinds.specs.Clauses.{var_of, neg}
use Rattle.kinds.specs.Held.{is_open}
use Rattle.calls.specs.Adding.{pair_pushed}
use Rattle.calls.specs.Simplifying.{stays_in, row_cleaned, rows_cleaned}
use Rattle.passing.proofs.Good.{row_size, Even}

-- ---- the negated literal

neg_below : (a v : ℕ) → a < 2 * v → neg a < 2 * v
neg_below a v h = omega arith

neg_var : (a : ℕ) → var_of (neg a) ≡ var_of a
neg_var a = omega arith

neg_neg : (a : ℕ) → neg (neg a) ≡ a
neg_neg a = omega arith

neg_same : (a b : ℕ) → neg a ≡ neg b → a ≡ b
neg_same a b e = sym (neg_neg a) ∙ ap neg e ∙ neg_neg b

-- ---- a pair more

size_push : (rows : List (List ℕ)) (t o : ℕ) → t < length rows → (c : ℕ) → row_size (push t o rows) c ≡ row_size rows c + is c t
size_push rows t o h c = go (ℕ_discrete c t)
  where
    go : Dec (c ≡ t) → row_size (push t o rows) c ≡ row_size rows c + is c t
    go (yes e) =
        let a = is_same c t e in
        let b = length-append (list_at rows t) (o ∷ []) in
        let d : row_size (push t o rows) c ≡ length (snoc (list_at rows t) o) = ap (row_size (push t o rows)) e ∙ ap length (pushed_here rows t o h) in
        let f : row_size rows c ≡ row_size rows t = ap (row_size rows) e in
        omega arith
    go (no e) =
        let a = is_other c t e in
        let b : row_size (push t o rows) c ≡ row_size rows c = ap length (pushed_other rows t o h c e) in
        omega arith

sum_push : (rows : List (List ℕ)) (t o n : ℕ) → t < length rows → t < n → sum_below (row_size (push t o rows)) n ≡ sum_below (row_size rows) n + 1
sum_push rows t o n h k =
    let a = sum_same (row_size (push t o rows)) (λ (c : ℕ). row_size rows c + is c t) n (λ i q. size_push rows t o h i) in
    let b = sum_add (row_size rows) (λ (c : ℕ). is c t) n in
    let d = sum_is t n k in
    omega arith

-- x is a and y is b, told by the negated x and by the negated y
swapped : (x y a b : ℕ) → one (eqb (neg x) (neg a) && eqb b y) ≡ one (eqb (neg y) (neg b) && eqb a x)
swapped x y a b = go (ℕ_discrete x a) (ℕ_discrete y b)
  where
    left : Bool → Bool → ℕ
    left p q = one (p && q)

    go : Dec (x ≡ a) → Dec (y ≡ b) → one (eqb (neg x) (neg a) && eqb b y) ≡ one (eqb (neg y) (neg b) && eqb a x)
    go (yes e) (yes f) = ap₂ left (eq-eqb (neg x) (neg a) (ap neg e)) (eq-eqb b y (sym f)) ∙ sym (ap₂ left (eq-eqb (neg y) (neg b) (ap neg f)) (eq-eqb a x (sym e)))
    go (yes e) (no f) = ap₂ left (eq-eqb (neg x) (neg a) (ap neg e)) (ne_eqb b y (λ q. f (sym q))) ∙ sym (ap₂ left (ne_eqb (neg y) (neg b) (λ q. f (neg_same y b q))) (eq-eqb a x (sym e)))
    go (no e) (yes f) = ap₂ left (ne_eqb (neg x) (neg a) (λ q. e (neg_same x a q))) (eq-eqb b y (sym f)) ∙ sym (ap₂ left (eq-eqb (neg y) (neg b) (ap neg f)) (ne_eqb a x (λ q. e (sym q))))
    go (no e) (no f) = ap₂ left (ne_eqb (neg x) (neg a) (λ q. e (neg_same x a q))) (ne_eqb b y (λ q. f (sym q))) ∙ sym (ap₂ left (ne_eqb (neg y) (neg b) (λ q. f (neg_same y b q))) (ne_eqb a x (λ q. e (sym q))))

pub pair_even : (v : ℕ) (rows : List (List ℕ)) (n : ℕ) → Even v rows n → (a b : ℕ) → a < 2 * v → b < 2 * v → (var_of a ≡ var_of b → ⊥) → Even v (pair_pushed a b rows) (n + 1)
pair_even v rows n r a b h k apart =
    let first = push (neg a) b rows in
    let l₁ : neg a < length rows = let q = r.long in let z = neg_below a v h in omega arith in
    let l₂ : neg b < length first = let q = r.long in let e = length_push rows (neg a) b in let z = neg_below b v k in omega arith in
    record {
      long = length_push first (neg b) a ∙ length_push rows (neg a) b ∙ r.long;
      below = λ c x m i. ⊎_elim
          (λ j. ⊎_elim (λ q. r.below c x m q) (λ q. subst (λ (z : ℕ). z < 2 * v) (sym q.0) k) (pushed_cases rows (neg a) b l₁ c x j))
          (λ q. subst (λ (z : ℕ). z < 2 * v) (sym q.0) h)
          (pushed_cases first (neg b) a l₂ c x i);
      apart = λ c x m i e. ⊎_elim
          (λ j. ⊎_elim
          (λ q. r.apart c x m q e)
          (λ q. apart (sym (neg_var a) ∙ ap var_of (sym q.1) ∙ sym e ∙ ap var_of q.0))
          (pushed_cases rows (neg a) b l₁ c x j))
          (λ q. apart (ap var_of (sym q.0) ∙ e ∙ ap var_of q.1 ∙ neg_var b))
          (pushed_cases first (neg b) a l₂ c x i);
      even = λ x y i j.
          let p = count_push first (neg b) a l₂ (neg x) y in
          let q = count_push rows (neg a) b l₁ (neg x) y in
          let s = count_push first (neg b) a l₂ (neg y) x in
          let t = count_push rows (neg a) b l₁ (neg y) x in
          let e = r.even x y i j in
          let f = swapped x y a b in
          let g = swapped x y b a in
          omega arith;
      half =
          let p = sum_push first (neg b) a (2 * v) l₂ (neg_below b v k) in
          let q = sum_push rows (neg a) b (2 * v) l₁ (neg_below a v h) in
          let e = r.half in
          omega arith;
    }

-- ---- the entries of symmetric rows are even in number

reindex : (f : ℕ → ℕ) (v : ℕ) → sum_below f (2 * v) ≡ sum_below (λ (a : ℕ). f (neg a)) (2 * v)
unfolding sum_below
reindex f zero = refl
reindex f (suc v) =
    let e : 2 * suc v ≡ suc (suc (2 * v)) = omega arith in
    let ih = reindex f v in
    let a : f (neg (2 * v)) ≡ f (suc (2 * v)) = ap f (omega arith) in
    let b : f (neg (suc (2 * v))) ≡ f (2 * v) = ap f (omega arith) in
    subst (λ (n : ℕ). sum_below f n ≡ sum_below (λ (x : ℕ). f (neg x)) n) (sym e) (omega arith)

pub half_whole : (v : ℕ) (rows : List (List ℕ)) → ((c x : ℕ) → c < 2 * v → In x (list_at rows c) → x < 2 * v) → ((c x : ℕ) → c < 2 * v → In x (list_at rows c) → var_of x ≡ var_of c → ⊥)
    → ((x y : ℕ) → x < 2 * v → y < 2 * v → count y (list_at rows (neg x)) ≡ count x (list_at rows (neg y)))
    → sum_below (row_size rows) (2 * v) / 2 * 2 ≡ sum_below (row_size rows) (2 * v)
half_whole v rows below apart even =
    let m : ℕ → ℕ → ℕ = λ a b. count b (list_at rows (neg a)) in
    let a = reindex (row_size rows) v in
    let b = sum_same (λ (x : ℕ). row_size rows (neg x)) (λ (x : ℕ). sum_below (λ (y : ℕ). count y (list_at rows (neg x))) (2 * v)) (2 * v)
    (λ i h. length_counts (2 * v) (list_at rows (neg i)) (λ x j. below (neg i) x (neg_below i v h) j)) in
    let c = symmetric_sum (λ (x y : ℕ). count y (list_at rows (neg x))) (2 * v) even (λ x h. none x h (count x (list_at rows (neg x))) refl) in
    omega arith
  where
    none : (x : ℕ) → x < 2 * v → (n : ℕ) → count x (list_at rows (neg x)) ≡ n → n ≡ 0
    none x h zero e = refl
    none x h (suc n) e = absurd (apart (neg x) x (neg_below x v h) (count_in x (list_at rows (neg x)) (omega arith)) (sym (neg_var x)))

-- ---- cleaning

cleaned_row : (a : List ℕ) (rows : List (List ℕ)) (r c : ℕ) → list_at (rows_cleaned a r rows) c ≡ row_cleaned a (r + c) (list_at rows c)
unfolding rows_cleaned row_cleaned
cleaned_row a [] r c = refl
cleaned_row a (row ∷ rows) r zero = ap (λ (n : ℕ). row_cleaned a n row) (let e : r ≡ r + zero = omega arith in e)
cleaned_row a (row ∷ rows) r (suc c) = cleaned_row a rows (suc r) c ∙ ap (λ (n : ℕ). row_cleaned a n (list_at rows c)) (let e : suc r + c ≡ r + suc c = omega arith in e)

cleaned_long : (a : List ℕ) (r : ℕ) (rows : List (List ℕ)) → length (rows_cleaned a r rows) ≡ length rows
unfolding rows_cleaned
cleaned_long a r [] = refl
cleaned_long a r (row ∷ rows) = ap suc (cleaned_long a (suc r) rows)

cleaned_in : (a : List ℕ) (r x : ℕ) (row : List ℕ) → In x (row_cleaned a r row) → In x row
unfolding row_cleaned
cleaned_in a r x [] m = m
cleaned_in a r x (b ∷ row) m = go (stays_in a r b) m (cleaned_in a r x row)
  where
    go : (t : Bool) → In x (cond t (b ∷ row_cleaned a r row) (row_cleaned a r row)) → (In x (row_cleaned a r row) → In x row) → In x (b ∷ row)
    go true n ih = ⊎_elim (λ e. subst (λ (z : ℕ). In x (z ∷ row)) e (elem_here x row)) (λ q. elem_later x b row (ih q)) (elem_cases x b (row_cleaned a r row) n)
    go false n ih = elem_later x b row (ih n)

cleaned_count : (a : List ℕ) (r y : ℕ) (row : List ℕ) → count y (row_cleaned a r row) ≡ cond (stays_in a r y) (count y row) 0
unfolding row_cleaned
cleaned_count a r y [] = count_nil y ∙ none (stays_in a r y)
  where
    none : (t : Bool) → 0 ≡ cond t (count y []) 0
    none true = sym (count_nil y)
    none false = refl
cleaned_count a r y (b ∷ row) = go (stays_in a r b) refl (ℕ_discrete b y) (cleaned_count a r y row)
  where
    more : (t : Bool) → stays_in a r y ≡ t → b ≡ y → is b y + cond (stays_in a r y) (count y row) 0 ≡ cond (stays_in a r y) (count y (b ∷ row)) 0 + cond t 0 1
    more true e f = ap (λ (z : Bool). is b y + cond z (count y row) 0) e ∙ sym (count_cons y b row) ∙ (let q : count y (b ∷ row) ≡ count y (b ∷ row) + 0 = omega arith in q) ∙ ap (λ (z : Bool). cond z (count y (b ∷ row)) 0 + 0) (sym e)
    more false e f = ap (λ (z : Bool). is b y + cond z (count y row) 0) e ∙ (let q = is_same b y f in let s : is b y + 0 ≡ 0 + 1 = omega arith in s) ∙ ap (λ (z : Bool). cond z (count y (b ∷ row)) 0 + 1) (sym e)

    other : (t : Bool) → (b ≡ y → ⊥) → cond t (count y row) 0 ≡ cond t (count y (b ∷ row)) 0
    other true f = let p = count_cons y b row in let q = is_other b y f in omega arith
    other false f = refl

    go : (t : Bool) → stays_in a r b ≡ t → Dec (b ≡ y) → count y (row_cleaned a r row) ≡ cond (stays_in a r y) (count y row) 0 → count y (cond t (b ∷ row_cleaned a r row) (row_cleaned a r row)) ≡ cond (stays_in a r y) (count y (b ∷ row)) 0
    go true e (yes f) ih =
        let p = count_cons y b (row_cleaned a r row) in
        let q = more true (ap (stays_in a r) (sym f) ∙ e) f in
        omega arith
    go true e (no f) ih =
        let p = count_cons y b (row_cleaned a r row) in
        let q = is_other b y f in
        let s = other (stays_in a r y) f in
        omega arith
    go false e (yes f) ih = ih ∙ ap (λ (z : Bool). cond z (count y row) 0) stay ∙ ap (λ (z : Bool). cond z (count y (b ∷ row)) 0) (sym stay)
      where
        stay : stays_in a r y ≡ false
        stay = ap (stays_in a r) (sym f) ∙ e
    go false e (no f) ih = ih ∙ other (stays_in a r y) f

and_swap : (a b : Bool) → a && b ≡ b && a
and_swap true true = refl
and_swap true false = refl
and_swap false true = refl
and_swap false false = refl

open_neg : (a : List ℕ) (x : ℕ) → is_open a (neg x) ≡ is_open a x
open_neg a x = ap (λ (n : ℕ). eqb (get_or a n 2) 2) (neg_var x)

pub cleaned_even : (v : ℕ) (rows : List (List ℕ)) (n : ℕ) (a : List ℕ) → Even v rows n → Even v (rows_cleaned a 0 rows) (length (joined (rows_cleaned a 0 rows)) / 2)
cleaned_even v rows n a r =
    let low : (c x : ℕ) → c < 2 * v → In x (list_at (rows_cleaned a 0 rows) c) → x < 2 * v = λ c x h m. r.below c x h (inside c x m) in
    let far : (c x : ℕ) → c < 2 * v → In x (list_at (rows_cleaned a 0 rows) c) → var_of x ≡ var_of c → ⊥ = λ c x h m. r.apart c x h (inside c x m) in
    let long = cleaned_long a 0 rows ∙ r.long in
    let total : length (joined (rows_cleaned a 0 rows)) ≡ sum_below (row_size (rows_cleaned a 0 rows)) (2 * v) =
    length_joined (rows_cleaned a 0 rows) ∙ ap (sum_below (row_size (rows_cleaned a 0 rows))) long in
    record {
      long = long;
      below = low;
      apart = far;
      even = symmetric;
      half = ap (λ (z : ℕ). z / 2 * 2) total ∙ half_whole v (rows_cleaned a 0 rows) low far symmetric;
    }
  where
    inside : (c x : ℕ) → In x (list_at (rows_cleaned a 0 rows) c) → In x (list_at rows c)
    inside c x m = cleaned_in a (0 + c) x (list_at rows c) (subst (λ (l : List ℕ). In x l) (cleaned_row a rows 0 c) m)

    times : (x y : ℕ) → count y (list_at (rows_cleaned a 0 rows) (neg x)) ≡ cond (is_open a x && is_open a y) (count y (list_at rows (neg x))) 0
    times x y =
        ap (count y) (cleaned_row a rows 0 (neg x)) ∙ cleaned_count a (0 + neg x) y (list_at rows (neg x))
        ∙ ap (λ (b : Bool). cond (b && is_open a y) (count y (list_at rows (neg x))) 0) (ap (is_open a) (let e : 0 + neg x ≡ neg x = omega arith in e) ∙ open_neg a x)

    symmetric : (x y : ℕ) → x < 2 * v → y < 2 * v → count y (list_at (rows_cleaned a 0 rows) (neg x)) ≡ count x (list_at (rows_cleaned a 0 rows) (neg y))
    symmetric x y h k =
        times x y ∙ ap₂ (λ (b : Bool) (z : ℕ). cond b z 0) (and_swap (is_open a x) (is_open a y)) (r.even x y h k) ∙ sym (times y x)
