-- Sums over places: of a symmetric table, of the counts of a list's entries. Assumes nothing.
use mathlib.Core.Path.{◌≡◌, refl, sym, ap, ◌∙◌, subst}
use mathlib.Core.Bool.{Bool, false, ◌&&◌}
use mathlib.Core.List.{List, [], ◌∷◌}
use Prim.Native.Nat.{ℕ, zero, suc, ◌+◌, ◌*◌, ◌<◌}
use native.Mathlib.Decide.{ℕ_discrete}
use native.Mathlib.Omega.{arith}
use lib.ListN.{length, length-append}
use lib.Dec.{eqb}
use borrow.Author.Tests.{eq-eqb, ne_eqb}
use Rattle.laws.specs.Fold.{one, sum_below}
use Rattle.laws.specs.Lists.{list_at, push, joined}
use Rattle.laws.specs.Counts.{is, count}
use Rattle.laws.proofs.Sorting.{is_same, is_other, count_cons, count_nil, count_append}
use Rattle.laws.proofs.Members.{In}
use Rattle.laws.proofs.Entries.{elem_here, elem_later}
use Rattle.laws.proofs.Sums.{sum_same, sum_zeros, sum_add, sum_first, sum_single}
use Rattle.laws.proofs.Pushes.{pushed_here, pushed_other}

-- one place counts 1
pub sum_is : (k n : ℕ) → k < n → sum_below (λ (i : ℕ). is i k) n ≡ 1
sum_is k n h = sum_single (λ (i : ℕ). is i k) n k h (λ i l q. is_other i k q) ∙ is_same k k refl

pub is_swap : (x y : ℕ) → is x y ≡ is y x
is_swap x y = go (ℕ_discrete x y)
  where
    go : Dec (x ≡ y) → is x y ≡ is y x
    go (yes e) = is_same x y e ∙ sym (is_same y x (sym e))
    go (no e) = is_other x y e ∙ sym (is_other y x (λ q. e (sym q)))

-- a list's length is the sum of its counts
pub length_counts : (n : ℕ) (l : List ℕ) → ((x : ℕ) → In x l → x < n) → length l ≡ sum_below (λ (x : ℕ). count x l) n
length_counts n [] h = sym (sum_zeros (λ (x : ℕ). count x []) n (λ i k. count_nil i))
length_counts n (y ∷ l) h =
    let ih = length_counts n l (λ x m. h x (elem_later x y l m)) in
    let a = sum_same (λ (x : ℕ). count x (y ∷ l)) (λ (x : ℕ). is x y + count x l) n (λ i k. count_cons i y l ∙ ap (λ (z : ℕ). z + count i l) (is_swap y i)) in
    let b = sum_add (λ (x : ℕ). is x y) (λ (x : ℕ). count x l) n in
    let c = sum_is y n (h y (elem_here y l)) in
    omega arith

pub count_in : (x : ℕ) (l : List ℕ) → 0 < count x l → In x l
count_in x [] h = absurd (let z = count_nil x in omega arith)
count_in x (y ∷ l) h = go (count_in x l) (ℕ_discrete x y)
  where
    go : (0 < count x l → In x l) → Dec (x ≡ y) → In x (y ∷ l)
    go ih (yes e) = subst (λ (z : ℕ). In x (z ∷ l)) e (elem_here x l)
    go ih (no e) = elem_later x y l (ih (let a = count_cons x y l in let b = is_other y x (λ q. e (sym q)) in omega arith))

-- ---- a symmetric table with nothing on its diagonal: twice what stands below the diagonal

pub symmetric_sum : (m : ℕ → ℕ → ℕ) (n : ℕ) → ((a b : ℕ) → a < n → b < n → m a b ≡ m b a) → ((a : ℕ) → a < n → m a a ≡ 0)
    → sum_below (λ (a : ℕ). sum_below (λ (b : ℕ). m a b) n) n ≡ 2 * sum_below (λ (a : ℕ). sum_below (λ (b : ℕ). m a b) a) n
unfolding sum_below
symmetric_sum m zero s d = omega arith
symmetric_sum m (suc n) s d =
    let ih = symmetric_sum m n (λ a b h k. s a b (omega arith) (omega arith)) (λ a h. d a (omega arith)) in
    let rows = sum_add (λ (a : ℕ). sum_below (λ (b : ℕ). m a b) n) (λ (a : ℕ). m a n) n in
    let column = sum_same (λ (a : ℕ). m a n) (λ (b : ℕ). m n b) n (λ i h. s i n (omega arith) (omega arith)) in
    let corner = d n (omega arith) in
    omega arith

-- ---- one entry more behind one of some lists

pub count_push : (ts : List (List ℕ)) (t o : ℕ) → t < length ts → (c y : ℕ) → count y (list_at (push t o ts) c) ≡ count y (list_at ts c) + one (eqb c t && eqb o y)
unfolding is
count_push ts t o h c y = go (ℕ_discrete c t)
  where
    go : Dec (c ≡ t) → count y (list_at (push t o ts) c) ≡ count y (list_at ts c) + one (eqb c t && eqb o y)
    go (yes e) =
        subst (λ (z : ℕ). count y (list_at (push t o ts) z) ≡ count y (list_at ts z) + one (eqb z t && eqb o y)) (sym e)
        (ap (count y) (pushed_here ts t o h) ∙ count_append y (list_at ts t) (o ∷ []) ∙ ap (λ (z : ℕ). count y (list_at ts t) + z) (count_cons y o [] ∙ ap (λ (z : ℕ). is o y + z) (count_nil y) ∙ single)
        ∙ ap (λ (b : Bool). count y (list_at ts t) + one (b && eqb o y)) (sym (eq-eqb t t refl)))
      where
        single : is o y + 0 ≡ one (eqb o y)
        single = omega arith
    go (no e) = ap (count y) (pushed_other ts t o h c e) ∙ none ∙ ap (λ (b : Bool). count y (list_at ts c) + one (b && eqb o y)) (sym (ne_eqb c t e))
      where
        none : count y (list_at ts c) ≡ count y (list_at ts c) + one (false && eqb o y)
        none = omega arith

pub length_joined : (ls : List (List ℕ)) → length (joined ls) ≡ sum_below (λ (c : ℕ). length (list_at ls c)) (length ls)
unfolding joined sum_below
length_joined [] = refl
length_joined (l ∷ ls) = length-append l (joined ls) ∙ ap (λ (n : ℕ). length l + n) (length_joined ls) ∙ sym (sum_first (λ (c : ℕ). length (list_at (l ∷ ls) c)) (length ls))
