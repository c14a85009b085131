-- Sums and counts over indices and over the entries of a list. Assumes nothing.
use mathlib.Core.Path.{◌≡◌, refl, sym, ap, ap₂, ◌∙◌}
use mathlib.Core.Bool.{Bool, true, false, cond}
use mathlib.Core.List.{List, [], ◌∷◌}
use Prim.Native.Nat.{ℕ, zero, suc, ◌+◌, ◌<◌}
use native.Mathlib.Omega.{arith}
use native.Mathlib.Decide.{ℕ_discrete}
use native.Mathlib.Numerals.{add-one}
use lib.ListN.{length}
use lib.Dec.{eqb}
use Rattle.laws.specs.Fold.{one, count_below, sum_below}
use Rattle.laws.specs.Lists.{at}
use Rattle.laws.specs.Counts.{is, count}
use Rattle.laws.proofs.Sorting.{is_same, is_other, count_cons, count_nil}

-- ---- counts are sums

pub count_sum : (f : ℕ → Bool) (n : ℕ) → count_below f n ≡ sum_below (λ k. one (f k)) n
unfolding count_below sum_below
count_sum f zero = refl
count_sum f (suc n) = rw (count_sum f n)

-- ---- sums, as a counting loop cites them

module _ (f : ℕ → ℕ) where
  pub sum_none : sum_below f 0 ≡ 0
  unfolding sum_below
  sum_none = refl

  pub sum_more : (i : ℕ) → sum_below f (i + 1) ≡ sum_below f i + f i
  unfolding sum_below
  sum_more i = rw add-one

pub count_same : (f g : ℕ → Bool) (n : ℕ) → ((k : ℕ) → k < n → f k ≡ g k) → count_below f n ≡ count_below g n
unfolding count_below
count_same f g zero h = refl
count_same f g (suc n) h = ap₂ (λ (a : ℕ) (b : Bool). a + one b) (count_same f g n (λ k l. h k (omega arith))) (h n (omega arith))

pub sum_same : (f g : ℕ → ℕ) (n : ℕ) → ((k : ℕ) → k < n → f k ≡ g k) → sum_below f n ≡ sum_below g n
unfolding sum_below
sum_same f g zero h = refl
sum_same f g (suc n) h = ap₂ (λ (x y : ℕ). x + y) (sum_same f g n (λ k l. h k (omega arith))) (h n (omega arith))

pub sum_zeros : (f : ℕ → ℕ) (n : ℕ) → ((k : ℕ) → k < n → f k ≡ 0) → sum_below f n ≡ 0
unfolding sum_below
sum_zeros f zero h = refl
sum_zeros f (suc n) h = omega (arith, sum_zeros f n (λ k l. h k (omega arith)), h n (omega arith))

pub sum_add : (f g : ℕ → ℕ) (n : ℕ) → sum_below (λ k. f k + g k) n ≡ sum_below f n + sum_below g n
unfolding sum_below
sum_add f g zero = refl
sum_add f g (suc n) = omega (arith, sum_add f g n)

-- the first index apart
pub sum_first : (f : ℕ → ℕ) (n : ℕ) → sum_below f (suc n) ≡ f 0 + sum_below (λ k. f (suc k)) n
unfolding sum_below
sum_first f zero = omega arith
sum_first f (suc n) = omega (arith, sum_first f n)

-- one index alone counts
pub sum_single : (f : ℕ → ℕ) (n x : ℕ) → x < n → ((k : ℕ) → k < n → (k ≡ x → ⊥) → f k ≡ 0) → sum_below f n ≡ f x
unfolding sum_below
sum_single f zero x l h = absurd (omega arith)
sum_single f (suc n) x l h = go (ℕ_discrete x n) (sum_single f n x)
  where
    go : Dec (x ≡ n) → (x < n → ((k : ℕ) → k < n → (k ≡ x → ⊥) → f k ≡ 0) → sum_below f n ≡ f x) → sum_below f n + f n ≡ f x
    go (yes e) r = omega (arith, sum_zeros f n (λ k m. h k (omega arith) (λ q. omega arith)), ap f e)
    go (no e) r = omega (arith, r (omega arith) (λ k m q. h k (omega arith) q), h n (omega arith) (λ q. e (sym q)))

-- the order of two sums
pub sum_swap : (f : ℕ → ℕ → ℕ) (n m : ℕ) → sum_below (λ i. sum_below (λ j. f i j) m) n ≡ sum_below (λ j. sum_below (λ i. f i j) n) m
unfolding sum_below
sum_swap f zero m = sym (sum_zeros (λ j. 0) m (λ k l. refl))
sum_swap f (suc n) m = ap (λ (x : ℕ). x + sum_below (λ j. f n j) m) (sum_swap f n m) ∙ sym (sum_add (λ j. sum_below (λ i. f i j) n) (λ j. f n j) m)

-- ---- the entries of a list

-- how many entries pass
unfoldable pub passing : (ℕ → Bool) → List ℕ → ℕ
passing p [] = 0
passing p (x ∷ l) = one (p x) + passing p l

pub passing_split : (p q : ℕ → Bool) (l : List ℕ) → ((k : ℕ) → k < length l → one (p (at l k)) + one (q (at l k)) ≡ 1) → passing p l + passing q l ≡ length l
unfolding passing
passing_split p q [] h = refl
passing_split p q (x ∷ l) h = omega (arith, h 0 (omega arith), passing_split p q l (λ k m. h (suc k) (omega arith)))

-- a number's count by its places
pub count_places : (x : ℕ) (l : List ℕ) → sum_below (λ k. one (eqb (at l k) x)) (length l) ≡ count x l
unfolding sum_below count is
count_places x [] = refl
count_places x (y ∷ l) = sum_first (λ k. one (eqb (at (y ∷ l) k) x)) (length l) ∙ ap (λ (n : ℕ). one (eqb y x) + n) (count_places x l)

-- those that pass, by their numbers
pub passing_sum : (p : ℕ → Bool) (n : ℕ) (l : List ℕ) → ((k : ℕ) → k < length l → at l k < n) → sum_below (λ b. cond (p b) (count b l) 0) n ≡ passing p l
unfolding passing
passing_sum p n [] h = sum_zeros (λ b. cond (p b) (count b []) 0) n (λ k m. go k (p k) (count_nil k))
  where
    go : (k : ℕ) (t : Bool) → count k [] ≡ 0 → cond t (count k []) 0 ≡ 0
    go k true e = e
    go k false e = refl
passing_sum p n (x ∷ l) h =
    sum_same (λ b. cond (p b) (count b (x ∷ l)) 0) (λ b. cond (p b) (is x b) 0 + cond (p b) (count b l) 0) n (λ k m. go k (p k) (count_cons k x l))
    ∙ sum_add (λ b. cond (p b) (is x b) 0) (λ b. cond (p b) (count b l) 0) n
    ∙ ap₂ (λ (u v : ℕ). u + v) (sum_single (λ b. cond (p b) (is x b) 0) n x (h 0 (omega arith)) (λ k m q. other k (p k) q) ∙ here (p x)) (passing_sum p n l (λ k m. h (suc k) (omega arith)))
  where
    go : (k : ℕ) (t : Bool) → count k (x ∷ l) ≡ is x k + count k l → cond t (count k (x ∷ l)) 0 ≡ cond t (is x k) 0 + cond t (count k l) 0
    go k true e = e
    go k false e = omega arith

    other : (k : ℕ) (t : Bool) → (k ≡ x → ⊥) → cond t (is x k) 0 ≡ 0
    other k true q = is_other x k (λ z. q (sym z))
    other k false q = refl

    here : (t : Bool) → cond t (is x x) 0 ≡ one t
    here true = is_same x x refl
    here false = refl
