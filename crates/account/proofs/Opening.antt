-- What simplifying leaves is unassigned: literals, rows. Assumes nothing.
use mathlib.Core.Path.{◌≡◌, refl, sym, ap, ◌∙◌, subst}
use mathlib.Core.Bool.{Bool, true, false, cond, not, ◌||◌, true≢false}
use mathlib.Core.Logic.{⊎_elim, ◌⊎◌, inl, inr}
use mathlib.Core.List.{List, [], ◌∷◌, ◌++◌}
use Prim.Native.Nat.{ℕ, zero, suc, ◌+◌, ◌-◌, ◌≤◌}
use native.Mathlib.Omega.{arith}
use native.Mathlib.Decide.{ℕ_discrete, dec_le}
use native.Mathlib.Nat.{add-zero}
use lib.ListN.{length}
use lib.Dec.{ltb}
use lib.Seq.{get_or-set_same, get_or-set_other, set_out}
use Rattle.laws.specs.Lists.{list_at, elem, snoc, push}
use Rattle.laws.proofs.Folds.{and_left, and_right, and_both}
use Rattle.laws.proofs.Entries.{elem_none, elem_here, elem_later, elem_cases}
use Rattle.kinds.specs.Clauses.{Clause, pair, neg, var_of, pairs_in, pairs}
use Rattle.kinds.specs.Held.{is_true, is_open, is_false}
use Rattle.calls.specs.Adding.{pair_pushed}
use Rattle.calls.specs.Simplifying.{any_true, unfalsified, stays_in, row_cleaned, rows_cleaned}
use Rattle.account.specs.Open.{OpenLits, AllOpen, RowsOpen}
use Rattle.account.proofs.Shortening.{left_within, length_unfalsified}

-- ---- literals

none_true : (a ls : List ℕ) → any_true a ls ≡ false → (x : ℕ) → elem x ls ≡ true → is_true a x ≡ false
unfolding any_true
none_true a [] n x e = absurd (elem_none x e)
none_true a (l ∷ ls) n x e = go (is_true a l) refl n (elem_cases x l ls e) (none_true a ls)
  where
    go : (t : Bool) → is_true a l ≡ t → t || any_true a ls ≡ false → (x ≡ l) ⊎ (elem x ls ≡ true) → (any_true a ls ≡ false → (x : ℕ) → elem x ls ≡ true → is_true a x ≡ false) → is_true a x ≡ false
    go true p q c r = absurd (true≢false q)
    go false p q (inl z) r = ap (is_true a) z ∙ p
    go false p q (inr z) r = r q x z

none_false : (a ls : List ℕ) (x : ℕ) → elem x (unfalsified a ls) ≡ true → is_false a x ≡ false
unfolding unfalsified
none_false a [] x e = absurd (elem_none x e)
none_false a (l ∷ ls) x e = go (is_false a l) refl e (none_false a ls x)
  where
    go : (t : Bool) → is_false a l ≡ t → elem x (cond t (unfalsified a ls) (l ∷ unfalsified a ls)) ≡ true → (elem x (unfalsified a ls) ≡ true → is_false a x ≡ false) → is_false a x ≡ false
    go true p q r = r q
    go false p q r = ⊎_elim (λ z. ap (is_false a) z ∙ p) r (elem_cases x l (unfalsified a ls) q)

-- what is left where none is true
pub left_open : (a ls : List ℕ) → any_true a ls ≡ false → OpenLits a (unfalsified a ls)
left_open a ls n x e = go (is_true a x) (is_open a x) (none_true a ls n x (left_within a ls x e)) (none_false a ls x e)
  where
    go : (s t : Bool) → s ≡ false → not (s || t) ≡ false → t ≡ true
    go true t p q = absurd (true≢false p)
    go false true p q = refl
    go false false p q = absurd (true≢false q)

-- nothing was left out
pub left_whole : (a ls : List ℕ) → length (unfalsified a ls) ≡ length ls → unfalsified a ls ≡ ls
unfolding unfalsified
left_whole a [] n = refl
left_whole a (l ∷ ls) n = go (is_false a l) n (left_whole a ls)
  where
    go : (t : Bool) → length (cond t (unfalsified a ls) (l ∷ unfalsified a ls)) ≡ suc (length ls) → (length (unfalsified a ls) ≡ length ls → unfalsified a ls ≡ ls) → cond t (unfalsified a ls) (l ∷ unfalsified a ls) ≡ l ∷ ls
    go true q r = absurd (let h = length_unfalsified a ls in omega arith)
    go false q r = ap (λ (x : List ℕ). l ∷ x) (r (omega arith))

-- ---- clauses

pub open_append : (a : List ℕ) (cs ds : List Clause) → AllOpen a cs → AllOpen a ds → AllOpen a (cs ++ ds)
open_append a [] ds f g = g
open_append a (c ∷ cs) ds (h, f) g = (h, open_append a cs ds f g)

-- ---- rows

pub neg_open : (a : List ℕ) (l : ℕ) → is_open a (neg l) ≡ is_open a l
neg_open a l = let v : var_of (neg l) ≡ var_of l = omega arith in rw v

module _ (a : List ℕ) where
  push_open : (k x : ℕ) (rows : List (List ℕ)) → stays_in a k x ≡ true → RowsOpen a rows → RowsOpen a (push k x rows)
  push_open k x rows f o r b e = go (ℕ_discrete r k) (dec_le (length rows) k)
    where
      snoc_cases : (l : List ℕ) → elem b (l ++ (x ∷ [])) ≡ true → (elem b l ≡ true) ⊎ (b ≡ x)
      snoc_cases [] q = ⊎_elim (λ z. inr z) (λ z. absurd (elem_none b z)) (elem_cases b x [] q)
      snoc_cases (y ∷ l) q = ⊎_elim (λ z. inl (subst (λ (t : ℕ). elem t (y ∷ l) ≡ true) (sym z) (elem_here y l))) (λ z. ⊎_elim (λ u. inl (elem_later b y l u)) (λ u. inr u) (snoc_cases l z)) (elem_cases b y (l ++ (x ∷ [])) q)

      go : Dec (r ≡ k) → Dec (length rows ≤ k) → stays_in a r b ≡ true
      go (no n) d = o r b (subst (λ (l : List ℕ). elem b l ≡ true) (get_or-set_other rows k r (snoc (list_at rows k) x) [] n) e)
      go (yes q) (yes h) = o r b (subst (λ (l : List (List ℕ)). elem b (list_at l r) ≡ true) (set_out rows k (snoc (list_at rows k) x) h) e)
      go (yes q) (no h) =
          ⊎_elim
          (λ z. o r b (subst (λ (t : ℕ). elem b (list_at rows t) ≡ true) (sym q) z))
          (λ z. subst (λ (t : ℕ). stays_in a t b ≡ true) (sym q) (subst (λ (t : ℕ). stays_in a k t ≡ true) (sym z) f))
          (snoc_cases (list_at rows k) (subst (λ (l : List ℕ). elem b l ≡ true) (get_or-set_same rows k (snoc (list_at rows k) x) [] (omega arith)) (subst (λ (t : ℕ). elem b (list_at (push k x rows) t) ≡ true) q e)))

  pub pushed_open : (x y : ℕ) (rows : List (List ℕ)) → is_open a x ≡ true → is_open a y ≡ true → RowsOpen a rows → RowsOpen a (pair_pushed x y rows)
  pushed_open x y rows f g o =
      push_open (neg y) x (push (neg x) y rows) (and_both _ _ (neg_open a y ∙ g) f) (push_open (neg x) y rows (and_both _ _ (neg_open a x ∙ f) g) o)

  row_open : (r : ℕ) (row : List ℕ) (b : ℕ) → elem b (row_cleaned a r row) ≡ true → stays_in a r b ≡ true
  unfolding row_cleaned
  row_open r [] b e = absurd (elem_none b e)
  row_open r (x ∷ row) b e = go (stays_in a r x) refl e (row_open r row b)
    where
      go : (t : Bool) → stays_in a r x ≡ t → elem b (cond t (x ∷ row_cleaned a r row) (row_cleaned a r row)) ≡ true → (elem b (row_cleaned a r row) ≡ true → stays_in a r b ≡ true) → stays_in a r b ≡ true
      go true p q f = ⊎_elim (λ z. ap (stays_in a r) z ∙ p) f (elem_cases b x (row_cleaned a r row) q)
      go false p q f = f q

  rows_open : (k : ℕ) (rows : List (List ℕ)) (r b : ℕ) → elem b (list_at (rows_cleaned a k rows) r) ≡ true → stays_in a (k + r) b ≡ true
  unfolding rows_cleaned
  rows_open k [] r b e = absurd (elem_none b e)
  rows_open k (row ∷ rows) zero b e = subst (λ (t : ℕ). stays_in a t b ≡ true) (sym (add-zero k)) (row_open k row b e)
  rows_open k (row ∷ rows) (suc r) b e = subst (λ (t : ℕ). stays_in a t b ≡ true) (let q : suc k + r ≡ k + suc r = omega arith in q) (rows_open (suc k) rows r b e)

  pub cleaned_open : (rows : List (List ℕ)) → RowsOpen a (rows_cleaned a 0 rows)
  cleaned_open rows r b e = subst (λ (t : ℕ). stays_in a t b ≡ true) (let q : 0 + r ≡ r = omega arith in q) (rows_open 0 rows r b e)

  two_open : (r b : ℕ) → stays_in a r b ≡ true → OpenLits a (neg r ∷ b ∷ [])
  two_open r b f x e =
      ⊎_elim
      (λ z. ap (is_open a) z ∙ neg_open a r ∙ and_left _ _ f)
      (λ z. ⊎_elim (λ u. ap (is_open a) u ∙ and_right (is_open a r) _ f) (λ u. absurd (elem_none x u)) (elem_cases x b [] z))
      (elem_cases x (neg r) (b ∷ []) e)

  in_open : (r : ℕ) (row : List ℕ) → ((b : ℕ) → elem b row ≡ true → stays_in a r b ≡ true) → AllOpen a (pairs_in r row)
  unfolding pairs_in
  in_open r [] f = tt
  in_open r (b ∷ row) f = go (ltb (neg r) b) (in_open r row (λ x e. f x (elem_later x b row e)))
    where
      go : (t : Bool) → AllOpen a (pairs_in r row) → AllOpen a (cond t (pair (neg r) b ∷ pairs_in r row) (pairs_in r row))
      go true g = (two_open r b (f b (elem_here b row)), g)
      go false g = g

  all_open : (k : ℕ) (rows : List (List ℕ)) → ((r b : ℕ) → elem b (list_at rows r) ≡ true → stays_in a (k + r) b ≡ true) → AllOpen a (pairs k rows)
  unfolding pairs
  all_open k [] f = tt
  all_open k (row ∷ rows) f =
      open_append a (pairs_in k row) (pairs (suc k) rows)
      (in_open k row (λ b e. subst (λ (t : ℕ). stays_in a t b ≡ true) (add-zero k) (f 0 b e)))
      (all_open (suc k) rows (λ r b e. subst (λ (t : ℕ). stays_in a t b ≡ true) (let q : k + suc r ≡ suc k + r = omega arith in q) (f (suc r) b e)))

  pub pairs_open : (rows : List (List ℕ)) → RowsOpen a rows → AllOpen a (pairs 0 rows)
  pairs_open rows o = all_open 0 rows (λ r b e. subst (λ (t : ℕ). stays_in a t b ≡ true) (let q : r ≡ 0 + r = omega arith in q) (o r b e))
