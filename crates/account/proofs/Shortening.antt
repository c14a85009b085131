-- What is left of a clause when its false literals are left out. Assumes nothing.
use mathlib.Core.Path.{◌≡◌, refl, sym, ◌∙◌, subst}
use mathlib.Core.Bool.{Bool, true, false, cond, ◌||◌, true≢false}
use mathlib.Core.List.{List, [], ◌∷◌}
use Prim.Native.Nat.{ℕ, zero, suc, ◌+◌, ◌-◌, ◌*◌, ◌≤◌, ◌<◌}
use native.Mathlib.Omega.{arith}
use native.Mathlib.Nat.{add-zero}
use lib.ListN.{length}
use lib.Dec.{eqb}
use borrow.Author.Tests.{eqb-true}
use Rattle.laws.specs.Lists.{at, read_n, elem}
use Rattle.laws.proofs.Writing.{get_d_read_n, length_read_n}
use Rattle.laws.proofs.Entries.{elem_here, elem_place}
use Rattle.kinds.specs.Clauses.{Clause, neg}
use Rattle.kinds.specs.Held.{is_false}
use Rattle.demands.specs.Demands.{OnlyFalseOut}
use Rattle.calls.specs.Simplifying.{unfalsified}
use Rattle.calls.proofs.Readings.{Lits}

-- different literals, whose negations are below n
abbrev pub Differ : ℕ → List ℕ → Type 0
Differ n [] = Unit {0}
Differ n (l ∷ ls) = (neg l < n) × (elem l ls ≡ false) × Differ n ls

abbrev pub AllDiffer : ℕ → List Clause → Type 0
AllDiffer n [] = Unit {0}
AllDiffer n (c ∷ cs) = Differ n c.lits × AllDiffer n cs

-- the judged literals of a live clause
pub read_differ : (w : List ℕ) (v s n : ℕ) → Lits w v s n → Differ (2 * v) (read_n w s n)
unfolding read_n
read_differ w v s zero r = tt
read_differ w v s (suc n) r =
    let f : at w s < 2 * v = rw add-zero at (r.below 0 (omega arith)) in (
      omega arith,
      go (elem (at w s) (read_n w (suc s) n)) refl,
      read_differ w v (suc s) n (record {
        below = λ j h. rw (← suc_add_one s j) (r.below (suc j) (omega arith));
        apart = λ j k h g q. r.apart (suc j) (suc k) (omega arith) (omega arith) (rw (suc_add_one, suc_add_one) q);
      }),
    )
  where
    suc_add_one : (a b : ℕ) → a + suc b ≡ suc a + b
    suc_add_one a b = omega arith

    go : (b : Bool) → elem (at w s) (read_n w (suc s) n) ≡ b → b ≡ false
    go false q = refl
    go true q =
        let p = elem_place (at w s) (read_n w (suc s) n) q in
        let k = length_read_n w (suc s) n in
        let e : at w (suc s + p.0) ≡ at w s = sym (get_d_read_n w (suc s) n p.0 (omega (arith, p.1))) ∙ p.2 in
        absurd (r.apart (suc p.0) 0 (omega (arith, p.1)) (omega arith) (rw (add-zero, suc_add_one s p.0, e)))

-- ---- the literals left

pub length_unfalsified : (a ls : List ℕ) → length (unfalsified a ls) ≤ length ls
unfolding unfalsified
length_unfalsified a [] = omega arith
length_unfalsified a (l ∷ ls) = go (is_false a l) (length_unfalsified a ls)
  where
    go : (b : Bool) → length (unfalsified a ls) ≤ length ls → length (cond b (unfalsified a ls) (l ∷ unfalsified a ls)) ≤ suc (length ls)
    go true h = omega arith
    go false h = omega arith

left_elem : (x : ℕ) (a ls : List ℕ) → elem x ls ≡ false → elem x (unfalsified a ls) ≡ false
unfolding unfalsified elem
left_elem x a [] h = refl
left_elem x a (l ∷ ls) h = go (eqb x l) refl h (is_false a l) (left_elem x a ls)
  where
    go : (e : Bool) → eqb x l ≡ e → (e || elem x ls) ≡ false → (b : Bool) → (elem x ls ≡ false → elem x (unfalsified a ls) ≡ false) → elem x (cond b (unfalsified a ls) (l ∷ unfalsified a ls)) ≡ false
    go true q h b r = absurd (true≢false h)
    go false q h true r = r h
    go false q h false r = rw q (r h)

pub left_differ : (n : ℕ) (a ls : List ℕ) → Differ n ls → Differ n (unfalsified a ls)
unfolding unfalsified
left_differ n a [] h = tt
left_differ n a (l ∷ ls) (h, k, r) = go (is_false a l) (left_differ n a ls r) (left_elem l a ls k)
  where
    go : (b : Bool) → Differ n (unfalsified a ls) → elem l (unfalsified a ls) ≡ false → Differ n (cond b (unfalsified a ls) (l ∷ unfalsified a ls))
    go true r e = r
    go false r e = (h, e, r)

pub left_within : (a ls : List ℕ) (x : ℕ) → elem x (unfalsified a ls) ≡ true → elem x ls ≡ true
unfolding unfalsified elem
left_within a [] x h = h
left_within a (l ∷ ls) x h = go (is_false a l) h (eqb x l) refl (left_within a ls x)
  where
    go : (b : Bool) → elem x (cond b (unfalsified a ls) (l ∷ unfalsified a ls)) ≡ true → (e : Bool) → eqb x l ≡ e → (elem x (unfalsified a ls) ≡ true → elem x ls ≡ true) → (e || elem x ls) ≡ true
    go b h true q r = refl
    go true h false q r = r h
    go false h false q r = r (rw q at h)

left_out : (a ls : List ℕ) (x : ℕ) → elem x ls ≡ true → elem x (unfalsified a ls) ≡ false → is_false a x ≡ true
unfolding unfalsified elem
left_out a [] x h k = absurd (true≢false (sym h))
left_out a (l ∷ ls) x h k = go (is_false a l) refl k (eqb x l) refl h (left_out a ls x)
  where
    go : (b : Bool) → is_false a l ≡ b → elem x (cond b (unfalsified a ls) (l ∷ unfalsified a ls)) ≡ false → (e : Bool) → eqb x l ≡ e → (e || elem x ls) ≡ true → (elem x ls ≡ true → elem x (unfalsified a ls) ≡ false → is_false a x ≡ true) → is_false a x ≡ true
    go true p k true q h r = rw (eqb-true x l q) p
    go true p k false q h r = r h k
    go false p k true q h r = let m : (true || elem x (unfalsified a ls)) ≡ false = rw q at k in absurd (true≢false m)
    go false p k false q h r = r h (rw q at k)

-- "with only literals false there left out"
pub only_false : (a ls : List ℕ) → OnlyFalseOut a (unfalsified a ls) ls
only_false a ls = record { within = left_within a ls; out = left_out a ls }

-- two literals that differ
pub two_differ : (n x y : ℕ) → Differ n (x ∷ y ∷ []) → (x ≡ y → ⊥) × (neg x < n) × (neg y < n)
two_differ n x y (h, e, (k, d, r)) = ((λ q. true≢false (sym (subst (λ (z : ℕ). elem z (y ∷ []) ≡ true) (sym q) (elem_here y [])) ∙ e)), h, k)
