-- Literals read one by one under an assignment, and those of them that are not false. Assumes nothing.
use mathlib.Core.Path.{◌≡◌, refl, sym, ap, ◌∙◌}
use mathlib.Core.Bool.{Bool, true, false, cond}
use mathlib.Core.List.{List, [], ◌∷◌}
use Prim.Native.Nat.{ℕ, zero, suc, ◌+◌, ◌≤◌, ◌<◌}
use native.Mathlib.Omega.{arith}
use native.Mathlib.Nat.{add-zero, add-suc, suc-add}
use lib.ListN.{length, set, drop, length-set, drop_of_length-le}
use lib.Seq.{sets, drop-cons}
use native.Mathlib.Numerals.{add-one}
use lib.Dec.{eqb}
use borrow.Author.Tests.{eq-eqb, ne_eqb, eqb-true, eqb-false}
use Rattle.laws.specs.Lists.{at, read_n}
use Rattle.kinds.specs.Held.{is_true, is_false, value_of}
use Rattle.kinds.specs.declared.LitValue.{LitValue}
use Rattle.kinds.specs.declared.LitValue.TheVariants.{True, False, Unassigned}
use Rattle.kinds.specs.declared.Verdict.{Verdict}
use Rattle.kinds.specs.declared.Verdict.TheVariants.{Satisfied, Same, Shorter}
use Rattle.kinds.proofs.Told.{told_true, told_open, told_false, told_not_false}
use Rattle.calls.specs.Simplifying.{any_true, unfalsified, verdict_of}

-- ---- those that are not false
pub unfalsified_length : (a ls : List ℕ) → length (unfalsified a ls) ≤ length ls
unfolding unfalsified
unfalsified_length a [] = omega arith
unfalsified_length a (l ∷ ls) = go (is_false a l) (unfalsified_length a ls)
  where
    go : (b : Bool) → length (unfalsified a ls) ≤ length ls → length (cond b (unfalsified a ls) (l ∷ unfalsified a ls)) ≤ suc (length ls)
    go true h = omega arith
    go false h = omega arith

-- what holds of all literals read holds of them
pub unfalsified_in : (P : ℕ → Type 0) (a ws : List ℕ) (o n : ℕ) → ((p : ℕ) → p < n → P (at ws (o + p))) → (q : ℕ) → q < length (unfalsified a (read_n ws o n)) → P (at (unfalsified a (read_n ws o n)) q)
unfolding unfalsified read_n
unfalsified_in P a ws o zero f q h = absurd (omega arith)
unfalsified_in P a ws o (suc n) f q h = go (unfalsified_in P a ws (suc o) n (λ p g. rw (suc-add, ← add-suc) (f (suc p) (omega arith)))) (is_false a (at ws o)) q h
  where
    go : ((q : ℕ) → q < length (unfalsified a (read_n ws (suc o) n)) → P (at (unfalsified a (read_n ws (suc o) n)) q))
        → (b : Bool) (q : ℕ) → q < length (cond b (unfalsified a (read_n ws (suc o) n)) (at ws o ∷ unfalsified a (read_n ws (suc o) n))) → P (at (cond b (unfalsified a (read_n ws (suc o) n)) (at ws o ∷ unfalsified a (read_n ws (suc o) n))) q)
    go more true q g = more q g
    go more false zero g = simp add-zero at (f 0 (omega arith))
    go more false (suc q) g = more q (omega arith)

open_not_false : Unassigned ≡ False → ⊥
open_not_false e = let z : ◌≡◌ {A = ℕ} 0 1 = cc in absurd (omega arith)

-- ---- one literal more of those that are left to read
module _ (a ls : List ℕ) (j : ℕ) (h : j < length ls) {v : LitValue} (e : v ≡ value_of a (at ls j)) where
  next : drop j ls ≡ at ls j ∷ drop (j + 1) ls
  next = rw add-one (drop-cons ls j 0 h)

  next_dropped : v ≡ False → unfalsified a (drop j ls) ≡ unfalsified a (drop (j + 1) ls)
  unfolding unfalsified
  next_dropped t = let b = told_false a (at ls j) e t in rw (next, b.0, b.1)

  next_kept : (v ≡ False → ⊥) → unfalsified a (drop j ls) ≡ at ls j ∷ unfalsified a (drop (j + 1) ls)
  unfolding unfalsified
  next_kept f = rw (next, told_not_false a (at ls j) e f)

  next_untrue : is_true a (at ls j) ≡ false → any_true a (drop j ls) ≡ any_true a (drop (j + 1) ls)
  unfolding any_true
  next_untrue f = rw (next, f)

  next_true : v ≡ True → any_true a (drop j ls) ≡ true
  unfolding any_true
  next_true t = rw (next, told_true a (at ls j) e t)

-- ---- the literal loop: j literals are read, none is true, and `kept` of them are not false
pub record Reading (a ls : List ℕ) (j kept : ℕ) : Type 0 where
  pub few : kept ≤ j
  pub true_is : any_true a (drop j ls) ≡ any_true a ls
  pub kept_is : kept + length (unfalsified a (drop j ls)) ≡ length (unfalsified a ls)

module _ {a ls : List ℕ} {j kept : ℕ} (R : Reading a ls j kept) where
  module _ (h : j < length ls) {v : LitValue} (e : v ≡ value_of a (at ls j)) where
    pub reading_drop : v ≡ False → Reading a ls (j + 1) kept
    reading_drop t = record {
      few = omega (arith, R.few);
      true_is = rw (next_untrue a ls j h e (told_false a (at ls j) e t).0) at R.true_is;
      kept_is = rw (next_dropped a ls j h e t) at R.kept_is;
    }

    pub reading_keep : v ≡ Unassigned → Reading a ls (j + 1) (kept + 1)
    reading_keep t = record {
      few = omega (arith, R.few);
      true_is = rw (next_untrue a ls j h e (told_open a (at ls j) e t).0) at R.true_is;
      kept_is = omega (arith, rw (next_kept a ls j h e (λ f. open_not_false (sym t ∙ f))) at R.kept_is);
    }

    pub told_satisfied : v ≡ True → Satisfied ≡ verdict_of a ls
    unfolding verdict_of
    told_satisfied t = rw (sym R.true_is ∙ next_true a ls j h e t)

  -- all are read
  module _ (h : length ls ≤ j) where
    none : drop j ls ≡ []
    none = drop_of_length-le ls h

    no_true : any_true a ls ≡ false
    unfolding any_true
    no_true = sym R.true_is ∙ rw none

    all_kept : kept ≡ length (unfalsified a ls)
    unfolding unfalsified
    all_kept = omega (arith, rw none at R.kept_is)

    pub told_same : kept ≡ length ls → Same ≡ verdict_of a ls
    unfolding verdict_of
    told_same q = rw (no_true, eq-eqb (length (unfalsified a ls)) (length ls) (omega (arith, all_kept)))

    pub told_shorter : (kept ≡ length ls → ⊥) → Shorter kept ≡ verdict_of a ls
    unfolding verdict_of
    told_shorter q = rw (no_true, ne_eqb (length (unfalsified a ls)) (length ls) (λ z. q (all_kept ∙ z))) (ap Shorter all_kept)

-- ---- the loop that copies those that are not false: i literals are read
pub record Copied (a ls to₀ : List ℕ) (place₀ i place : ℕ) (to : List ℕ) : Type 0 where
  pub room : place + length (unfalsified a (drop i ls)) ≤ length to
  pub told : sets to place (unfalsified a (drop i ls)) ≡ sets to₀ place₀ (unfalsified a ls)

module _ {a ls to₀ : List ℕ} {place₀ i place : ℕ} {to : List ℕ} (C : Copied a ls to₀ place₀ i place to) where
  module _ (h : i < length ls) {v : LitValue} (e : v ≡ value_of a (at ls i)) where
    pub copied_skip : v ≡ False → Copied a ls to₀ place₀ (i + 1) place to
    copied_skip t = let n = next_dropped a ls i h e t in record { room = rw n at C.room; told = rw n at C.told }

    pub copied_room : (v ≡ False → ⊥) → place < length to
    copied_room f = omega (arith, rw (next_kept a ls i h e f) at C.room)

    pub copied_next : (v ≡ False → ⊥) → Copied a ls to₀ place₀ (i + 1) (place + 1) (set to place (at ls i))
    copied_next f = let n = next_kept a ls i h e f in record { room = simp length-set (omega (arith, rw n at C.room)); told = rw add-one (rw n at C.told) }

  pub copied_end : length ls ≤ i → to ≡ sets to₀ place₀ (unfalsified a ls)
  unfolding unfalsified
  copied_end h = let none : drop i ls ≡ [] = drop_of_length-le ls h in rw none at C.told

-- ---- what a verdict says
-- what is left where two arms took the others
pub verdict_left : (v : Verdict) → ((m : ℕ) → v ≡ Shorter m → ⊥) → (v ≡ Same → ⊥) → v ≡ Satisfied
verdict_left Satisfied h g = refl
verdict_left Same h g = absurd (g refl)
verdict_left (Shorter m) h g = absurd (h m refl)

module _ (a ls : List ℕ) {v : Verdict} (e : v ≡ verdict_of a ls) where
  pub is_satisfied : v ≡ Satisfied → any_true a ls ≡ true
  unfolding verdict_of
  is_satisfied q = go (any_true a ls) (eqb (length (unfalsified a ls)) (length ls)) (length (unfalsified a ls)) (sym e ∙ q)
    where
      go : (t s : Bool) (m : ℕ) → cond t Satisfied (cond s Same (Shorter m)) ≡ Satisfied → t ≡ true
      go true s m q = refl
      go false true m q = cc
      go false false m q = cc

  pub is_same : v ≡ Same → (any_true a ls ≡ false) × (length (unfalsified a ls) ≡ length ls)
  unfolding verdict_of
  is_same q = let b = go (any_true a ls) (eqb (length (unfalsified a ls)) (length ls)) (length (unfalsified a ls)) (sym e ∙ q) in (b.0, eqb-true (length (unfalsified a ls)) (length ls) b.1)
    where
      go : (t s : Bool) (m : ℕ) → cond t Satisfied (cond s Same (Shorter m)) ≡ Same → (t ≡ false) × (s ≡ true)
      go true s m q = (cc, cc)
      go false true m q = (refl, refl)
      go false false m q = (cc, cc)

  pub is_shorter : (n : ℕ) → v ≡ Shorter n → (any_true a ls ≡ false) × (n ≡ length (unfalsified a ls)) × (n ≡ length ls → ⊥)
  unfolding verdict_of
  is_shorter n q =
      let b = go (any_true a ls) (eqb (length (unfalsified a ls)) (length ls)) (length (unfalsified a ls)) (sym e ∙ q) in
      (b.0, b.2, λ z. eqb-false (length (unfalsified a ls)) (length ls) b.1 (sym b.2 ∙ z))
    where
      go : (t s : Bool) (m : ℕ) → cond t Satisfied (cond s Same (Shorter m)) ≡ Shorter n → (t ≡ false) × (s ≡ false) × (n ≡ m)
      go true s m q = (cc, cc, cc)
      go false true m q = (cc, cc, cc)
      go false false m q = (refl, refl, cc)
