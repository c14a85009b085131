-- Checks of which none is given: what a call that is not refused for 4 to 12 may take for granted. Assumes nothing.
use mathlib.Core.Path.{◌≡◌, refl, sym, ap, ◌∙◌}
use mathlib.Core.Bool.{Bool, true, false, cond, not, ◌&&◌, ◌||◌, true≢false}
use mathlib.Core.List.{List, [], ◌∷◌}
use Prim.Native.Nat.{ℕ, zero, suc, ◌*◌, ◌≤◌, ◌<◌}
use native.Mathlib.Omega.{arith}
use lib.ListN.{length}
use lib.Dec.{eqb, leb, ltb}
use borrow.Author.Tests.{leb-true, ltb-false, eqb-true, eqb-false}
use Rattle.laws.proofs.Folds.{and_left, and_right}
use Rattle.kinds.specs.Clauses.{is_live, deleted_at}
use Rattle.kinds.specs.Held.{Held}
use Rattle.calls.specs.Refusing.{Check, check, lowest, clause_wrong, literal_wrong, tier_wrong, not_live}
use Rattle.calls.specs.StorePasses.{lits_ok}
use Rattle.calls.proofs.Readings.{Lits, lits_read}

-- ---- the first check is not given, and neither are the others

pub first_not : (n : ℕ) (b : Bool) (cs : List Check) → (n ≡ 0 → ⊥) → lowest (check n b ∷ cs) ≡ 0 → b ≡ false
unfolding lowest
first_not n true cs h e = absurd (h e)
first_not n false cs h e = refl

pub others_not : (n : ℕ) (b : Bool) (cs : List Check) → (n ≡ 0 → ⊥) → lowest (check n b ∷ cs) ≡ 0 → lowest cs ≡ 0
unfolding lowest
others_not n true cs h e = absurd (h e)
others_not n false cs h e = e

-- in the code's terms: b is what a test gave
pub gives : (n : ℕ) (b : Bool) (cs : List Check) → b ≡ true → lowest (check n b ∷ cs) ≡ n
unfolding lowest
gives n b cs e = ap (λ (x : Bool). cond x n (lowest cs)) e

pub passes_on : (n : ℕ) (b : Bool) (cs : List Check) → b ≡ false → lowest (check n b ∷ cs) ≡ lowest cs
unfolding lowest
passes_on n b cs e = ap (λ (x : Bool). cond x n (lowest cs)) e

-- ---- tests

pub not_not : (b : Bool) → not b ≡ false → b ≡ true
not_not true e = refl
not_not false e = absurd (true≢false e)

pub neither_left : (a b : Bool) → a || b ≡ false → a ≡ false
neither_left true b e = e
neither_left false b e = refl

pub neither_right : (a b : Bool) → a || b ≡ false → b ≡ false
neither_right true b e = absurd (true≢false e)
neither_right false b e = e

-- ---- 4: a given clause is right

pub record Clause (v least most : ℕ) (ls : List ℕ) : Type 0 where
  pub low : least ≤ length ls
  pub high : length ls ≤ most
  pub lits : Lits ls v 0 (length ls)

pub clause_right : (v least most : ℕ) (ls : List ℕ) → clause_wrong v least most ls ≡ false → Clause v least most ls
unfolding clause_wrong
clause_right v least most ls e =
    let a = not_not _ e in
    let b = and_right (leb least (length ls)) _ a in
    record {
      low = leb-true least (length ls) (and_left _ _ a);
      high = leb-true (length ls) most (and_left _ _ b);
      lits = lits_read ls v 0 (length ls) (and_right (leb (length ls) most) _ b);
    }

pub literal_right : (v l : ℕ) → literal_wrong v l ≡ false → l < 2 * v
unfolding literal_wrong
literal_right v l e = borrow.Author.Tests.ltb-true l (2 * v) (not_not _ e)

-- ---- 5: a tier

pub tier_right : (t : ℕ) → tier_wrong t ≡ false → t < 4
unfolding tier_wrong
tier_right t e = let h = ltb-false 3 t e in omega arith

-- ---- 6: a live clause

pub live_right : (h : Held) (o : ℕ) → not_live h o ≡ false → is_live h.words h.clauses o ≡ true
unfolding not_live
live_right h o e = not_not _ e
