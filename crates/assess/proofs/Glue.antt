-- Levels met so far, marked in an array: one turn at a time. Assumes nothing.
use mathlib.Core.Path.{◌≡◌, refl, sym, ap, ap₂, ◌∙◌, subst}
use mathlib.Core.Bool.{Bool, false, not, ◌&&◌}
use mathlib.Core.List.{List}
use Prim.Native.Nat.{ℕ, zero, suc, ◌+◌, ◌-◌, ◌≤◌, ◌<◌}
use native.Mathlib.Decide.{ℕ_discrete}
use native.Mathlib.Numerals.{add-one}
use native.Mathlib.Omega.{arith}
use lib.Dec.{eqb}
use lib.ListN.{length, set, replicate, length-set, length-replicate, get_or-replicate}
use lib.Seq.{get_or-set_same, get_or-set_other}
use borrow.Author.Tests.{eq-eqb, ne_eqb}
use Rattle.laws.specs.Fold.{all_below, one, count_below}
use Rattle.laws.specs.Lists.{at}
use Rattle.laws.proofs.Folds.{and_fails_right, count_more}
use Rattle.laws.proofs.Tests.{and_true}
use Rattle.calls.specs.Bumping.{level_of, level_apart, level_new, glue_for}
use Rattle.calls.specs.Outcome.{assessed}
use Rattle.kinds.specs.Header.{saturated}

module _ (levels lits : List ℕ) where
  -- the level of literal k is not x
  unfoldable pub other : ℕ → ℕ → Bool
  other x k = not (eqb (level_of levels lits k) x)

  -- the levels of the first i literals are marked, and no others
  pub record Marked (seen : List ℕ) (i : ℕ) : Type 0 where
    pub long : length seen ≡ 65537
    pub marks : (x : ℕ) → x < 65537 → eqb (at seen x) 0 ≡ all_below (other x) i

  pub marked_none : Marked (replicate 65537 0) 0
  unfolding all_below
  marked_none = record {
    long = length-replicate {A = ℕ} 65537 0;
    marks = λ x h. ap (λ (v : ℕ). eqb v 0) (get_or-replicate {A = ℕ} 65537 x 0 0 h) ∙ eq-eqb 0 0 refl;
  }

  other_more : (x i : ℕ) → all_below (other x) (i + 1) ≡ all_below (other x) i && not (eqb (level_of levels lits i) x)
  unfolding all_below other
  other_more x i = rw add-one

  pub new_level : (i : ℕ) → level_new levels lits i ≡ all_below (other (level_of levels lits i)) i
  unfolding level_new level_apart other
  new_level i = refl

  -- another level's mark is as it was
  beside : (x i : ℕ) → (level_of levels lits i ≡ x → ⊥) → all_below (other x) (i + 1) ≡ all_below (other x) i
  beside x i n = other_more x i ∙ ap (λ (b : Bool). all_below (other x) i && not b) (ne_eqb (level_of levels lits i) x n) ∙ and_true _

  met : (x i : ℕ) → level_of levels lits i ≡ x → all_below (other x) (i + 1) ≡ false
  met x i e = other_more x i ∙ and_fails_right (all_below (other x) i) _ (ap not (eq-eqb (level_of levels lits i) x e))

  module _ (seen : List ℕ) (i : ℕ) (m : Marked seen i) (low : level_of levels lits i ≤ 65536) where
    abbrev here : ℕ
    here = level_of levels lits i

    found : level_new levels lits i ≡ eqb (at seen here) 0
    found = new_level i ∙ sym (m.marks here (omega arith))

    -- a new level: marked, and counted
    pub marked_new : at seen (level_of levels lits i) ≡ 0 → Marked (set seen (level_of levels lits i) 1) (i + 1)
    marked_new e = record {
      long = length-set seen here 1 ∙ m.long;
      marks = λ x h. go x h (ℕ_discrete here x);
    }
      where
        go : (x : ℕ) → x < 65537 → Dec (here ≡ x) → eqb (at (set seen here 1) x) 0 ≡ all_below (other x) (i + 1)
        go x h (yes q) =
            let l = m.long in
            ap (λ (v : ℕ). eqb v 0) (ap (at (set seen here 1)) (sym q) ∙ get_or-set_same seen here 1 0 (omega arith)) ∙ ne_eqb 1 0 (λ z. omega arith) ∙ sym (met x i q)
        go x h (no n) = ap (λ (v : ℕ). eqb v 0) (get_or-set_other seen here x 1 0 (λ z. n (sym z))) ∙ m.marks x h ∙ sym (beside x i n)

    pub counted_new : at seen (level_of levels lits i) ≡ 0 → count_below (level_new levels lits) i + 1 ≡ count_below (level_new levels lits) (i + 1)
    counted_new e = sym (count_more (level_new levels lits) i ∙ ap (λ (b : Bool). count_below (level_new levels lits) i + one b) (found ∙ eq-eqb (at seen here) 0 e))

    -- a level met before
    pub marked_old : (at seen (level_of levels lits i) ≡ 0 → ⊥) → Marked seen (i + 1)
    marked_old n = record { long = m.long; marks = λ x h. go x h (ℕ_discrete here x) }
      where
        go : (x : ℕ) → x < 65537 → Dec (here ≡ x) → eqb (at seen x) 0 ≡ all_below (other x) (i + 1)
        go x h (yes q) = ne_eqb (at seen x) 0 (λ z. n (ap (at seen) q ∙ z)) ∙ sym (met x i q)
        go x h (no d) = m.marks x h ∙ sym (beside x i d)

    pub counted_old : (at seen (level_of levels lits i) ≡ 0 → ⊥) → count_below (level_new levels lits) i ≡ count_below (level_new levels lits) (i + 1)
    counted_old n =
        let z : count_below (level_new levels lits) i + 0 ≡ count_below (level_new levels lits) i = omega arith in
        sym (count_more (level_new levels lits) i ∙ ap (λ (b : Bool). count_below (level_new levels lits) i + one b) (found ∙ ne_eqb (at seen here) 0 n) ∙ z)

  -- a clause has a level
  count_first : (n : ℕ) → 0 < count_below (level_new levels lits) (suc n)
  unfolding count_below level_new all_below
  count_first zero = omega arith
  count_first (suc n) = omega (arith, count_first n)

  pub glue_positive : 0 < length lits → 0 < glue_for levels lits
  unfolding glue_for
  glue_positive h =
      let e : length lits ≡ suc (length lits - 1) = omega arith in
      subst (λ (n : ℕ). 0 < count_below (level_new levels lits) n) (sym e) (count_first (length lits - 1))
