-- What holds while the reasons follow, clause by clause. Assumes nothing.
use mathlib.Core.Path.{◌≡◌, refl, sym, ap, ◌∙◌, subst}
use mathlib.Core.Bool.{Bool, true, false, not, cond}
use mathlib.Core.List.{List, [], ◌∷◌}
use Prim.Native.Nat.{ℕ, ◌+◌, ◌*◌, ◌≤◌, ◌<◌}
use native.Mathlib.Omega.{arith}
use lib.ListN.{length, set, drop, drop_of_length-le, length-set}
use native.Mathlib.Numerals.{add-one}
use lib.Seq.{drop-cons}
use Rattle.laws.specs.Lists.{at}
use Rattle.laws.proofs.Folds.{all_at}
use Rattle.kinds.specs.Clauses.{len_at, first_at, size_at, end_at, deleted_at, var_of}
use Rattle.calls.specs.StorePasses.{live_at, clause_ok, clause_ok_at, clauses_ok}
use Rattle.calls.proofs.Readings.{unless, LiveClause, clause_read}
use Rattle.close_up.specs.Reasons.{asserted_by, redirected, redirected_all}
use Rattle.close_up.proofs.Laying.{Laid, laid_le}

-- a listed live clause passes
live_clause : (w : List ℕ) (v : ℕ) (l : List ℕ) (n : ℕ) → clauses_ok w v l n ≡ true → (i : ℕ) → i < n → deleted_at w (at l i) ≡ false → LiveClause w v (at l i)
unfolding clauses_ok clause_ok_at live_at
live_clause w v l n e i h d = clause_read w v (at l i) (unless (not (deleted_at w (at l i))) (clause_ok w v (at l i)) (all_at (clause_ok_at w v l) n e i h) (ap not d))

pub length_redirected : (values kinds reasons : List ℕ) (l o p : ℕ) → length (redirected values kinds reasons l o p) ≡ length reasons
unfolding redirected
length_redirected values kinds reasons l o p = go (asserted_by values kinds reasons l o)
  where
    go : (b : Bool) → length (cond b (set reasons (var_of l) p) reasons) ≡ length reasons
    go true = length-set reasons (var_of l) p
    go false = refl

module _ (ws values kinds : List ℕ) where
  pub all_live : (p o : ℕ) (os rs : List ℕ) → deleted_at ws o ≡ false → redirected_all ws values kinds p (o ∷ os) rs ≡ redirected_all ws values kinds (p + size_at ws o) os (redirected values kinds rs (first_at ws o) o p)
  unfolding redirected_all
  all_live p o os rs e = ap (λ (b : Bool). cond b (redirected_all ws values kinds p os rs) (redirected_all ws values kinds (p + size_at ws o) os (redirected values kinds rs (first_at ws o) o p))) e

  pub all_deleted : (p o : ℕ) (os rs : List ℕ) → deleted_at ws o ≡ true → redirected_all ws values kinds p (o ∷ os) rs ≡ redirected_all ws values kinds p os rs
  unfolding redirected_all
  all_deleted p o os rs e = ap (λ (b : Bool). cond b (redirected_all ws values kinds p os rs) (redirected_all ws values kinds (p + size_at ws o) os (redirected values kinds rs (first_at ws o) o p))) e

  pub all_none : (p : ℕ) (rs : List ℕ) → redirected_all ws values kinds p [] rs ≡ rs
  unfolding redirected_all
  all_none p rs = refl

pub record Following (ws : List ℕ) (used : ℕ) (os values kinds rs₀ rs : List ℕ) (i to : ℕ) : Type 0 where
  -- where the clause list has got to in the words
  pub p : ℕ
  pub to_le : to ≤ p
  pub same : length rs ≡ length rs₀
  pub laid : Laid ws used p (drop i os)
  pub done : redirected_all ws values kinds to (drop i os) rs ≡ redirected_all ws values kinds 0 os rs₀

-- what a turn knows of the clause at o
pub record Reached (ws : List ℕ) (used v to o : ℕ) : Type 0 where
  pub low : to ≤ o
  pub end : end_at ws o ≤ used
  pub three : deleted_at ws o ≡ false → 3 ≤ len_at ws o
  pub first : deleted_at ws o ≡ false → first_at ws o < 2 * v

pub follow_start : (ws : List ℕ) (used : ℕ) (os values kinds rs : List ℕ) → Laid ws used 0 os → Following ws used os values kinds rs rs 0 0
follow_start ws used os values kinds rs l = record { p = 0; to_le = omega arith; same = refl; laid = l; done = refl }

module _ {ws : List ℕ} {used : ℕ} {os values kinds rs₀ rs : List ℕ} {i to : ℕ} (I : Following ws used os values kinds rs₀ rs i to) where
  module _ (lt : i < length os) where
    abbrev o : ℕ
    o = at os i

    abbrev rest : List ℕ
    rest = drop (i + 1) os

    todo : drop i os ≡ o ∷ rest
    todo = rw add-one (drop-cons os i 0 lt)

    laid_next : (I.p ≤ o) × Laid ws used (end_at ws o) rest
    unfolding Laid
    laid_next = rw todo at I.laid

    pub reached : (v n : ℕ) → length os ≡ n → clauses_ok ws v os n ≡ true → Reached ws used v to o
    reached v n e ok = record {
      low = let a = laid_next.0 in let b = I.to_le in omega arith;
      end = laid_le ws used (end_at ws o) rest laid_next.1;
      three = λ d. (clause d).three;
      first = λ d. let c = clause d in let t = c.three in subst (λ (x : ℕ). at ws x < 2 * v) (let z : o + 3 + 0 ≡ o + 3 = omega arith in z) (c.lits.below 0 (omega arith));
    }
      where
        clause : deleted_at ws o ≡ false → LiveClause ws v o
        clause = live_clause ws v os n ok i (omega arith)

    pub follow_deleted : deleted_at ws o ≡ true → Following ws used os values kinds rs₀ rs (i + 1) to
    follow_deleted d = record {
      p = end_at ws o;
      to_le = let a = laid_next.0 in let b = I.to_le in omega arith;
      same = I.same;
      laid = laid_next.1;
      done = sym (ap (λ (l : List ℕ). redirected_all ws values kinds to l rs) todo ∙ all_deleted ws values kinds to o rest rs d) ∙ I.done;
    }

    pub follow_live : deleted_at ws o ≡ false → Following ws used os values kinds rs₀ (redirected values kinds rs (first_at ws o) o to) (i + 1) (to + size_at ws o)
    follow_live d = record {
      p = end_at ws o;
      to_le = let a = laid_next.0 in let b = I.to_le in omega arith;
      same = length_redirected values kinds rs (first_at ws o) o to ∙ I.same;
      laid = laid_next.1;
      done = sym (ap (λ (l : List ℕ). redirected_all ws values kinds to l rs) todo ∙ all_live ws values kinds to o rest rs d) ∙ I.done;
    }

  pub follow_end : length os ≤ i → rs ≡ redirected_all ws values kinds 0 os rs₀
  follow_end end = sym (ap (λ (l : List ℕ). redirected_all ws values kinds to l rs) (drop_of_length-le os {i = i} end) ∙ all_none ws values kinds to rs) ∙ I.done
