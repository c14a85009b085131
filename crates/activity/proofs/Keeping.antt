-- Entries that stay when deleted ones leave a list, one turn at a time. Assumes nothing.
use mathlib.Core.Path.{◌≡◌, refl, sym, ap, ◌∙◌}
use mathlib.Core.List.{List, [], ◌∷◌, ◌++◌, append_assoc, append-nil}
use mathlib.Core.Bool.{true, false}
use Prim.Native.Nat.{ℕ, ◌+◌, ◌-◌, ◌≤◌, ◌<◌}
use native.Mathlib.Numerals.{add-one}
use native.Mathlib.Omega.{arith}
use lib.ListN.{length, set, take, drop, replicate, length-append, drop_of_length-le}
use lib.Seq.{drop-cons, drop_at, drop-set-lt, take-suc-set, sets, length-take-le}
use Rattle.std.proofs.lemmas.List.{take-append-le}
use Rattle.laws.specs.Lists.{at, fill}
use Rattle.laws.proofs.Walks.{drop_more, at_more}
use Rattle.laws.proofs.Filling.{fill_cleared}
use Rattle.kinds.specs.Clauses.{deleted_at, undeleted}

-- the first k of l stay, of m those from i on are not judged yet
pub record Kept (ws m l : List ℕ) (i k : ℕ) : Type 0 where
  pub few : k ≤ i
  pub rest : drop i l ≡ drop i m
  pub done : take k l ++ undeleted ws (drop i m) ≡ undeleted ws m

pub kept_none : (ws m : List ℕ) → Kept ws m m 0 0
kept_none ws m = record { few = omega arith; rest = refl; done = refl }

module _ {ws m l : List ℕ} {i k : ℕ} (K : Kept ws m l i k) (same : length l ≡ length m) (h : i < length m) where
  pub entry_is : at l i ≡ at m i
  entry_is = at_more i i l m (omega arith) K.rest

  todo : drop i m ≡ at l i ∷ drop (i + 1) m
  todo = rw (add-one, entry_is, drop-cons m i 0 h)

  pub kept_dropped : deleted_at ws (at l i) ≡ true → Kept ws m l (i + 1) k
  unfolding undeleted
  kept_dropped d = record {
    few = omega (arith, K.few);
    rest = drop_more i (i + 1) l m (omega arith) K.rest;
    done = let e = rw todo at K.done in rw d at e;
  }

  pub kept_more : deleted_at ws (at l i) ≡ false → Kept ws m (set l k (at l i)) (i + 1) (k + 1)
  unfolding undeleted
  kept_more d = record {
    few = omega (arith, K.few);
    rest = drop-set-lt (i + 1) l k (at l i) (omega (arith, K.few)) ∙ drop_more i (i + 1) l m (omega arith) K.rest;
    done =
        let e = rw todo at K.done in
        let put : take (k + 1) (set l k (at l i)) ≡ take k l ++ (at l i ∷ []) = rw add-one (take-suc-set l k (at l i) (omega (arith, K.few))) in
        rw (put, append_assoc) (rw d at e);
  }

pub kept_all : {ws m l : List ℕ} {i k : ℕ} → Kept ws m l i k → length m ≤ i → take k l ≡ undeleted ws m
unfolding undeleted
kept_all {ws} {m} {l} {i} {k} K h =
    let e = rw (drop_of_length-le m {i = i} h) at K.done in
    sym (append-nil (take k l)) ∙ e

-- the entries that stay were moved to the front of the first n, and what they gave up was cleared
pub dropped : (ws clauses now : List ℕ) (n r : ℕ) → n ≤ length clauses → length now ≡ length (take n clauses) → r ≤ length (take n clauses) → take r now ≡ undeleted ws (take n clauses)
    → (sets (now ++ drop n clauses) r (replicate (n - r) 0) ≡ fill clauses n (undeleted ws (take n clauses))) × (r ≡ length (undeleted ws (take n clauses)))
dropped ws clauses now n r h e few front =
    let all : length now ≡ n = e ∙ length-take-le n clauses h in
    let r_in : r ≤ length now = omega arith in
    let kept : take r (now ++ drop n clauses) ≡ undeleted ws (take n clauses) = rw take-append-le front in (
      fill_cleared clauses (now ++ drop n clauses) n r (omega arith) (omega (arith, length-append now (drop n clauses))) (drop_at now (drop n clauses) n all) ∙ ap (fill clauses n) kept,
      sym (length-take-le r now r_in) ∙ ap length front,
    )
