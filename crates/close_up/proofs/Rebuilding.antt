-- What holds while a tier's list is built anew. Assumes nothing.
use mathlib.Core.Path.{◌≡◌, refl, sym, ap, ◌∙◌}
use mathlib.Core.Bool.{Bool, cond}
use mathlib.Core.List.{List, [], ◌∷◌, ◌++◌, append_assoc, append-nil}
use Prim.Native.Nat.{ℕ, ◌+◌, ◌-◌, ◌≤◌, ◌<◌}
use native.Mathlib.Numerals.{add-one}
use native.Mathlib.Omega.{arith}
use lib.ListN.{length, set, take, drop, replicate, length-set, length-append, drop_of_length-le}
use lib.Seq.{drop-cons, length-take-le, take-suc-set, drop-set-lt, sets}
use borrow.Author.Tests.{eq-eqb, ne_eqb}
use Rattle.laws.specs.Lists.{at, fill}
use Rattle.kinds.specs.Clauses.{tier_at}
use Rattle.calls.specs.Collecting.{of_tier}
use Rattle.laws.proofs.Tails.{filled}

module _ (ws : List ℕ) (t o : ℕ) (os : List ℕ) where
  pub of_tier_one : tier_at ws o ≡ t → of_tier ws t (o ∷ os) ≡ o ∷ of_tier ws t os
  unfolding of_tier
  of_tier_one e = ap (λ (b : Bool). cond b (o ∷ of_tier ws t os) (of_tier ws t os)) (eq-eqb (tier_at ws o) t e)

  pub of_tier_other : (tier_at ws o ≡ t → ⊥) → of_tier ws t (o ∷ os) ≡ of_tier ws t os
  unfolding of_tier
  of_tier_other e = ap (λ (b : Bool). cond b (o ∷ of_tier ws t os) (of_tier ws t os)) (ne_eqb (tier_at ws o) t e)

pub of_tier_none : (ws : List ℕ) (t : ℕ) → of_tier ws t [] ≡ []
unfolding of_tier
of_tier_none ws t = refl

pub record Rebuilding (ws os list₀ : List ℕ) (used t : ℕ) (list : List ℕ) (i k : ℕ) : Type 0 where
  pub k_le : k ≤ used
  pub same : length list ≡ length list₀
  pub rest : drop used list ≡ drop used list₀
  pub done : take k list ++ of_tier ws t (drop i os) ≡ of_tier ws t os

pub rebuild_start : (ws os list : List ℕ) (used t : ℕ) → Rebuilding ws os list used t list 0 0
rebuild_start ws os list used t = record { k_le = omega arith; same = refl; rest = refl; done = refl }

module _ {ws os list₀ : List ℕ} {used t : ℕ} {list : List ℕ} {i k : ℕ} (fit : used ≤ length list₀) (few : length (of_tier ws t os) ≤ used) (I : Rebuilding ws os list₀ used t list i k) where
  counted : k + length (of_tier ws t (drop i os)) ≤ used
  counted =
      let a = length-append (take k list) (of_tier ws t (drop i os)) in
      let b : length (take k list ++ of_tier ws t (drop i os)) ≡ length (of_tier ws t os) = ap length I.done in
      let l = length-take-le k list (omega (arith, I.k_le, I.same)) in
      omega arith

  module _ (lt : i < length os) where
    abbrev o : ℕ
    o = at os i

    todo : drop i os ≡ o ∷ drop (i + 1) os
    todo = rw add-one (drop-cons os i 0 lt)

    pub rebuild_skip : (tier_at ws o ≡ t → ⊥) → Rebuilding ws os list₀ used t list (i + 1) k
    rebuild_skip h = record {
      k_le = I.k_le;
      same = I.same;
      rest = I.rest;
      done = ap (λ (l : List ℕ). take k list ++ l) (sym (ap (of_tier ws t) todo ∙ of_tier_other ws t o (drop (i + 1) os) h)) ∙ I.done;
    }

    module _ (h : tier_at ws o ≡ t) where
      one_more : of_tier ws t (drop i os) ≡ o ∷ of_tier ws t (drop (i + 1) os)
      one_more = ap (of_tier ws t) todo ∙ of_tier_one ws t o (drop (i + 1) os) h

      pub room_for : k < used
      room_for =
          let q : length (of_tier ws t (drop i os)) ≡ length (o ∷ of_tier ws t (drop (i + 1) os)) = ap length one_more in
          omega (arith, counted)

      pub rebuild_put : Rebuilding ws os list₀ used t (set list k o) (i + 1) (k + 1)
      rebuild_put = record {
        k_le = omega (arith, room_for);
        same = length-set list k o ∙ I.same;
        rest = drop-set-lt used list k o room_for ∙ I.rest;
        done =
            ap (λ (l : List ℕ). l ++ of_tier ws t (drop (i + 1) os)) (ap (λ (m : ℕ). take m (set list k o)) (add-one k) ∙ take-suc-set list k o (omega (arith, room_for, I.same)))
            ∙ append_assoc (take k list) (o ∷ []) (of_tier ws t (drop (i + 1) os))
            ∙ ap (λ (l : List ℕ). take k list ++ l) (sym one_more) ∙ I.done;
      }

  module _ (end : length os ≤ i) where
    all : take k list ≡ of_tier ws t os
    all = sym (append-nil (take k list)) ∙ ap (λ (l : List ℕ). take k list ++ l) (sym (ap (of_tier ws t) (drop_of_length-le os {i = i} end) ∙ of_tier_none ws t)) ∙ I.done

    pub rebuilt_count : k ≡ length (of_tier ws t os)
    rebuilt_count = sym (length-take-le k list (omega (arith, I.k_le, I.same))) ∙ ap length all

    pub rebuilt : sets list k (replicate (used - k) 0) ≡ fill list₀ used (of_tier ws t os)
    rebuilt = filled list₀ list used k (of_tier ws t os) all rebuilt_count I.k_le (omega (arith, I.same)) I.rest
