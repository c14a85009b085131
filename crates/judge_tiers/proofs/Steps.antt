-- The steps of the marking, as the code takes them. Assumes nothing.
use mathlib.Core.Path.{◌≡◌, sym, ap, ap₂, ◌∙◌}
use mathlib.Core.Bool.{Bool, true, false, not, ◌&&◌, cond}
use mathlib.Core.List.{List}
use Prim.Native.Nat.{ℕ, ◌+◌, ◌≤◌, ◌<◌}
use native.Mathlib.Omega.{arith}
use lib.ListN.{set}
use borrow.Author.Tests.{eq-eqb, ne_eqb}
use Rattle.laws.specs.Fold.{any_below}
use Rattle.laws.specs.Lists.{at}
use Rattle.laws.proofs.Folds.{any_no, any_only, and_fails_right}
use Rattle.laws.proofs.Tests.{and_true}
use Rattle.kinds.specs.Header.{with_mark}
use Rattle.kinds.specs.Clauses.{deleted_at, change_head}
use Rattle.calls.specs.StorePasses.{placed, live_at, ref_at}
use Rattle.calls.proofs.Readings.{ends_read}
use Rattle.judge_words.specs.Judging.{Found}
use Rattle.judge_tiers.specs.Marking.{Inside, mark_at}

pub inside_of : (w : List ℕ) (used : ℕ) (l : List ℕ) (n : ℕ) → placed w used l n ≡ true → (len : ℕ) → used ≤ len → Inside l n len
inside_of w used l n p len h = record { inside = λ i b. omega (arith, ends_read w used l n p i b) }

-- k is where e stands
module _ (w l : List ℕ) (n e k : ℕ) (F : Found l n e k) where
  pub mark_miss : n ≤ k → w ≡ mark_at l n w e
  unfolding mark_at ref_at
  mark_miss h =
      sym (ap (λ (b : Bool). cond b (change_head (with_mark true) e w) w) (any_no (ref_at w l e) n (λ i b. and_fails_right (live_at w l i) _ (ne_eqb (at l i) e (F.miss i b (λ d. omega arith))))))

  module _ (b : k < n) {d : Bool} (ed : d ≡ deleted_at w e) where
    ref_hit : any_below (ref_at w l e) n ≡ not d
    unfolding ref_at live_at
    ref_hit =
        any_only (ref_at w l e) n k b (λ i c q. and_fails_right (live_at w l i) _ (ne_eqb (at l i) e (F.miss i c q)))
        ∙ ap₂ (λ (z : ℕ) (y : Bool). not (deleted_at w z) && y) (F.hit b) (eq-eqb (at l k) e (F.hit b)) ∙ and_true (not (deleted_at w e)) ∙ ap not (sym ed)

    pub mark_dead : d ≡ true → w ≡ mark_at l n w e
    unfolding mark_at
    mark_dead q = sym (ap (λ (c : Bool). cond c (change_head (with_mark true) e w) w) (ref_hit ∙ ap not q))

    pub mark_live : d ≡ false → {x : ℕ} → x ≡ with_mark true (at w (e + 1)) → set w (e + 1) x ≡ mark_at l n w e
    unfolding mark_at
    mark_live q ex = ap (set w (e + 1)) ex ∙ sym (ap (λ (c : Bool). cond c (change_head (with_mark true) e w) w) (ref_hit ∙ ap not q))
