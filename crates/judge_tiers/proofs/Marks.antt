-- What the marking comes to: the marks tell which live clauses stand in the list, and clearing them gives the words back. Assumes nothing.
use mathlib.Core.Path.{◌≡◌, refl, sym, ap, ap₂, ◌∙◌, subst}
use mathlib.Core.Bool.{Bool, true, false, not, ◌&&◌, ◌||◌, cond}
use mathlib.Core.List.{List}
use Prim.Native.Nat.{ℕ, zero, suc, ◌+◌, ◌≤◌, ◌<◌}
use native.Mathlib.Omega.{arith}
use native.Mathlib.Numerals.{add-one}
use lib.ListN.{length, set, length-set}
use lib.Seq.{get_or-set_same, get_or-set_other, ext_get_or}
use lib.Dec.{eqb}
use borrow.Author.Tests.{eq-eqb, ne_eqb, eqb-true, eqb-false}
use Rattle.laws.specs.Fold.{all_below, any_below, one, fold_below}
use Rattle.laws.specs.Lists.{at}
use Rattle.laws.proofs.Folds.{all_at, all_same, any_same, any_at, any_none, any_more, any_find, and_both, and_left, and_right, and_fails_left, and_fails_right, or_right}
use Rattle.laws.proofs.Tests.{and_true, or_false, or_true}
use Rattle.kinds.specs.Header.{tier_of, deleted_of, mark_of, with_mark}
use Rattle.kinds.specs.Clauses.{head_at, change_head}
use Rattle.calls.specs.StorePasses.{clauses_ok, clause_ok_at, live_at, live_in, ref_at, stands_at, covered_at, covered}
use Rattle.calls.proofs.Readings.{unless, clause_read}
use Rattle.judge_tiers.specs.Marking.{Inside, Bare, mark_at, mark_entry, marks, marked_at, clear_at, clears}
use Rattle.judge_tiers.proofs.MarkBit.{mark_if, if_deleted, if_tier, if_mark, if_set, if_cleared}

-- v is w with marks on some words
record Marked (w v : List ℕ) (P : ℕ → Bool) : Type 0 where
  pub same : length v ≡ length w
  pub each : (k : ℕ) → at v k ≡ mark_if (P k) (at w k)

module _ {w v : List ℕ} {P : ℕ → Bool} (M : Marked w v P) (l : List ℕ) where
  -- marks change neither the deleted bit nor the tier
  live_kept : (i : ℕ) → live_at v l i ≡ live_at w l i
  unfolding live_at
  live_kept i = ap (λ (x : ℕ). not (eqb x 1)) (ap deleted_of (M.each (at l i + 1)) ∙ if_deleted (P (at l i + 1)) (at w (at l i + 1)))

  in_kept : (t i : ℕ) → live_in v l t i ≡ live_in w l t i
  unfolding live_in
  in_kept t i = ap₂ (λ (b : Bool) (x : ℕ). b && eqb x t) (live_kept i) (ap tier_of (M.each (at l i + 1)) ∙ if_tier (P (at l i + 1)) (at w (at l i + 1)))

  refs_kept : (n e : ℕ) → any_below (ref_at v l e) n ≡ any_below (ref_at w l e) n
  unfolding ref_at
  refs_kept n e = any_same (ref_at v l e) (ref_at w l e) n (λ i _. ap (λ (b : Bool). b && eqb (at l i) e) (live_kept i))

-- the same marks, named another way
re_marked : {w v x : List ℕ} {P Q : ℕ → Bool} → Marked w v P → x ≡ v → ((k : ℕ) → Q k ≡ P k) → Marked w x Q
re_marked {w} M e q = record { same = ap length e ∙ M.same; each = λ k. ap (λ (y : List ℕ). at y k) e ∙ M.each k ∙ ap (λ (b : Bool). mark_if b (at w k)) (sym (q k)) }

-- one word changed
put_marked : {w v : List ℕ} {P Q : ℕ → Bool} → Marked w v P → (p x : ℕ) → p < length w → x ≡ mark_if (Q p) (at w p) → ((k : ℕ) → eqb p k ≡ false → Q k ≡ P k) → Marked w (set v p x) Q
put_marked {w} {v} {P} {Q} M p x b e q = record { same = length-set v p x ∙ M.same; each = λ k. go k (eqb p k) refl }
  where
    go : (k : ℕ) (c : Bool) → eqb p k ≡ c → at (set v p x) k ≡ mark_if (Q k) (at w k)
    go k true f = subst (λ (z : ℕ). at (set v p x) z ≡ mark_if (Q z) (at w z)) (eqb-true p k f) (get_or-set_same v p x 0 (omega (arith, M.same)) ∙ e)
    go k false f = get_or-set_other v p k x 0 (λ z. eqb-false p k f (sym z)) ∙ M.each k ∙ ap (λ (b : Bool). mark_if b (at w k)) (sym (q k f))

pub bare : (w : List ℕ) (v : ℕ) (l : List ℕ) (n : ℕ) → clauses_ok w v l n ≡ true → Bare w l n
unfolding Bare clauses_ok clause_ok_at
bare w v l n p i b e = (clause_read w v (at l i) (unless (live_at w l i) _ (all_at (clause_ok_at w v l) n p i b) e)).mark

-- ---- the marking

-- entry q of tl is a live clause's reference, and k its word 1
hit_at : List ℕ → List ℕ → ℕ → List ℕ → ℕ → ℕ → Bool
hit_at w l n tl k q = eqb (at tl q + 1) k && any_below (ref_at w l (at tl q)) n

module _ (w l : List ℕ) (n : ℕ) (I : Inside l n (length w)) (tl : List ℕ) where
  -- k is word 1 of a live clause that stands among the first j entries
  hits : ℕ → ℕ → Bool
  hits j k = any_below (hit_at w l n tl k) j

  hits_more : (j k : ℕ) → hits (j + 1) k ≡ hits j k || hit_at w l n tl k j
  unfolding hits
  hits_more j k = any_more (hit_at w l n tl k) j

  hits_other : (j k : ℕ) → hit_at w l n tl k j ≡ false → hits (j + 1) k ≡ hits j k
  hits_other j k e = hits_more j k ∙ ap (λ (b : Bool). hits j k || b) e ∙ or_false (hits j k)

  ref_inside : (e : ℕ) → any_below (ref_at w l e) n ≡ true → e + 1 < length w
  unfolding ref_at
  ref_inside e q =
      let r = any_find (ref_at w l e) n q in
      omega (arith, I.inside r.0 r.1, eqb-true (at l r.0) e (and_right (live_at w l r.0) _ r.2))

  mark_step : (v : List ℕ) (j : ℕ) → Marked w v (hits j) → Marked w (mark_at l n v (at tl j)) (hits (j + 1))
  unfolding mark_at hit_at
  mark_step v j M = go (any_below (ref_at w l e) n) refl
    where
      e : ℕ
      e = at tl j

      p : ℕ
      p = e + 1

      step : (b : Bool) → any_below (ref_at w l e) n ≡ b → mark_at l n v e ≡ cond b (change_head (with_mark true) e v) v
      step b q = ap (λ (c : Bool). cond c (change_head (with_mark true) e v) v) (refs_kept M l n e ∙ q)

      go : (b : Bool) → any_below (ref_at w l e) n ≡ b → Marked w (mark_at l n v e) (hits (j + 1))
      go false q = re_marked M (step false q) (λ k. hits_other j k (and_fails_right (eqb p k) _ q))
      go true q =
          let here : hits (j + 1) p ≡ true = hits_more j p ∙ or_right (hits j p) _ (and_both (eqb p p) _ (eq-eqb p p refl) q) in
          subst (λ (x : List ℕ). Marked w x (hits (j + 1))) (sym (step true q))
          (put_marked M p (with_mark true (at v p)) (ref_inside e q)
          (ap (with_mark true) (M.each p) ∙ if_set (hits j p) (at w p) ∙ sym (ap (λ (b : Bool). mark_if b (at w p)) here))
          (λ k f. hits_other j k (and_fails_left _ _ f)))

  marks_marked : (m : ℕ) → Marked w (marks l n tl w m) (hits m)
  unfolding marks mark_entry fold_below hits
  marks_marked zero = record { same = refl; each = λ k. ap (λ (b : Bool). mark_if b (at w k)) (sym (any_none (hit_at w l n tl k))) }
  marks_marked (suc m) = subst (λ (z : ℕ). Marked w (marks l n tl w (suc m)) (hits z)) (add-one m) (mark_step (marks l n tl w m) m (marks_marked m))

  -- a live clause is marked where it stands in the list
  hits_of : (m i : ℕ) → i < n → live_at w l i ≡ true → hits m (at l i + 1) ≡ any_below (stands_at tl (at l i)) m
  unfolding hits hit_at stands_at ref_at
  hits_of m i b e = any_same (hit_at w l n tl (at l i + 1)) (stands_at tl (at l i)) m (λ q _. go q (eqb (at tl q) (at l i)) refl)
    where
      ref_here : any_below (ref_at w l (at l i)) n ≡ true
      ref_here = any_at (ref_at w l (at l i)) n i b (and_both _ _ e (eq-eqb (at l i) (at l i) refl))

      go : (q : ℕ) (c : Bool) → eqb (at tl q) (at l i) ≡ c → hit_at w l n tl (at l i + 1) q ≡ eqb (at tl q) (at l i)
      go q true f =
          let s = eqb-true (at tl q) (at l i) f in
          and_both _ _ (eq-eqb (at tl q + 1) (at l i + 1) (ap (λ (z : ℕ). z + 1) s)) (ap (λ (z : ℕ). any_below (ref_at w l z) n) s ∙ ref_here) ∙ sym f
      go q false f = and_fails_left _ _ (ne_eqb (at tl q + 1) (at l i + 1) (λ z. eqb-false (at tl q) (at l i) f (omega arith))) ∙ sym f

  module _ (U : Bare w l n) (t : ℕ) where
    pub marked_is : (m : ℕ) → all_below (marked_at (marks l n tl w m) l t) n ≡ covered w l n t tl m
    unfolding covered covered_at marked_at Bare live_in
    marked_is m = all_same (marked_at (marks l n tl w m) l t) (covered_at w l t tl m) n (λ i b. go i b (live_in w l t i) refl)
      where
        v : List ℕ
        v = marks l n tl w m

        M : Marked w v (hits m)
        M = marks_marked m

        bit : (b : Bool) → eqb (one b) 1 ≡ b
        bit true = refl
        bit false = refl

        go : (i : ℕ) → i < n → (a : Bool) → live_in w l t i ≡ a → marked_at v l t i ≡ covered_at w l t tl m i
        go i b false e =
            ap (λ (c : Bool). not c || eqb (mark_of (head_at v (at l i))) 1) (in_kept M l t i ∙ e) ∙ sym (ap (λ (c : Bool). not c || any_below (stands_at tl (at l i)) m) e)
        go i b true e =
            let q : live_at w l i ≡ true = and_left _ _ e in
            ap (λ (c : Bool). not c || eqb (mark_of (head_at v (at l i))) 1) (in_kept M l t i ∙ e)
            ∙ ap (λ (x : ℕ). eqb x 1) (ap mark_of (M.each (at l i + 1)) ∙ if_mark (hits m (at l i + 1)) (at w (at l i + 1)) (U i b q))
            ∙ bit (hits m (at l i + 1)) ∙ hits_of m i b q ∙ sym (ap (λ (c : Bool). not c || any_below (stands_at tl (at l i)) m) e)

-- ---- the clearing

-- k is word 1 of clause i, which is live
head_is : List ℕ → List ℕ → ℕ → ℕ → Bool
head_is w l k i = live_at w l i && eqb (at l i + 1) k

-- what is left of the marks P once the first i clauses are cleared
rest : List ℕ → List ℕ → (ℕ → Bool) → ℕ → ℕ → Bool
rest w l P i k = P k && not (any_below (head_is w l k) i)

module _ (w l : List ℕ) (n : ℕ) (I : Inside l n (length w)) (U : Bare w l n) (P : ℕ → Bool) where
  rest_other : (i k : ℕ) → head_is w l k i ≡ false → rest w l P (i + 1) k ≡ rest w l P i k
  unfolding rest
  rest_other i k e = ap (λ (b : Bool). P k && not b) (any_more (head_is w l k) i ∙ ap (λ (b : Bool). any_below (head_is w l k) i || b) e ∙ or_false (any_below (head_is w l k) i))

  rest_here : (i k : ℕ) → head_is w l k i ≡ true → rest w l P (i + 1) k ≡ false
  unfolding rest
  rest_here i k e = and_fails_right (P k) _ (ap not (any_more (head_is w l k) i ∙ ap (λ (b : Bool). any_below (head_is w l k) i || b) e ∙ or_true (any_below (head_is w l k) i)))

  clear_step : (v : List ℕ) (i : ℕ) → i < n → Marked w v (rest w l P i) → Marked w (clear_at l v i) (rest w l P (i + 1))
  unfolding clear_at Bare head_is
  clear_step v i b M = go (live_at w l i) refl
    where
      p : ℕ
      p = at l i + 1

      step : (c : Bool) → live_at w l i ≡ c → clear_at l v i ≡ cond c (change_head (with_mark false) (at l i) v) v
      step c e = ap (λ (x : Bool). cond x (change_head (with_mark false) (at l i) v) v) (live_kept M l i ∙ e)

      go : (c : Bool) → live_at w l i ≡ c → Marked w (clear_at l v i) (rest w l P (i + 1))
      go false e = re_marked M (step false e) (λ k. rest_other i k (and_fails_left _ _ e))
      go true e =
          subst (λ (x : List ℕ). Marked w x (rest w l P (i + 1))) (sym (step true e))
          (put_marked M p (with_mark false (at v p)) (I.inside i b)
          (ap (with_mark false) (M.each p) ∙ if_cleared (rest w l P i p) (at w p) (U i b e) ∙ sym (ap (λ (c : Bool). mark_if c (at w p)) (rest_here i p (and_both _ _ e (eq-eqb p p refl)))))
          (λ k f. rest_other i k (and_fails_right (live_at w l i) _ f)))

  clears_marked : (v : List ℕ) → Marked w v P → (i : ℕ) → i ≤ n → Marked w (clears l v i) (rest w l P i)
  unfolding clears fold_below rest
  clears_marked v M zero h = re_marked M refl (λ k. ap (λ (b : Bool). P k && not b) (any_none (head_is w l k)) ∙ and_true (P k))
  clears_marked v M (suc i) h = subst (λ (z : ℕ). Marked w (clears l v (suc i)) (rest w l P z)) (add-one i) (clear_step (clears l v i) i h (clears_marked v M i (omega arith)))

-- the marks are set and cleared again
pub clears_marks : (w l : List ℕ) (n : ℕ) → Inside l n (length w) → Bare w l n → (tl : List ℕ) (m : ℕ) → clears l (marks l n tl w m) n ≡ w
unfolding rest hits hit_at head_is ref_at
clears_marks w l n I U tl m = ext_get_or 0 _ _ C.same (λ k _. C.each k ∙ ap (λ (b : Bool). mark_if b (at w k)) (none k (hits w l n I tl m k) refl))
  where
    C : Marked w (clears l (marks l n tl w m) n) (rest w l (hits w l n I tl m) n)
    C = clears_marked w l n I U (hits w l n I tl m) (marks l n tl w m) (marks_marked w l n I tl m) n (omega arith)

    none : (k : ℕ) (b : Bool) → hits w l n I tl m k ≡ b → rest w l (hits w l n I tl m) n k ≡ false
    none k false e = and_fails_left (hits w l n I tl m k) (not (any_below (head_is w l k) n)) e
    none k true e =
        let r = any_find (hit_at w l n tl k) m e in
        let s = any_find (ref_at w l (at tl r.0)) n (and_right (eqb (at tl r.0 + 1) k) (any_below (ref_at w l (at tl r.0)) n) r.2) in
        let f : at l s.0 ≡ at tl r.0 = eqb-true (at l s.0) (at tl r.0) (and_right (live_at w l s.0) (eqb (at l s.0) (at tl r.0)) s.2) in
        let g : at tl r.0 + 1 ≡ k = eqb-true (at tl r.0 + 1) k (and_left (eqb (at tl r.0 + 1) k) (any_below (ref_at w l (at tl r.0)) n) r.2) in
        let h : head_is w l k s.0 ≡ true = and_both (live_at w l s.0) (eqb (at l s.0 + 1) k) (and_left (live_at w l s.0) (eqb (at l s.0) (at tl r.0)) s.2) (eq-eqb (at l s.0 + 1) k (ap (λ (z : ℕ). z + 1) f ∙ g)) in
        and_fails_right (hits w l n I tl m k) (not (any_below (head_is w l k) n)) (ap not (any_at (head_is w l k) n s.0 s.1 h))

-- marked, tested and cleared
pub covered_by : (w l : List ℕ) (n t : ℕ) → Inside l n (length w) → Bare w l n → (tl : List ℕ) (m : ℕ) {v x : List ℕ} {r : Bool} → v ≡ marks l n tl w m → r ≡ all_below (marked_at v l t) n → x ≡ clears l v n → (r ≡ covered w l n t tl m) × (x ≡ w)
covered_by w l n t I U tl m ev er ex =
    (er ∙ ap (λ (z : List ℕ). all_below (marked_at z l t) n) ev ∙ marked_is w l n I tl U t m, ex ∙ ap (λ (z : List ℕ). clears l z n) ev ∙ clears_marks w l n I U tl m)
