-- "literals in range with different variables", by stamps. Assumes nothing.
use mathlib.Core.Path.{◌≡◌, refl, sym, ap, ap₂, ◌∙◌, subst}
use mathlib.Core.Bool.{Bool, true, false, not, ◌&&◌}
use mathlib.Core.List.{List}
use Prim.Native.Nat.{ℕ, ◌+◌, ◌*◌, ◌/◌, ◌≤◌, ◌<◌}
use native.Mathlib.Omega.{arith}
use lib.Dec.{eqb, ltb}
use lib.ListN.{take, drop, length, set, replicate, get_or-replicate, length-replicate, get_or-eq_default}
use lib.Seq.{get_or-set_same, get_or-set_other, get_or-take, length-take-le}
use Rattle.std.proofs.lemmas.List.{get_or-drop, length-drop}
use native.Mathlib.Decide.{dec_lt}
use native.Mathlib.Nat.{zero-add}
use borrow.Author.Tests.{lt-ltb, le-ltb, eq-eqb, ne_eqb, eqb-true, eqb-false}
use Rattle.laws.specs.Fold.{all_below}
use Rattle.laws.specs.Lists.{at}
use Rattle.laws.proofs.Folds.{all_none, all_fails, all_same, all_end, and_both, and_fails_left, and_fails_right}
use Rattle.laws.proofs.Tests.{and_true, not_not, all_step}
use Rattle.kinds.specs.Clauses.{var_of}
use Rattle.calls.specs.StorePasses.{apart, lit_ok, lits_ok}
use Rattle.judge_words.specs.Judging.{Below}

-- literal k has another variable than x
unfoldable pub other_var : List ℕ → ℕ → ℕ → Bool
other_var w x k = not (eqb (var_of (at w k)) x)

-- the stamps once the first j literals are stamped
pub record Stamped (w : List ℕ) (j : ℕ) (stamps : List ℕ) (stamp : ℕ) : Type 0 where
  pub most : (x : ℕ) → at stamps x < stamp + 1
  pub tells : (x : ℕ) → eqb (at stamps x) stamp ≡ not (all_below (other_var w x) j)

pub below_wider : {stamps : List ℕ} {a b : ℕ} → Below stamps a → a ≤ b → Below stamps b
below_wider B h = record { each = λ x. omega (arith, B.each x) }

pub zeros_below : (n b : ℕ) → 0 < b → Below (replicate n 0) b
zeros_below n b h = record { each = λ x. go x (dec_lt x n) }
  where
    go : (x : ℕ) → Dec (x < n) → at (replicate n 0) x < b
    go x (yes q) = omega (arith, get_or-replicate {A = ℕ} n x 0 0 q)
    go x (no q) = omega (arith, get_or-eq_default {A = ℕ} (replicate n 0) 0 {n = x} (omega (arith, length-replicate {A = ℕ} n 0)))

pub stamped_none : (w : List ℕ) {stamps : List ℕ} {stamp : ℕ} → Below stamps stamp → Stamped w 0 stamps stamp
stamped_none w {stamps} {stamp} B = record {
  most = λ x. omega (arith, B.each x);
  tells = λ x. ne_eqb (at stamps x) stamp (λ q. omega (arith, B.each x)) ∙ sym (ap not (all_none (other_var w x)));
}

pub stamped_below : {w : List ℕ} {j : ℕ} {stamps : List ℕ} {stamp : ℕ} → Stamped w j stamps stamp → Below stamps (stamp + 1)
stamped_below S = record { each = S.most }

-- x is literal j
module _ (w : List ℕ) (v j : ℕ) {stamps : List ℕ} {stamp : ℕ} (S : Stamped w j stamps stamp) (x : ℕ) (e : x ≡ at w j) where
  fresh_is : all_below (apart w 0 j) j ≡ not (eqb (at stamps (x / 2)) stamp)
  unfolding apart other_var
  fresh_is =
      all_same (apart w 0 j) (other_var w (x / 2)) j (λ k h. rw (zero-add k, zero-add j, ← e))
      ∙ sym (ap not (S.tells (x / 2)) ∙ not_not (all_below (other_var w (x / 2)) j))

  lit_is : lit_ok w v 0 j ≡ ltb x (2 * v) && not (eqb (at stamps (x / 2)) stamp)
  unfolding lit_ok
  lit_is = ap₂ (λ (a b : Bool). a && b) (ap (λ (k : ℕ). ltb (at w k) (2 * v)) (zero-add j) ∙ ap (λ (y : ℕ). ltb y (2 * v)) (sym e)) fresh_is

  pub lit_far : 2 * v ≤ x → lit_ok w v 0 j ≡ false
  lit_far h = lit_is ∙ and_fails_left _ _ (le-ltb x (2 * v) h)

  pub lit_again : at stamps (x / 2) ≡ stamp → lit_ok w v 0 j ≡ false
  lit_again h = lit_is ∙ and_fails_right (ltb x (2 * v)) _ (ap not (eq-eqb _ _ h))

  pub lit_new : x < 2 * v → (at stamps (x / 2) ≡ stamp → ⊥) → lit_ok w v 0 j ≡ true
  lit_new h g = lit_is ∙ and_both _ _ (lt-ltb x (2 * v) h) (ap not (ne_eqb _ _ g))

  pub stamped_more : x / 2 < length stamps → Stamped w (j + 1) (set stamps (x / 2) stamp) stamp
  unfolding other_var
  stamped_more h = record { most = λ y. most y (eqb (x / 2) y) refl; tells = λ y. tells y (eqb (x / 2) y) refl }
    where
      most : (y : ℕ) (b : Bool) → eqb (x / 2) y ≡ b → at (set stamps (x / 2) stamp) y < stamp + 1
      most y true q = subst (λ (z : ℕ). at (set stamps (x / 2) stamp) z < stamp + 1) (eqb-true (x / 2) y q) (omega (arith, get_or-set_same stamps (x / 2) stamp 0 h))
      most y false q = omega (arith, get_or-set_other stamps (x / 2) y stamp 0 (λ z. eqb-false (x / 2) y q (sym z)), S.most y)

      here : (y : ℕ) → other_var w y j ≡ not (eqb (x / 2) y)
      here y = ap (λ (z : ℕ). not (eqb (z / 2) y)) (sym e)

      tells : (y : ℕ) (b : Bool) → eqb (x / 2) y ≡ b → eqb (at (set stamps (x / 2) stamp) y) stamp ≡ not (all_below (other_var w y) (j + 1))
      tells y true q =
          eq-eqb _ _ (ap (at (set stamps (x / 2) stamp)) (sym (eqb-true (x / 2) y q)) ∙ get_or-set_same stamps (x / 2) stamp 0 h)
          ∙ sym (ap not (all_fails (other_var w y) j (j + 1) (omega arith) (here y ∙ ap not q)))
      tells y false q =
          ap (λ (z : ℕ). eqb z stamp) (get_or-set_other stamps (x / 2) y stamp 0 (λ z. eqb-false (x / 2) y q (sym z)))
          ∙ S.tells y ∙ sym (ap not (all_step (other_var w y) j ∙ ap (λ (b : Bool). all_below (other_var w y) j && b) (here y ∙ ap not q) ∙ and_true (all_below (other_var w y) j)))

-- the end of a call
module _ (w : List ℕ) (v j : ℕ) {stamps : List ℕ} {stamp : ℕ} (S : Stamped w j stamps stamp) where
  pub lits_out : j < length w → lit_ok w v 0 j ≡ false → (false ≡ lits_ok w v 0 (length w)) × Below stamps (stamp + 1)
  unfolding lits_ok
  lits_out h e = (sym (all_fails (lit_ok w v 0) j (length w) h e), stamped_below S)

  pub lits_end : all_below (lit_ok w v 0) j ≡ true → j ≤ length w → length w ≤ j → (true ≡ lits_ok w v 0 (length w)) × Below stamps (stamp + 1)
  unfolding lits_ok
  lits_end p h g = (all_end (lit_ok w v 0) j (length w) p h g, stamped_below S)

-- the n words from s on, by themselves
module _ (w : List ℕ) (v s n : ℕ) (room : s + n ≤ length w) where
  part : List ℕ
  part = take n (drop s w)

  part_length : length part ≡ n
  unfolding part
  part_length = length-take-le n (drop s w) (omega (arith, length-drop s w))

  part_at : (k : ℕ) → k < n → at part (0 + k) ≡ at w (s + k)
  unfolding part
  part_at k h = rw (zero-add k) (get_or-take n (drop s w) k 0 h ∙ get_or-drop s w k 0)

  part_lits : lits_ok part v 0 n ≡ lits_ok w v s n
  unfolding lits_ok lit_ok apart
  part_lits =
      all_same (lit_ok part v 0) (lit_ok w v s) n
      (λ j h. ap₂ (λ (x : ℕ) (b : Bool). ltb x (2 * v) && b) (part_at j h)
      (all_same (apart part 0 j) (apart w s j) j (λ k g. ap₂ (λ (x y : ℕ). not (eqb (var_of x) (var_of y))) (part_at k (omega arith)) (part_at j h))))

  pub lits_part : lits_ok (take n (drop s w)) v 0 (length (take n (drop s w))) ≡ lits_ok w v s n
  unfolding part
  lits_part = ap (lits_ok part v 0) part_length ∙ part_lits
