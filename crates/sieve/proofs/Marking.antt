-- A set of numbers up to 65,536 as binary digits: what one number changes, and what a walk over numbers f 0, f 1, .. finds. Assumes nothing.
use mathlib.Core.Path.{◌≡◌, sym, ap, ◌∙◌}
use mathlib.Core.Bool.{Bool, false, not, ◌&&◌}
use mathlib.Core.List.{List}
use Prim.Native.Nat.{ℕ, ◌+◌, ◌/◌, ◌%◌, ◌^◌, ◌≤◌, ◌<◌}
use native.Mathlib.Decide.{ℕ_discrete}
use native.Mathlib.Numerals.{add-one}
use native.Mathlib.Nat.{zero-div}
use native.Mathlib.Omega.{arith}
use lib.Dec.{eqb}
use lib.ListN.{length, set, replicate, length-set, length-replicate, get_or-replicate}
use lib.Seq.{get_or-set_same, get_or-set_other}
use borrow.Author.Tests.{eq-eqb, ne_eqb}
use Rattle.laws.specs.Fold.{all_below}
use Rattle.laws.specs.Lists.{at}
use Rattle.laws.proofs.Folds.{and_fails_right}
use Rattle.laws.proofs.Tests.{and_true}
use Rattle.sieve.specs.Digits.{digit, Added, has, Put, other, Marked}

pub put_word : (s : List ℕ) (x v : ℕ) → x / 64 < length s → Added (at s (x / 64)) x v → Put s x (set s (x / 64) v)
put_word s x v l a = record {
  long = length-set s (x / 64) v;
  own = ap (λ (w : ℕ). digit w x) (get_or-set_same s (x / 64) v 0 l) ∙ a.own;
  others = λ y n. go y n (ℕ_discrete (y / 64) (x / 64));
}
  where
    go : (y : ℕ) → (y ≡ x → ⊥) → Dec (y / 64 ≡ x / 64) → has (set s (x / 64) v) y ≡ has s y
    go y n (yes e) =
        ap (λ (p : ℕ). digit (at (set s (x / 64) v) p) y) e
        ∙ ap (λ (w : ℕ). digit w y) (get_or-set_same s (x / 64) v 0 l)
        ∙ a.others y (λ q. n (omega arith))
        ∙ ap (λ (p : ℕ). digit (at s p) y) (sym e)
    go y n (no d) = ap (λ (w : ℕ). digit w y) (get_or-set_other s (x / 64) (y / 64) v 0 d)

empty_word : (x : ℕ) → digit 0 x ≡ false
unfolding digit
empty_word x = let e : 0 / 2 ^ (x % 64) ≡ 0 = zero-div (2 ^ (x % 64)) in ap (λ (d : ℕ). eqb (d % 2) 1) e

module _ (f : ℕ → ℕ) where
  pub marked_none : Marked f (replicate 1025 0) 0
  unfolding all_below
  marked_none = record {
    long = length-replicate {A = ℕ} 1025 0;
    marks = λ x h. ap (λ (w : ℕ). not (digit w x)) (get_or-replicate {A = ℕ} 1025 (x / 64) 0 0 h) ∙ ap not (empty_word x);
  }

  other_more : (x i : ℕ) → all_below (other f x) (i + 1) ≡ all_below (other f x) i && not (eqb (f i) x)
  unfolding all_below other
  other_more x i = rw add-one

  beside : (x i : ℕ) → (f i ≡ x → ⊥) → all_below (other f x) (i + 1) ≡ all_below (other f x) i
  beside x i n = other_more x i ∙ ap (λ (b : Bool). all_below (other f x) i && not b) (ne_eqb (f i) x n) ∙ and_true _

  met : (x i : ℕ) → f i ≡ x → all_below (other f x) (i + 1) ≡ false
  met x i e = other_more x i ∙ and_fails_right (all_below (other f x) i) _ (ap not (eq-eqb (f i) x e))

  -- the number of index i is put into the set
  pub marked_more : (s t : List ℕ) (i : ℕ) → Marked f s i → Put s (f i) t → Marked f t (i + 1)
  marked_more s t i m p = record { long = p.long ∙ m.long; marks = λ x h. go x h (ℕ_discrete (f i) x) }
    where
      go : (x : ℕ) → x / 64 < 1025 → Dec (f i ≡ x) → not (has t x) ≡ all_below (other f x) (i + 1)
      go x h (yes q) = ap (λ (y : ℕ). not (has t y)) (sym q) ∙ ap not p.own ∙ sym (met x i q)
      go x h (no n) = ap not (p.others x (λ e. n (sym e))) ∙ m.marks x h ∙ sym (beside x i n)

  -- whether it was there tells whether it is one of those before
  pub marked_new : (s : List ℕ) (i : ℕ) → Marked f s i → f i ≤ 65536 → {r : Bool} → r ≡ has s (f i) → not r ≡ all_below (other f (f i)) i
  marked_new s i m l e = ap not e ∙ m.marks (f i) (omega arith)
