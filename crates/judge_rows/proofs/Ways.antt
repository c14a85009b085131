-- What the code finds of an entry, and the rule on it. Assumes nothing.
use mathlib.Core.Path.{◌≡◌, refl, sym, ap, ap₂, ◌∙◌}
use mathlib.Core.Bool.{Bool, true, false, not, ◌&&◌}
use mathlib.Core.List.{List}
use mathlib.Core.Logic.{◌↔◌, ◌≢◌}
use Prim.Native.Nat.{ℕ, ◌*◌, ◌/◌, ◌<◌}
use native.Mathlib.Omega.{arith}
use lib.ListN.{length}
use lib.Dec.{eqb, leb}
use borrow.Author.Tests.{ltb-true, eqb-false, lt-ltb, lt-leb, ne_eqb, not-true}
use Rattle.std.proofs.lemmas.Bool.{and_from, and_parts}
use Rattle.laws.specs.Fold.{sum_below}
use Rattle.laws.specs.Lists.{at, list_at}
use Rattle.laws.proofs.Loops.{and_cut, and_on}
use Rattle.laws.proofs.Chains.{all_iff}
use Rattle.laws.proofs.Folds.{all_same}
use Rattle.laws.proofs.Sums.{sum_same}
use Rattle.kinds.specs.Held.{Held}
use Rattle.calls.specs.StorePasses.{row_entry_ok, row_in_range, rows_in_range, times_in, symmetric_at, symmetric_with, rows_symmetric, row_length, binary_ok, rows_pass}
use Rattle.judge_rows.specs.Rows.{holding}

pub row_in_range_is : (h : Held) (c : ℕ) (row : List ℕ) → row ≡ list_at h.rows c → {r : Bool}
    → ((r ≡ true) ↔ ((k : ℕ) → k < length row → (at row k < 2 * h.vars) × (at row k / 2 ≢ c / 2)))
    → r ≡ row_in_range h c
unfolding row_in_range row_entry_ok
row_in_range_is h c row e p =
    let q = rw e at p in
    all_iff _ _ (
      λ t k l. let u = q.0 t k l in and_from _ _ (lt-ltb _ _ u.0) (ap not (ne_eqb _ _ u.1)),
      λ t. q.1 (λ k l. let u = and_parts _ _ (t k l) in (ltb-true _ _ u.0, eqb-false _ _ (not-true _ u.1))),
    )

-- ---- the whole

-- the rows and the binary count are all that is judged here
pub rows_alone : (h : Held) → rows_pass h ≡ rows_in_range (holding h.vars h.rows) && (rows_symmetric (holding h.vars h.rows) && eqb (h.binary * 2) (sum_below (row_length (holding h.vars h.rows)) (2 * h.vars)))
unfolding rows_pass rows_in_range row_in_range row_entry_ok rows_symmetric symmetric_with symmetric_at times_in binary_ok row_length
rows_alone h =
    let g = holding h.vars h.rows in
    ap₂ (λ (a b : Bool). a && b)
    (all_same (row_in_range h) (row_in_range g) (2 * h.vars) (λ c l. all_same (row_entry_ok h c) (row_entry_ok g c) (length (list_at h.rows c)) (λ k q. refl)))
    (ap₂ (λ (a b : Bool). a && b)
    (all_same (symmetric_with h) (symmetric_with g) (2 * h.vars) (λ a l. all_same (symmetric_at h a) (symmetric_at g a) (2 * h.vars) (λ b q. refl)))
    (ap (λ (n : ℕ). eqb (h.binary * 2) n) (sum_same (row_length h) (row_length g) (2 * h.vars) (λ c l. refl))))

-- each way out of `rows_pass`
module _ (h : Held) {r : Bool} (p : r ≡ rows_in_range (holding h.vars h.rows)) where
  pub pass_range : r ≡ false → false ≡ rows_pass h
  pass_range t = and_cut _ (sym p ∙ t) ∙ sym (rows_alone h)

  module _ {s : Bool} (f : r ≡ true) (q : s ≡ rows_symmetric (holding h.vars h.rows)) where
    pub pass_symmetric : s ≡ false → false ≡ rows_pass h
    pass_symmetric t = and_on (sym p ∙ f) (and_cut _ (sym q ∙ t)) ∙ sym (rows_alone h)

    module _ {n : ℕ} (g : s ≡ true) (e : n ≡ sum_below (row_length (holding h.vars h.rows)) (2 * h.vars)) where
      pub pass_test : eqb (h.binary * 2) n ≡ rows_pass h
      pass_test = and_on (sym p ∙ f) (and_on (sym q ∙ g) (ap (eqb (h.binary * 2)) e)) ∙ sym (rows_alone h)

      pub pass_many : n < h.binary → leb h.binary n ≡ rows_pass h
      pass_many t = lt-leb h.binary n t ∙ sym (ne_eqb (h.binary * 2) n (λ z. omega arith)) ∙ pass_test
