-- Negated codes; and what the rules on ranges and on symmetry say of each entry. Assumes nothing.
use mathlib.Core.Path.{◌≡◌, refl, sym, ap, ◌∙◌}
use mathlib.Core.Bool.{Bool, true, false}
use Prim.Native.Nat.{ℕ, ◌-◌, ◌*◌, ◌%◌, ◌<◌}
use native.Mathlib.Omega.{arith}
use lib.ListN.{length}
use borrow.Author.Tests.{eq-eqb, eqb-true, ltb-true}
use Rattle.laws.specs.Lists.{at, list_at}
use Rattle.laws.proofs.Folds.{all_at, and_left}
use Rattle.kinds.specs.Clauses.{neg}
use Rattle.kinds.specs.Held.{Held}
use Rattle.calls.specs.StorePasses.{row_entry_ok, row_in_range, rows_in_range, times_in, symmetric_at, symmetric_with, rows_symmetric, row_length}
use Rattle.judge_rows.specs.Rows.{entry_even}

-- ---- negation

pub neg_odd : (x : ℕ) → neg x % 2 ≡ 1 - x % 2
neg_odd x = omega arith

pub neg_neg : (x : ℕ) → neg (neg x) ≡ x
neg_neg x = omega (arith, neg_odd x)

pub neg_lt : (x v : ℕ) → x < 2 * v → neg x < 2 * v
neg_lt x v h = omega arith

pub bool_iff : (a b : Bool) → (a ≡ true → b ≡ true) → (b ≡ true → a ≡ true) → a ≡ b
bool_iff true b p q = sym (p refl)
bool_iff false true p q = q refl
bool_iff false false p q = refl

module _ (h : Held) (g : rows_in_range h ≡ true) where
  pub entry_below : (c k : ℕ) → c < 2 * h.vars → k < row_length h c → at (list_at h.rows c) k < 2 * h.vars
  unfolding rows_in_range row_in_range row_entry_ok row_length
  entry_below c k f l = ltb-true (at (list_at h.rows c) k) (2 * h.vars) (and_left _ _ (all_at (row_entry_ok h c) (length (list_at h.rows c)) (all_at (row_in_range h) (2 * h.vars) g c f) k l))

  module _ (e : rows_symmetric h ≡ true) where
    pub entries : (c k : ℕ) → c < 2 * h.vars → k < row_length h c → entry_even h c k ≡ true
    unfolding rows_symmetric symmetric_with symmetric_at entry_even
    entries c k f l =
        let b = at (list_at h.rows c) k in
        let q = eqb-true (times_in h (neg (neg c)) b) (times_in h (neg b) (neg c)) (all_at (symmetric_at h (neg c)) (2 * h.vars) (all_at (symmetric_with h) (2 * h.vars) e (neg c) (neg_lt c h.vars f)) b (entry_below c k f l)) in
        eq-eqb (times_in h c b) (times_in h (neg b) (neg c)) (ap (λ (z : ℕ). times_in h z b) (sym (neg_neg c)) ∙ q)
