-- The refusals' number of a deletion is one of the table. Assumes nothing.
use mathlib.Core.Path.{◌≡◌, sym, subst}
use mathlib.Core.Bool.{Bool, true, false, cond}
use Prim.Native.Nat.{ℕ, ◌≤◌, ◌<◌}
use native.Mathlib.Omega.{arith}
use Rattle.kinds.specs.Clauses.{original_at}
use Rattle.kinds.specs.Lent.{Lent}
use Rattle.kinds.specs.Held.{asserting}
use Rattle.kinds.specs.Layout.{view}
use Rattle.calls.specs.Call.{delete}
use Rattle.calls.specs.Refusing.{own, lowest, not_live}
use Rattle.calls.specs.Outcome.{refused_for, has_room, or_else, own_number}

-- the number is one of the table
most : (dead original asserts room : Bool) → or_else (cond dead 6 (cond original 7 (cond asserts 8 0))) (cond room 0 11) ≤ 12
most true b c d = omega arith
most false true c d = omega arith
most false false true d = omega arith
most false false false true = omega arith
most false false false false = omega arith

module _ (o : ℕ) (k : Lent) where
  own_most : own_number (delete o) k ≤ 12
  unfolding own_number refused_for own lowest
  own_most = most (not_live (view k) o) (original_at (view k).words o) (asserting (view k) o) (has_room (delete o) k)

  -- the refusals gave n, not 0
  pub own_number_lem : (n : ℕ) → n ≡ own_number (delete o) k → (n ≡ 0 → ⊥) → (0 < n) × (n ≤ 12)
  own_number_lem n e h = let t : n ≤ 12 = subst (λ (x : ℕ). x ≤ 12) (sym e) own_most in (omega arith, omega arith)
