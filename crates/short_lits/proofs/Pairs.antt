-- "literals in range with different variables", by comparing each with those before it. Assumes nothing.
use mathlib.Core.Path.{◌≡◌, ap}
use mathlib.Core.Bool.{true, false, not}
use mathlib.Core.List.{List}
use Prim.Native.Nat.{ℕ, ◌*◌, ◌≤◌, ◌<◌}
use native.Mathlib.Omega.{arith}
use Rattle.std.proofs.Common.{zero-add}
use lib.ListN.{length, take, length-take}
use lib.Seq.{get_or-take}
use borrow.Author.Tests.{lt-ltb, le-ltb, eq-eqb, ne_eqb}
use Rattle.laws.specs.Fold.{all_below}
use Rattle.laws.specs.Lists.{at}
use Rattle.laws.proofs.Folds.{all_fails, and_both, and_fails_left, and_fails_right}
use Rattle.kinds.specs.Clauses.{var_of}
use Rattle.calls.specs.StorePasses.{apart, lit_ok}

-- literal k of those before literal j
module _ (ls : List ℕ) (j k : ℕ) (h : k < length (take j ls)) where
  before : at (take j ls) k ≡ at ls k
  before = get_or-take j ls k 0 (omega (arith, length-take j ls))

  pub other_variable : (var_of (at (take j ls) k) ≡ var_of (at ls j) → ⊥) → apart ls 0 j k ≡ true
  unfolding apart
  other_variable d = rw (zero-add, zero-add, ← before) (ap not (ne_eqb _ _ d))

  pub same_variable : var_of (at (take j ls) k) ≡ var_of (at ls j) → all_below (apart ls 0 j) j ≡ false
  unfolding apart
  same_variable e = all_fails (apart ls 0 j) k j (omega (arith, length-take j ls)) (rw (zero-add, zero-add, ← before) (ap not (eq-eqb _ _ e)))

module _ (v : ℕ) (ls : List ℕ) (j : ℕ) where
  pub literal_passes : at ls j < 2 * v → all_below (apart ls 0 j) j ≡ true → lit_ok ls v 0 j ≡ true
  unfolding lit_ok
  literal_passes h e = rw zero-add (and_both _ _ (lt-ltb _ _ h) e)

  pub out_of_range : 2 * v ≤ at ls j → lit_ok ls v 0 j ≡ false
  unfolding lit_ok
  out_of_range h = rw zero-add (and_fails_left _ _ (le-ltb _ _ h))

  pub variable_twice : all_below (apart ls 0 j) j ≡ false → lit_ok ls v 0 j ≡ false
  unfolding lit_ok
  variable_twice e = and_fails_right _ _ e
