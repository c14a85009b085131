-- New levels, each compared with those before it: one turn at a time. Assumes nothing.
use mathlib.Core.Path.{◌≡◌, ap}
use mathlib.Core.Bool.{true, false, not}
use mathlib.Core.List.{List}
use Prim.Native.Nat.{ℕ, ◌<◌}
use native.Mathlib.Omega.{arith}
use lib.ListN.{length, take, length-take}
use lib.Seq.{get_or-take}
use borrow.Author.Tests.{eq-eqb, ne_eqb}
use Rattle.laws.specs.Lists.{at}
use Rattle.laws.proofs.Folds.{all_fails}
use Rattle.calls.specs.Bumping.{level_of, level_apart, level_new}

-- literal k of those before literal j
module _ (levels lits : List ℕ) (j k : ℕ) (h : k < length (take j lits)) where
  before : at (take j lits) k ≡ at lits k
  before = get_or-take j lits k 0 (omega (arith, length-take j lits))

  pub other_level : (level_of levels (take j lits) k ≡ level_of levels lits j → ⊥) → level_apart levels lits j k ≡ true
  unfolding level_apart
  other_level d = rw (← before) (ap not (ne_eqb _ _ d))

  pub same_level : level_of levels (take j lits) k ≡ level_of levels lits j → level_new levels lits j ≡ false
  unfolding level_new level_apart
  same_level e = all_fails (level_apart levels lits j) k j (omega (arith, length-take j lits)) (rw (← before) (ap not (eq-eqb _ _ e)))
