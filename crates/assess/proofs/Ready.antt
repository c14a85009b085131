-- What a judged call holds is what computing a glue requires. Assumes nothing.
use mathlib.Core.Path.{◌≡◌}
use mathlib.Core.List.{List}
use Prim.Native.Nat.{ℕ, ◌*◌, ◌≤◌, ◌<◌}
use native.Mathlib.Omega.{arith}
use lib.ListN.{length}
use Rattle.laws.specs.Lists.{at}
use Rattle.kinds.specs.Clauses.{var_of}
use Rattle.assess.specs.Levelled.{Levelled}

-- V is in range and the levels are V long (1), each at most V (3), the literals in range (2 of a live clause, 4 of an assessed one)
pub levelled : (v : ℕ) (levels lits : List ℕ) → v ≤ 65536 → length levels ≡ v → ((x : ℕ) → x < v → at levels x ≤ v) → ((j : ℕ) → j < length lits → at lits j < 2 * v) → Levelled levels lits
levelled v levels lits few long low range = record {
  inside = λ j h. let r = range j h in let e = var_below j h in omega arith;
  low = λ j h. let e = low (var_of (at lits j)) (var_below j h) in omega arith;
}
  where
    var_below : (j : ℕ) → j < length lits → var_of (at lits j) < v
    var_below j h = let r = range j h in omega arith
