-- The test of `asserting` on the buffers that it reads.
use Rattle.std.specs.Prelude.{Bool, ◌&&◌, List, ℕ, eqb}
use Rattle.laws.specs.Lists.{at}
use Rattle.kinds.specs.Clauses.{first_at, var_of}
use Rattle.kinds.specs.Held.{is_true}

-- "an asserting clause: first literal true, its reason this clause"
unfoldable pub asserting_in : List ℕ → List ℕ → List ℕ → List ℕ → ℕ → Bool
asserting_in words values kinds reasons o =
    is_true values (first_at words o) && (eqb (at kinds (var_of (first_at words o))) 3 && eqb (at reasons (var_of (first_at words o))) o)
