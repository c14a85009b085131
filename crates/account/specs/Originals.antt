-- How many clauses of a list are originals.
use Rattle.std.specs.Prelude.{List, [], ◌∷◌, ℕ, ◌+◌}
use Rattle.laws.specs.Fold.{one}
use Rattle.kinds.specs.Clauses.{Clause}

unfoldable pub originals : List Clause → ℕ
originals [] = 0
originals (c ∷ cs) = one c.original + originals cs
