-- What the judging establishes of a clause whose glue is computed.
use Rattle.std.specs.Prelude.{ℕ, ◌≤◌, ◌<◌, List, length}
use Rattle.laws.specs.Lists.{at}
use Rattle.kinds.specs.Clauses.{var_of}
use Rattle.calls.specs.Bumping.{level_of}

-- the literals are in range (2 for a live clause, 4 for an assessed one; levels are V long by 1), and "each level .. at most V" (3), which is 65,536 at most (1)
pub record Levelled (levels lits : List ℕ) : Type 0 where
  pub inside : (j : ℕ) → j < length lits → var_of (at lits j) < length levels
  pub low : (j : ℕ) → j < length lits → level_of levels lits j ≤ 65536
