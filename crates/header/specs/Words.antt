-- The three header words of the clause at an offset, and the words with others there.
use Rattle.std.specs.Prelude.{List, [], ◌∷◌, ℕ, ◌+◌, set}
use Rattle.laws.specs.Lists.{at}

abbrev pub header_at : List ℕ → ℕ → List ℕ
header_at ws o = at ws o ∷ at ws (o + 1) ∷ at ws (o + 2) ∷ []

abbrev pub header_stored : List ℕ → ℕ → List ℕ → List ℕ
header_stored ws o d = set (set (set ws o (at d 0)) (o + 1) (at d 1)) (o + 2) (at d 2)
