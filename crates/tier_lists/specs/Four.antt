-- The four tier lists, by the tier's number.
use Rattle.std.specs.Prelude.{List, [], ◌∷◌, ℕ}

abbrev pub four : List ℕ → List ℕ → List ℕ → List ℕ → List (List ℕ)
four irred core mid local = irred ∷ core ∷ mid ∷ local ∷ []
