-- Clauses of which no literal is assigned.
use Rattle.std.specs.Prelude.{◌≡◌, true, List, [], ◌∷◌, ℕ}
use Rattle.laws.specs.Lists.{list_at, elem}
use Rattle.kinds.specs.Clauses.{Clause}
use Rattle.kinds.specs.Held.{is_open}
use Rattle.calls.specs.Simplifying.{stays_in}

abbrev pub OpenLits : List ℕ → List ℕ → Type 0
OpenLits a ls = (x : ℕ) → elem x ls ≡ true → is_open a x ≡ true

abbrev pub AllOpen : List ℕ → List Clause → Type 0
AllOpen a [] = Unit {0}
AllOpen a (c ∷ cs) = OpenLits a c.lits × AllOpen a cs

-- rows that hold such clauses alone
abbrev pub RowsOpen : List ℕ → List (List ℕ) → Type 0
RowsOpen a rows = (r b : ℕ) → elem b (list_at rows r) ≡ true → stays_in a r b ≡ true
