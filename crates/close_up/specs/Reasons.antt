-- Long reasons that follow their clauses, taken by the clauses, as in the source: the clause list is read once.
use Rattle.std.specs.Prelude.{Bool, cond, ◌&&◌, List, [], ◌∷◌, ℕ, ◌+◌, set, eqb}
use Rattle.laws.specs.Lists.{at}
use Rattle.kinds.specs.Clauses.{first_at, size_at, deleted_at, var_of}
use Rattle.kinds.specs.Held.{is_true}

-- "an asserting clause: first literal true, its reason this clause"; l is the first literal of the clause at o
abbrev pub asserted_by : List ℕ → List ℕ → List ℕ → ℕ → ℕ → Bool
asserted_by values kinds reasons l o = is_true values l && (eqb (at kinds (var_of l)) 3 && eqb (at reasons (var_of l)) o)

-- the clause at o goes to p
unfoldable pub redirected : List ℕ → List ℕ → List ℕ → ℕ → ℕ → ℕ → List ℕ
redirected values kinds reasons l o p = cond (asserted_by values kinds reasons l o) (set reasons (var_of l) p) reasons

-- the live clauses of a list go, one behind the other, to the places from p on
unfoldable pub redirected_all : List ℕ → List ℕ → List ℕ → ℕ → List ℕ → List ℕ → List ℕ
redirected_all ws values kinds p [] reasons = reasons
redirected_all ws values kinds p (o ∷ os) reasons =
    cond (deleted_at ws o)
    (redirected_all ws values kinds p os reasons)
    (redirected_all ws values kinds (p + size_at ws o) os (redirected values kinds reasons (first_at ws o) o p))
