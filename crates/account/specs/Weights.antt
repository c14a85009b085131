-- Clauses are counted by weights: every step is accounted for under any weight that ignores the order of literals.
use Rattle.std.specs.Prelude.{◌≡◌, Bool, cond, ℕ, ◌+◌, ◌≤◌, length, ltb}
use mathlib.Core.List.{List, [], ◌∷◌, Permᴰ}
use Rattle.kinds.specs.Clauses.{Clause, clause_at, pair, deleted_at, end_at, neg}
use Rattle.kinds.specs.Lines.{Line, of_kind, is_entry, is_strike}
use Rattle.kinds.specs.Held.{Held}

-- what some clauses weigh together
unfoldable pub total : (Clause → ℕ) → List Clause → ℕ
total w [] = 0
total w (c ∷ cs) = w c + total w cs

-- a weight that ignores the order of literals
abbrev pub Blind : (Clause → ℕ) → Type 0
Blind w = (b : Bool) (c d : List ℕ) → Permᴰ c d → w (record { original = b; lits = c }) ≡ w (record { original = b; lits = d })

-- what the clause at o weighs: nothing if it is deleted
unfoldable pub weigh : (Clause → ℕ) → List ℕ → ℕ → ℕ
weigh w ws o = cond (deleted_at ws o) 0 (w (clause_at ws o))

-- what an entry b of the row of the code r weighs: a pair is told once
unfoldable pub entry : (Clause → ℕ) → ℕ → ℕ → ℕ
entry w r b = cond (ltb (neg r) b) (w (pair (neg r) b)) 0

-- what lines enter, and what they strike
abbrev pub entered : (Clause → ℕ) → List Line → ℕ
entered w ls = total w (of_kind is_entry ls)

abbrev pub struck_in : (Clause → ℕ) → List Line → ℕ
struck_in w ls = total w (of_kind is_strike ls)

-- the listed clauses rise from lo on, do not overlap, and end by hi
abbrev pub Chain : ℕ → ℕ → List ℕ → List ℕ → Type 0
Chain lo hi ws [] = lo ≤ hi
Chain lo hi ws (o ∷ os) = (lo ≤ o) × Chain (end_at ws o) hi ws os

-- the listed clauses rise and lie in the used words, and these in the buffer
pub record Chained (h : Held) : Type 0 where
  pub chain : Chain 0 h.used h.words h.clauses
  pub room : h.used ≤ length h.words
