-- The lines of `prove_units`, by the reason of each trail literal, and what the step stands on.
use Rattle.std.specs.Prelude.{◌≡◌, List, [], ◌∷◌, ◌++◌, ℕ, zero, suc, ◌^◌, ◌≤◌, ◌<◌, length, drop, set}
use Rattle.laws.specs.Lists.{at}
use Rattle.kinds.specs.Clauses.{len_at, lits_at, end_at, var_of}
use Rattle.kinds.specs.Lines.{line, line_words}
use Rattle.kinds.specs.Numbers.{reason_of}
use Rattle.kinds.specs.declared.Reason.{Reason}
use Rattle.kinds.specs.declared.Reason.TheVariants.{None, Unit as UnitReason, Binary, Long, Removed}

-- "1 unit (the unit, then the rest of its reason's clause)"; a unit's own reason asks for no line
abbrev pub reason_line : List ℕ → Reason → ℕ → List ℕ
reason_line ws None l = []
reason_line ws UnitReason l = []
reason_line ws (Binary b) l = line_words (line 1 (l ∷ b.0 ∷ []))
reason_line ws (Long c) l = line_words (line 1 (l ∷ drop 1 (lits_at ws c.0)))
reason_line ws Removed l = []

-- a long reason's clause lies in the words and has a first literal
abbrev pub ReasonIn : List ℕ → Reason → Type 0
ReasonIn ws None = Unit {0}
ReasonIn ws UnitReason = Unit {0}
ReasonIn ws (Binary b) = Unit {0}
ReasonIn ws (Long c) = (end_at ws c.0 ≤ length ws) × (1 ≤ len_at ws c.0)
ReasonIn ws Removed = Unit {0}

-- the lines of the first n trail literals, by the reasons as they came
unfoldable pub trail_lines : List ℕ → List ℕ → List ℕ → List ℕ → ℕ → List ℕ
trail_lines ws kinds reasons trail zero = []
trail_lines ws kinds reasons trail (suc n) = trail_lines ws kinds reasons trail n ++ reason_line ws (reason_of (at kinds (var_of (at trail n))) (at reasons (var_of (at trail n)))) (at trail n)

-- x for the variables of the first n trail literals
unfoldable pub trail_set : ℕ → List ℕ → List ℕ → ℕ → List ℕ
trail_set x l trail zero = l
trail_set x l trail (suc n) = set (trail_set x l trail n) (var_of (at trail n)) x

-- what the judging has established of the trail's first n literals (1, 2 and 3)
pub record TrailReady (words kinds reasons levels trail : List ℕ) (n : ℕ) : Type 0 where
  pub short : n ≤ length trail
  pub in_kinds : (j : ℕ) → j < n → var_of (at trail j) < length kinds
  pub in_reasons : (j : ℕ) → j < n → var_of (at trail j) < length reasons
  pub in_levels : (j : ℕ) → j < n → var_of (at trail j) < length levels
  pub apart : (i j : ℕ) → i < j → j < n → var_of (at trail i) ≡ var_of (at trail j) → ⊥
  pub low : (j : ℕ) → j < n → 1 ≤ at kinds (var_of (at trail j))
  pub high : (j : ℕ) → j < n → at kinds (var_of (at trail j)) ≤ 3
  pub long : (j : ℕ) → j < n → at kinds (var_of (at trail j)) ≡ 3 → (end_at words (at reasons (var_of (at trail j))) ≤ length words) × (1 ≤ len_at words (at reasons (var_of (at trail j))))
  pub most : length words ≤ 2 ^ 24
