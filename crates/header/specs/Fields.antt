-- The fields of word 1 as a table: "tier in bits 0-1 .., deleted bit 2, mark bit 3, glue bits 4-9, active bit 10, rest zero". Field i lies from its start up to the next one's.
use Rattle.std.specs.Prelude.{Bool, ◌&&◌, [], ◌∷◌, ℕ, suc, ◌-◌, leb}
use Rattle.laws.specs.Fold.{all_below}
use Rattle.laws.specs.Lists.{at}

-- 0 tier, 1 deleted, 2 mark, 3 glue, 4 active, 5 the rest; 32 is the word's end
abbrev pub start : ℕ → ℕ
start i = at (0 ∷ 2 ∷ 3 ∷ 4 ∷ 10 ∷ 11 ∷ 32 ∷ []) i

abbrev pub width : ℕ → ℕ
width i = start (suc i) - start i

-- field i ends by field j's start
unfoldable pub ends_by : ℕ → ℕ → Bool
ends_by j i = leb (start (suc i)) (start j)

-- no field overlaps one before it, and each ends behind its start: the test over the whole table
unfoldable pub clear_of : ℕ → Bool
clear_of j = all_below (ends_by j) j && leb (start j) (start (suc j))
