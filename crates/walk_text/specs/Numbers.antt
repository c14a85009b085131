-- Numbers and lists of numbers as text.
use Rattle.std.specs.Prelude.{cond, List, [], ◌∷◌, ◌++◌, ℕ, zero, suc, ◌+◌, ◌/◌, ◌%◌, ltb}

-- n in decimal by at most k digits, without a zero in front: what stands before the last digit, and the last digit
unfoldable pub spelled : ℕ → ℕ → List ℕ
spelled zero n = []
spelled (suc k) n = cond (ltb n 10) [] (spelled k (n / 10)) ++ ((48 + n % 10) ∷ [])

-- 20 digits hold every number below 2^64
abbrev pub decimal : ℕ → List ℕ
decimal n = spelled 20 n

-- each number with a comma before it
unfoldable pub further : List ℕ → List ℕ
further [] = []
further (n ∷ ns) = 44 ∷ (decimal n ++ further ns)

-- "lists are comma-separated, empty lists print nothing"
unfoldable pub commas : List ℕ → List ℕ
commas [] = []
commas (n ∷ ns) = decimal n ++ further ns
