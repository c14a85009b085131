-- What the refusals of reduce.rs count, clause by clause of the clause list.
use Rattle.std.specs.Prelude.{◌≡◌, Bool, false, not, ◌&&◌, List, ℕ, ◌+◌, ◌*◌, ◌≤◌, ◌<◌, length, eqb, ltb}
use Rattle.laws.specs.Fold.{one, count_below}
use Rattle.laws.specs.Lists.{at}
use Rattle.kinds.specs.Header.{tier_of, deleted_of, active_of}
use Rattle.kinds.specs.Clauses.{head_at, len_at, first_at, tier_at, deleted_at, var_of}
use Rattle.calls.specs.Reducing.{sort_key}
use Rattle.asserting.specs.Reads.{asserting_in}

-- word 1 of each clause lies within the words
abbrev pub HeadsIn : List ℕ → List ℕ → ℕ → Type 0
HeadsIn w l n = (i : ℕ) → i < n → at l i + 1 < length w

-- a live clause of Mid that is not active goes to Local
unfoldable pub inactive_mid : ℕ → Bool
inactive_mid x = not (eqb (deleted_of x) 1) && (eqb (tier_of x) 2 && not (eqb (active_of x) 1))

unfoldable pub inactive_at : List ℕ → List ℕ → ℕ → Bool
inactive_at w l i = inactive_mid (head_at w (at l i))

-- ---- locals: those that go are the first of the live clauses of Local that are not asserting, in the order of their keys

unfoldable pub goer : List ℕ → List ℕ → List ℕ → List ℕ → ℕ → Bool
goer w values kinds reasons x = not (deleted_at w x) && (eqb (tier_at w x) 3 && not (asserting_in w values kinds reasons x))

-- those of them whose key is below a bound
unfoldable pub goes : List ℕ → List ℕ → List ℕ → List ℕ → ℕ → ℕ → Bool
goes w values kinds reasons key x = goer w values kinds reasons x && ltb (sort_key w x) key

unfoldable pub goes_at : List ℕ → List ℕ → List ℕ → List ℕ → ℕ → List ℕ → ℕ → Bool
goes_at w values kinds reasons key l i = goes w values kinds reasons key (at l i)

-- the words of its line
unfoldable pub line_at : List ℕ → List ℕ → List ℕ → List ℕ → ℕ → List ℕ → ℕ → ℕ
line_at w values kinds reasons key l i = one (goes w values kinds reasons key (at l i)) * (len_at w (at l i) + 2)

-- a clause of the list lies within the words, and the first literal of a live one is in range
pub record ClauseIn (w : List ℕ) (v o : ℕ) : Type 0 where
  pub within : o + 3 ≤ length w
  pub longer : deleted_at w o ≡ false → o + 3 < length w
  pub first : deleted_at w o ≡ false → var_of (first_at w o) < v

abbrev pub ClausesIn : List ℕ → ℕ → List ℕ → ℕ → Type 0
ClausesIn w v l n = (i : ℕ) → i < n → ClauseIn w v (at l i)

-- the count rises by one at most from a bound to the next, from none, as keys are different
abbrev pub Rising : List ℕ → List ℕ → List ℕ → List ℕ → List ℕ → ℕ → Type 0
Rising w values kinds reasons l n = (key : ℕ) → count_below (goes_at w values kinds reasons (key + 1) l) n ≤ count_below (goes_at w values kinds reasons key l) n + 1
