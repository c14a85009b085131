-- What the judging of long reasons speaks of: words, the clause list and the host's side.
use Rattle.std.specs.Prelude.{◌≡◌, Bool, true, List, [], ℕ, ◌≤◌, ◌<◌, length}
use Rattle.kinds.specs.Floats.{unity}
use Rattle.kinds.specs.Setters.{activity_of}
use Rattle.kinds.specs.Held.{is_false, Held, Side, held_of}
use Rattle.calls.specs.StorePasses.{placed, clauses_ok, live_at}
use Rattle.laws.specs.Lists.{at}
use Rattle.kinds.specs.Clauses.{len_at}
use Rattle.judge_host.specs.Sides.{side_of}

-- number i of some literals is false
unfoldable pub false_at : List ℕ → List ℕ → ℕ → Bool
false_at values lits i = is_false values (at lits i)

-- a store of words and clauses alone, beside a host's side
abbrev pub besides : List ℕ → List ℕ → Side → Held
besides words clauses s = held_of 0 words 0 clauses [] [] [] [] 0 0 (activity_of unity unity) s

-- the same beside an assignment alone
abbrev pub under : List ℕ → List ℕ → List ℕ → Held
under words clauses values = besides words clauses (side_of values [] [] [] [] 0)

-- what refusals 1 and 2 leave of the words and the first n entries of the clause list
pub record Listed (w : List ℕ) (v used : ℕ) (l : List ℕ) (n : ℕ) : Type 0 where
  pub room : used ≤ length w
  pub listed : n ≤ length l
  pub lies : placed w used l n ≡ true
  pub good : clauses_ok w v l n ≡ true

-- the same of a clause list that is its used part, as far as a clause is read here
pub record Readable (w : List ℕ) (used : ℕ) (l : List ℕ) : Type 0 where
  pub room : used ≤ length w
  pub lies : placed w used l (length l) ≡ true
  pub three : (i : ℕ) → i < length l → live_at w l i ≡ true → 3 ≤ len_at w (at l i)
