-- What bump, decay and rescale change of a store: the words, the clause list with its used length, bump and inverse decay.
use Rattle.std.specs.Prelude.{◌≡◌, false, List, [], ℕ, ◌+◌, ◌≤◌, ◌<◌, length, take}
use Rattle.laws.specs.Lists.{at, fill}
use Rattle.kinds.specs.Clauses.{activity_at, deleted_at}
use Rattle.kinds.specs.Held.{Held, held_of}
use Rattle.kinds.specs.declared.ClauseActivity.{ClauseActivity}

pub record Stored : Type 0 where
  pub words : List ℕ
  -- the whole buffer of the clause list
  pub clauses : List ℕ
  pub listed : ℕ
  pub activity : ClauseActivity

-- a store of these parts alone
abbrev pub alone : List ℕ → List ℕ → ClauseActivity → Held
alone words list a = held_of 0 words 0 list [] [] [] [] 0 0 a (record { values = []; kinds = []; reasons = []; levels = []; trail = []; level = 0 })

-- the same out of the buffers: n entries of the clause list are used
abbrev pub holding : List ℕ → List ℕ → ℕ → ClauseActivity → Held
holding words clauses n a = alone words (take n clauses) a

-- these parts of a store h, laid into the buffers: the clause list's, of which n entries were used
abbrev pub stored : List ℕ → ℕ → Held → Stored
stored clauses n h = record { words = h.words; clauses = fill clauses n h.clauses; listed = length h.clauses; activity = h.activity }

-- ---- what the judging of 1 and 2 establishes

-- "a used length .. above its room" is refused, and "each clause ends by .. the used length": a header stands at each entry
pub record Placed (words clauses : List ℕ) (n : ℕ) : Type 0 where
  pub within : n ≤ length clauses
  pub there : (k : ℕ) → k < n → at clauses k + 3 ≤ length words

-- the live clauses' activities are from +0 to the float of the pattern m
pub record Bounded (m : ℕ) (words clauses : List ℕ) (n : ℕ) : Type 0 where
  pub placed : Placed words clauses n
  pub bound : (k : ℕ) → k < n → deleted_at words (at clauses k) ≡ false → activity_at words (at clauses k) ≤ m

-- an activity that may be rescaled: at most twice the limit, which bounds the sum of an activity and a bump
abbrev pub twice_limit : ℕ
twice_limit = 0x7dff_ffff

abbrev pub Loud : List ℕ → ℕ → Type 0
Loud words o = (o < length words) × (activity_at words o ≤ twice_limit)

abbrev pub AllLoud : List ℕ → List ℕ → Type 0
AllLoud words list = (k : ℕ) → k < length list → Loud words (at list k)

-- the offset of a clause: no entry's word 1 stands there
abbrev pub Away : List ℕ → ℕ → ℕ → Type 0
Away clauses n offset = (k : ℕ) → k < n → at clauses k + 1 ≡ offset → ⊥
