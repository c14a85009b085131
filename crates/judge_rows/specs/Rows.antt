-- The rows as a store holds them, and what the code tests of each entry.
use Rattle.std.specs.Prelude.{◌≡◌, Bool, List, [], ℕ, ◌*◌, ◌^◌, ◌≤◌, ◌<◌, length, eqb}
use Rattle.laws.specs.Lists.{at, list_at}
use Rattle.kinds.specs.Clauses.{neg}
use Rattle.kinds.specs.Floats.{unity}
use Rattle.kinds.specs.Lent.{room_of}
use Rattle.kinds.specs.Setters.{activity_of}
use Rattle.kinds.specs.Held.{Held, Side, held_of}
use Rattle.kinds.specs.Layout.{rows_of}
use Rattle.calls.specs.StorePasses.{times_in}

abbrev pub no_side : Side
no_side = record { values = []; kinds = []; reasons = []; levels = []; trail = []; level = 0 }

-- a store of rows alone
abbrev pub holding : ℕ → List (List ℕ) → Held
holding v rows = held_of v [] 0 [] [] rows [] [] 0 0 (activity_of unity unity) no_side

-- the rows that a buffer and the counts hold
abbrev pub rows_in : ℕ → List ℕ → List ℕ → Held
rows_in v rows counts = holding v (rows_of (room_of v rows) counts rows)

-- what refusal 1 leaves: V in range, a count per row, a buffer within its maximum, no count above its room
pub record RowsSized (v : ℕ) (rows counts : List ℕ) : Type 0 where
  pub some : 1 ≤ v
  pub most : v ≤ 65536
  pub counted : length counts ≡ 2 * v
  pub small : length rows ≤ 2 ^ 24
  pub fits : (c : ℕ) → c < 2 * v → at counts c ≤ room_of v rows

-- entry k of the row of the code c stands there as often as its partner in the partner's row
unfoldable pub entry_even : Held → ℕ → ℕ → Bool
entry_even h c k =
    let b = at (list_at h.rows c) k in
    eqb (times_in h c b) (times_in h (neg b) (neg c))
