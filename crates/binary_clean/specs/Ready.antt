-- What cleaning stands on: the judging has found the sizes right (1) and the row entries in range (2).
use Rattle.std.specs.Prelude.{◌≡◌, List, ℕ, ◌+◌, ◌*◌, ◌^◌, ◌≤◌, ◌<◌, length}
use Rattle.laws.specs.Lists.{at}

pub record RowsReady (room : ℕ) (counts rows values : List ℕ) : Type 0 where
  pub counted : (c : ℕ) → c < length counts → at counts c ≤ room
  pub square : length counts * room ≤ length rows
  pub most : length rows ≤ 2 ^ 24
  pub codes : length counts ≡ 2 * length values
  pub few : length counts ≤ 131072
  pub in_range : (c p : ℕ) → c < length counts → p < at counts c → at rows (c * room + p) < length counts
