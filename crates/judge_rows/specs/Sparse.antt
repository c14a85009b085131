-- Symmetry at the cost of the shorter row: an entry is counted in its partner's row only where that row is not the longer one, and the entries that are not are only numbered.
use Rattle.std.specs.Prelude.{◌≡◌, Bool, ◌&&◌, ◌||◌, List, ℕ, ◌+◌, ◌*◌, ◌^◌, ◌≤◌, ◌<◌, length, eqb, ltb}
use Rattle.laws.specs.Fold.{all_below, one, count_below, sum_below}
use Rattle.laws.specs.Lists.{at, list_at}
use Rattle.kinds.specs.Clauses.{neg}
use Rattle.kinds.specs.Held.{Held}
use Rattle.calls.specs.StorePasses.{stands_at, times_in, row_length}
use Rattle.judge_rows.specs.Rows.{entry_even}

-- the partner's row of an entry y in the row of r is the shorter one
unfoldable pub shorter : Held → ℕ → ℕ → Bool
shorter h r y = ltb (row_length h (neg y)) (row_length h r)

unfoldable pub down_at : Held → ℕ → ℕ → Bool
down_at h r k = shorter h r (at (list_at h.rows r) k)

-- the entries of the row of r whose partner's row is shorter
unfoldable pub down : Held → ℕ → ℕ
down h r = count_below (down_at h r) (row_length h r)

unfoldable pub up_from : Held → ℕ → ℕ → ℕ
up_from h r c = one (ltb (row_length h c) (row_length h r)) * times_in h c (neg r)

-- the entries of shorter rows whose partner's row is that of r
unfoldable pub up : Held → ℕ → ℕ
up h r = sum_below (up_from h r) (2 * h.vars)

unfoldable pub sparse_at : Held → ℕ → ℕ → Bool
sparse_at h r k = ltb (row_length h r) (row_length h (neg (at (list_at h.rows r) k))) || entry_even h r k

unfoldable pub sparse_row : Held → ℕ → Bool
sparse_row h r = all_below (sparse_at h r) (row_length h r) && eqb (down h r) (up h r)

-- ---- what the code keeps by code: the entries of the rows below c, and of the first k of the row of c

pub record Ups (h : Held) (c : ℕ) (ups : List ℕ) : Type 0 where
  pub long : length ups ≡ 131072
  pub each : (x : ℕ) → x < 2 * h.vars → at ups x ≡ sum_below (up_from h x) c

pub record UpsIn (h : Held) (c : ℕ) (row : List ℕ) (k : ℕ) (ups : List ℕ) : Type 0 where
  pub long : length ups ≡ 131072
  pub each : (x : ℕ) → x < 2 * h.vars → at ups x ≡ sum_below (up_from h x) c + one (ltb (length row) (row_length h x)) * count_below (stands_at row (neg x)) k

-- entries that are numbers of a table by code, and few enough to be counted there
pub record Codes (row : List ℕ) : Type 0 where
  pub few : length row ≤ 2 ^ 24
  pub each : (k : ℕ) → k < length row → at row k < 131072

-- how often each number stands among the first k entries of a row
pub record Times (row : List ℕ) (k : ℕ) (times : List ℕ) : Type 0 where
  pub long : length times ≡ 131072
  pub each : (x : ℕ) → at times x ≡ count_below (stands_at row x) k

-- .. among the entries from k on
pub record TimesLeft (row : List ℕ) (k : ℕ) (times : List ℕ) : Type 0 where
  pub long : length times ≡ 131072
  pub each : (x : ℕ) → at times x + count_below (stands_at row x) k ≡ count_below (stands_at row x) (length row)
