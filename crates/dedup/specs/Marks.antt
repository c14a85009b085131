-- A tier's list without its stale and repeated entries, by means of the mark bit.
use Rattle.std.specs.Prelude.{◌≡◌, List, [], ℕ, ◌+◌, ◌*◌, ◌/◌, ◌%◌, ◌≤◌, ◌<◌, length, get_or, take, drop}
use Rattle.laws.specs.Counts.{count}
use Rattle.laws.specs.Fold.{fold_list}
use Rattle.calls.specs.Reducing.{kept_first}

-- each entry has a word 1, whose mark is 0 where it is an entry of the tier: bits 0 to 2 are the tier and the deleted bit, bit 3 is the mark
pub record Entry (ws : List ℕ) (t r : ℕ) : Type 0 where
  pub within : r + 1 < length ws
  pub plain : get_or ws (r + 1) 0 % 8 ≡ t → get_or ws (r + 1) 0 / 8 % 2 ≡ 0

abbrev pub Entries : List ℕ → ℕ → List ℕ → Type 0
Entries ws t l = (j : ℕ) → j < length l → Entry ws t (get_or l j 0)

-- ws' is ws with the mark, 8, added at each reference of l
pub record Marked (l ws ws' : List ℕ) : Type 0 where
  pub first : get_or ws' 0 0 ≡ get_or ws 0 0
  pub rest : (r : ℕ) → get_or ws' (r + 1) 0 ≡ get_or ws (r + 1) 0 + 8 * count r l

-- what was added at each reference of l is there: the mark bit is set
pub record Unmarkable (l ws : List ℕ) : Type 0 where
  pub within : (j : ℕ) → j < length l → get_or l j 0 + 1 < length ws
  pub set : (r : ℕ) → 0 < count r l → get_or ws (r + 1) 0 / 8 % 2 ≡ 1
  pub once : (r : ℕ) → count r l ≤ 1

-- of the list l₀, whose first n entries are used, the first k of l are kept; the rest of the buffer is as it was
pub record Kept (ws : List ℕ) (t n : ℕ) (l₀ l : List ℕ) (k : ℕ) : Type 0 where
  pub few : k ≤ n
  pub kept : take k l ≡ fold_list (kept_first ws t) [] (take n l₀)
  pub rest : drop n l ≡ drop n l₀
