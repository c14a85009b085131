-- Text laid on a page of bytes.
use Rattle.std.specs.Prelude.{◌≡◌, List, ℕ, ◌+◌, min, length}
use Rattle.std.specs.Borrow.{MutBor}
use Rattle.std.proofs.lemmas.List.Edits.{sets}

-- the bytes, and the place where the next text goes
pub record Page : Type 0 where
  pub bytes : List ℕ
  pub next : ℕ

abbrev pub page : List ℕ → ℕ → Page
page bytes next = record { bytes = bytes; next = next }

-- a text laid over the bytes from the place on, and the place behind it: what lies past the page's end is cut, the other bytes stay
unfoldable pub written : List ℕ → Page → Page
written text p = page (sets p.bytes p.next text) (min (length p.bytes) (p.next + length text))

-- the slice that was lent, at its length, whatever stands on it
abbrev pub SameSlice : MutBor (List ℕ) → MutBor (List ℕ) → Type 0
SameSlice old new = (new.ghost_name ≡ old.ghost_name) × (length new.now ≡ length old.now)
