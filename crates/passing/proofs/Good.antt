-- All that passing says of what is held, by the entries of the lists: the form in which each step keeps it. Assumes nothing.
use mathlib.Core.Path.{◌≡◌}
use mathlib.Core.Bool.{true, false}
use mathlib.Core.List.{List}
use Prim.Native.Nat.{ℕ, ◌+◌, ◌-◌, ◌*◌, ◌≤◌, ◌<◌}
use lib.ListN.{length}
use lib.Dec.{T}
use lib.Ieee.{Float, binary32, to_bits, fits}
use Rattle.laws.specs.Fold.{sum_below}
use Rattle.laws.specs.Lists.{at, list_at}
use Rattle.laws.specs.Counts.{count}
use Rattle.laws.proofs.Members.{In}
use Rattle.kinds.specs.Clauses.{len_at, first_at, deleted_at, var_of, neg}
use Rattle.kinds.specs.Floats.{limit_bits}
use Rattle.kinds.specs.Held.{Held, Side, is_false, kind_of, reason_word}
use Rattle.calls.proofs.Readings.{HostSide}
use Rattle.passing.proofs.Store.{Store, Live}

-- the activities of live clauses
abbrev pub Quiet : List ℕ → List ℕ → Type 0
Quiet w l = (o : ℕ) → In o l → deleted_at w o ≡ false → at w o ≤ limit_bits

abbrev pub row_size : List (List ℕ) → ℕ → ℕ
row_size rows c = length (list_at rows c)

-- the rows, and half the number of their entries
pub record Even (v : ℕ) (rows : List (List ℕ)) (b : ℕ) : Type 0 where
  pub long : length rows ≡ 2 * v
  pub below : (c x : ℕ) → c < 2 * v → In x (list_at rows c) → x < 2 * v
  pub apart : (c x : ℕ) → c < 2 * v → In x (list_at rows c) → var_of x ≡ var_of c → ⊥
  pub even : (x y : ℕ) → x < 2 * v → y < 2 * v → count y (list_at rows (neg x)) ≡ count x (list_at rows (neg y))
  pub half : b * 2 ≡ sum_below (row_size rows) (2 * v)

-- bump and inverse decay
pub record Tuned (b i : Float) : Type 0 where
  pub bump : to_bits binary32 b < limit_bits
  pub above : 0x3f80_0000 < to_bits binary32 i
  pub below : to_bits binary32 i < 0x4180_0000
  pub bump_fits : T (fits binary32 b)
  pub inverse_fits : T (fits binary32 i)

-- a long reason's clause
pub record ReasonIn (w l values : List ℕ) (x o : ℕ) : Type 0 where
  pub live : Live w l o
  pub first : first_at w o ≡ x
  pub others : (i : ℕ) → i < len_at w o - 1 → is_false values (at w (o + 4 + i)) ≡ true

abbrev pub Reasons : List ℕ → List ℕ → Side → Type 0
Reasons w l s = (j : ℕ) → j < length s.trail → kind_of s (at s.trail j) ≡ 3 → ReasonIn w l s.values (at s.trail j) (reason_word s (at s.trail j))

-- the host's side, with the lengths of its buffers
pub record Sided (v : ℕ) (s : Side) : Type 0 where
  pub side : HostSide v s
  pub levels : (x : ℕ) → x < v → at s.levels x ≤ v
  pub values_long : length s.values ≡ v
  pub kinds_long : length s.kinds ≡ v
  pub reasons_long : length s.reasons ≡ v

-- what is held passes, with the clause list l; the clauses of p are still to be entered into their tier's list
pub record Good (h : Held) (l p : List ℕ) : Type 0 where
  pub store : Store h.vars h.words h.used l h.counts h.garbage h.tiers p
  pub quiet : Quiet h.words l
  pub rows : Even h.vars h.rows h.binary
  pub tuned : Tuned h.activity.bump h.activity.inv_decay
  pub sided : Sided h.vars h.host
  pub reasons : Reasons h.words l h.host

-- with the clause list that is held
abbrev pub Whole : Held → List ℕ → Type 0
Whole h p = Good h h.clauses p
