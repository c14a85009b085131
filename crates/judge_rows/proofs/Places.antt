-- Where the row of a code lies in the buffer. Assumes nothing.
use mathlib.Core.Path.{◌≡◌, refl, sym, ap, ◌∙◌}
use mathlib.Core.List.{List, [], ◌∷◌}
use Prim.Native.Nat.{ℕ, zero, suc, ◌+◌, ◌-◌, ◌*◌, ◌^◌, ◌≤◌, ◌<◌}
use native.Mathlib.Omega.{arith}
use native.Mathlib.Nat.{zero-mul, suc-mul, mul-le-mul_right, mul-div-le, le_of_suc-le-suc, not-suc-le-zero}
use lib.ListN.{length, take, drop, length-drop}
use lib.Seq.{drop-drop, length-take-le}
use Rattle.laws.specs.Fold.{sum_below}
use Rattle.laws.specs.Lists.{at, list_at}
use Rattle.laws.proofs.Totals.{sum_le, sum_next}
use Rattle.kinds.specs.Lent.{room_of}
use Rattle.kinds.specs.Layout.{rows_of}
use Rattle.calls.specs.StorePasses.{row_length}
use Rattle.judge_rows.specs.Rows.{rows_in, RowsSized}

-- "a row of literals per code in one buffer": row c begins behind c rooms
pub row_at : (m : ℕ) (counts buf : List ℕ) (c : ℕ) → c < length counts → list_at (rows_of m counts buf) c ≡ take (at counts c) (drop (c * m) buf)
unfolding rows_of
row_at m [] buf c h = absurd (not-suc-le-zero h)
row_at m (n ∷ ns) buf zero h = rw (zero-mul m)
row_at m (n ∷ ns) buf (suc c) h =
    let e : suc c * m ≡ m + c * m = omega (arith, suc-mul c m) in
    rw e (row_at m ns (drop m buf) c (le_of_suc-le-suc h) ∙ ap (take (at ns c)) (drop-drop (c * m) m buf))

module _ (v : ℕ) (rows counts : List ℕ) (z : RowsSized v rows counts) (c : ℕ) (h : c < 2 * v) where
  -- row c ends within the buffer
  pub row_ends : c * room_of v rows + room_of v rows ≤ length rows
  row_ends = omega (arith, mul-le-mul_right (room_of v rows) h, suc-mul c (room_of v rows), mul-div-le (length rows) (2 * v))

  pub row_is : list_at (rows_in v rows counts).rows c ≡ take (at counts c) (drop (c * room_of v rows) rows)
  row_is = row_at (room_of v rows) counts rows c (omega (arith, z.counted))

  pub length_is : at counts c ≡ row_length (rows_in v rows counts) c
  unfolding row_length
  length_is = sym (ap length row_is ∙ length-take-le (at counts c) (drop (c * room_of v rows) rows) (omega (arith, length-drop (c * room_of v rows) rows, row_ends, z.fits c h)))

  -- the part of the buffer from the row's beginning to its end
  pub part_is : take (c * room_of v rows + at counts c - c * room_of v rows) (drop (c * room_of v rows) rows) ≡ list_at (rows_in v rows counts).rows c
  part_is = let d : c * room_of v rows + at counts c - c * room_of v rows ≡ at counts c = omega arith in rw d (sym row_is)

-- all rows lie in the buffer
module _ (v : ℕ) (rows counts : List ℕ) (z : RowsSized v rows counts) where
  pub sum_in : (c : ℕ) → c ≤ 2 * v → {n : ℕ} → n ≡ sum_below (row_length (rows_in v rows counts)) c → n ≤ 2 ^ 24
  sum_in c h e =
      let f = row_length (rows_in v rows counts) in
      let m = room_of v rows in
      let each : (k : ℕ) → k < c → f k ≤ m = λ k l. omega (arith, z.fits k (omega arith), length_is v rows counts z k (omega arith)) in
      omega (arith, z.small, sum_le f c m each, mul-le-mul_right m h, mul-div-le (length rows) (2 * v))

  pub sum_with : (c : ℕ) → c < 2 * v → {n x : ℕ} → n ≡ sum_below (row_length (rows_in v rows counts)) c → x ≡ row_length (rows_in v rows counts) c → n + x ≤ 2 ^ 24
  sum_with c h p q = sum_in (c + 1) (omega arith) (sum_next (row_length (rows_in v rows counts)) c p q refl)
