-- The lines of the cleaning are few. Assumes nothing.
use mathlib.Core.Path.{ap}
use mathlib.Core.List.{List, [], ◌∷◌}
use Prim.Native.Nat.{ℕ, suc, ◌*◌, ◌^◌, ◌≤◌}
use native.Mathlib.Omega.{arith}
use native.Mathlib.Nat.{suc-mul}
use lib.ListN.{length, take, drop, length-append}
use lib.Seq.{length-take-le}
use Rattle.kinds.specs.Lines.{flat}
use Rattle.kinds.specs.Lent.{Lent, room_of}
use Rattle.kinds.specs.Layout.{rows_of}
use Rattle.kinds.proofs.Layouts.{Sized, sized_of}
use Rattle.calls.specs.Simplifying.{row_strikes, rows_strikes}
use Rattle.binary_clean.proofs.OneRow.{strikes_length}
use Rattle.binary_clean.proofs.AllRows.{flat_append}
use Rattle.simplify_room.specs.Needed.{RoomReady}

all_lines : (a : List ℕ) (r m : ℕ) (ns buf : List ℕ) → Sized m ns buf → length (flat (rows_strikes a r (rows_of m ns buf))) ≤ 4 * (length ns * m)
unfolding rows_strikes rows_of flat
all_lines a r m [] buf z = omega arith
all_lines a r m (n ∷ ns) buf (h, g, z) =
    omega (
      arith,
      ap length (flat_append (row_strikes a r (take n buf)) (rows_strikes a (suc r) (rows_of m ns (drop m buf)))),
      length-append (flat (row_strikes a r (take n buf))) (flat (rows_strikes a (suc r) (rows_of m ns (drop m buf)))),
      strikes_length a r (take n buf),
      length-take-le n buf (omega arith),
      all_lines a (suc r) m ns (drop m buf) z,
      suc-mul (length ns) m,
      h,
    )

pub lines_few : {k : Lent} → RoomReady k → length (flat (rows_strikes k.host.values 0 (rows_of (room_of k.state.vars k.rows) k.counts k.rows))) ≤ 4 * 2 ^ 24
lines_few {k} R =
    omega (arith, all_lines k.host.values 0 (room_of k.state.vars k.rows) k.counts k.rows (sized_of (room_of k.state.vars k.rows) k.counts k.rows R.rows.counted R.rows.square), R.rows.square, R.rows.most)
