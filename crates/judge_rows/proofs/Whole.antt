-- The judging of the rows, for what is lent. Assumes nothing.
use mathlib.Core.Path.{◌≡◌, sym, ◌∙◌}
use mathlib.Core.Bool.{Bool, true}
use Prim.Native.Nat.{◌*◌, ◌^◌}
use lib.ListN.{length}
use lib.Dec.{eqb, leb}
use borrow.Author.Tests.{leb-true, eqb-true}
use Rattle.laws.specs.Lists.{at}
use Rattle.laws.proofs.Folds.{and_left, and_right, all_at}
use Rattle.kinds.specs.Lent.{Lent, room_of}
use Rattle.kinds.specs.Held.{with_binary}
use Rattle.kinds.specs.Layout.{view}
use Rattle.calls.specs.Size.{vars_in_range, row_sized, rows_sized}
use Rattle.calls.specs.StorePasses.{rows_pass}
use Rattle.judge_rows.specs.Rows.{rows_in, RowsSized}
use Rattle.judge_rows.proofs.Ways.{rows_alone}

-- what `rows_pass` requires, where refusal 1 does not hold
pub rows_sized_lem : (k : Lent) → vars_in_range k.state.vars ≡ true → rows_sized k ≡ true → RowsSized k.state.vars k.rows k.counts
unfolding vars_in_range rows_sized row_sized
rows_sized_lem k p q =
    let v = k.state.vars in
    let r = and_right (leb (length k.rows) (2 ^ 24)) _ q in
    record {
      some = leb-true 1 v (and_left _ _ p);
      most = leb-true v 65536 (and_right (leb 1 v) _ p);
      counted = eqb-true (length k.counts) (2 * v) (and_left _ _ r);
      small = leb-true (length k.rows) (2 ^ 24) (and_left _ _ q);
      fits = λ c h. leb-true (at k.counts c) (room_of v k.rows) (all_at (row_sized k) (2 * v) (and_right (eqb (length k.counts) (2 * v)) _ r) c h);
    }

-- what `rows_pass` answers
pub rows_judged : (k : Lent) → {r : Bool} → r ≡ rows_pass (with_binary k.state.binary (rows_in k.state.vars k.rows k.counts)) → r ≡ rows_pass (view k)
unfolding view
rows_judged k p = p ∙ rows_alone (with_binary k.state.binary (rows_in k.state.vars k.rows k.counts)) ∙ sym (rows_alone (view k))
