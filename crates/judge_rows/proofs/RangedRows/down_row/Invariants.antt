use Rattle.std.proofs.Common.{◌≡◌}
use Rattle.laws.specs.Fold.{count_below}
use Rattle.judge_rows.specs.Held.{held}
use Rattle.judge_rows.specs.Sparse.{down_at}
use Rattle.judge_rows.proofs.RangedRows.down_row.Given as goal

abbrev pub invariant-loop-b : goal.invariant-loop-b
invariant-loop-b l = l.n ≡ count_below (down_at (held l.self.rows) l.c) l.b-index
