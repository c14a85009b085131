use Rattle.std.proofs.Common.{◌≡◌, true}
use Rattle.laws.specs.Fold.{all_below}
use Rattle.judge_rows.specs.Held.{held}
use Rattle.judge_rows.specs.Sparse.{sparse_at}
use Rattle.judge_rows.proofs.RangedRows.entries_sparse.Given as goal

abbrev pub invariant-loop-b : goal.invariant-loop-b
invariant-loop-b l = all_below (sparse_at (held l.self.rows) l.c) l.b-index ≡ true
