use Rattle.judge_rows.specs.Held.{held}
use Rattle.judge_rows.specs.Sparse.{UpsIn}
use Rattle.judge_rows.proofs.RangedRows.up_row.Given as goal

abbrev pub invariant-loop-b : goal.invariant-loop-b
invariant-loop-b l = UpsIn (held l.self.rows) l.c l.row l.b-index l.ups
