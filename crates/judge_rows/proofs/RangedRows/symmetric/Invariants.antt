use Rattle.std.proofs.Common.{◌≡◌, true, []}
use Rattle.laws.specs.Fold.{all_below}
use Rattle.judge_rows.specs.Held.{held}
use Rattle.judge_rows.specs.Sparse.{Ups, Times, sparse_row}
use Rattle.judge_rows.proofs.RangedRows.symmetric.Given as goal

abbrev pub invariant-loop-c : goal.invariant-loop-c
invariant-loop-c l = Ups (held l.self.rows) l.c l.ups

abbrev pub invariant-loop-c-2 : goal.invariant-loop-c-2
invariant-loop-c-2 l = Times [] 0 l.times × (all_below (sparse_row (held l.self.rows)) l.c ≡ true)
