use Rattle.std.proofs.Common.{sym, ◌∙◌, arith}
use Rattle.std.proofs.lemmas.Bool.{eq-eqb, ne_eqb}
use Rattle.laws.proofs.Folds.{all_none, all_more, all_fails, all_end}
use Rattle.calls.specs.StorePasses.{row_length}
use Rattle.judge_rows.proofs.Sparse.{sparse_is}
use Rattle.judge_rows.proofs.Numbering.{no_ups, no_times, times_none, row_codes, row_out, row_test, ups_there}
use Rattle.judge_rows.proofs.RangedRows.symmetric.Goals as goal
use Rattle.judge_rows.proofs.RangedRows.symmetric.Goals.{then-not-entries_sparse-via-then-not-entries_sparse, then-not-entries_sparse-via-else-not-entries_sparse+then-down_row-ups}

pub loop-c-init : goal.loop-c-init
loop-c-init c = no_ups _ c.args.self.rows.sized.most

pub loop-c-2-init : goal.loop-c-2-init
loop-c-2-init c = (no_times, all_none _)

pub count-requires : goal.count-requires
count-requires c = (row_codes c.args.self _ c.loop-c-2-test.true _ c.row-row.ensures, times_none _ _ _ c.loop-c-2.invariant.0)

pub entries_sparse-requires : goal.entries_sparse-requires
unfolding row_length
entries_sparse-requires c = (c.loop-c-2-test.true, rw (← c.row-row.ensures) c.count.ensures)

pub returns-then-not-entries_sparse : goal.returns-then-not-entries_sparse
returns-then-not-entries_sparse c =
    elim c.then-not-entries_sparse.branch [
      | then-not-entries_sparse-via-then-not-entries_sparse w ↦ sym (all_fails _ _ _ c.loop-c-2-test.true (row_out _ _ c.entries_sparse.ensures w.if-not-entries_sparse.true)) ∙ sparse_is _ c.args.self.ranged
      | then-not-entries_sparse-via-else-not-entries_sparse+then-down_row-ups w ↦
          let test = row_test _ _ c.entries_sparse.ensures w.if-not-entries_sparse.false w.down_row.ensures (ups_there _ _ _ c.loop-c.invariant (omega arith) _ c.loop-c-2-test.true) in
          sym (all_fails _ _ _ c.loop-c-2-test.true (test ∙ ne_eqb _ _ w.if-down_row-ups.true)) ∙ sparse_is _ c.args.self.ranged
    ]

pub uncount-requires : goal.uncount-requires
uncount-requires c = (row_codes c.args.self _ c.loop-c-2-test.true _ c.row-row.ensures, c.count.ensures)

pub loop-c-2-preserved : goal.loop-c-2-preserved
loop-c-2-preserved c =
    let test = row_test _ _ c.entries_sparse.ensures c.if-not-entries_sparse.false c.down_row.ensures (ups_there _ _ _ c.loop-c.invariant (omega arith) _ c.loop-c-2-test.true) in
    (times_none _ _ _ c.uncount.ensures, all_more _ _ c.loop-c-2.invariant.1 (test ∙ eq-eqb _ _ c.if-down_row-ups.false))

pub returns : goal.returns
returns c = all_end _ _ _ c.loop-c-2.invariant.1 c.loop-c-2.auto.c-end c.loop-c-2-test.false ∙ sparse_is _ c.args.self.ranged
