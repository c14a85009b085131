use mathlib.Core.Path.{refl, sym, ap}
use mathlib.Core.List.{[]}
use Rattle.laws.proofs.Tests.{and_out, and_in, passed, failed}
use Rattle.judge.proofs.Ways.{one, two, none, rows_size, rows_store, rows_asked}
use Rattle.kinds.specs.Lent.{lent_rows, no_host}
use Rattle.calls.specs.Call.{only_rows}
use Rattle.judge_sizes.proofs.Whole.{floats_judged}
use Rattle.judge_pieces.proofs.Pieces.{sizes_rows, store_rows, host_none}
use mathlib.Core.Bool.{not}
use Rattle.judge.proofs.judge_rows.Goals as goal

pub returns-then-not-vars_in_range : goal.returns-then-not-vars_in_range
returns-then-not-vars_in_range c =
    let a = c.args in
    let k = lent_rows a.s a.rows.now a.counts.now in
    one only_rows k (sizes_rows k) (and_out _ c.vars_in_range.ensures (ap not c.if-not-vars_in_range.true))

pub returns-then-not-rows_sized : goal.returns-then-not-rows_sized
returns-then-not-rows_sized c =
    let a = c.args in
    let k = lent_rows a.s a.rows.now a.counts.now in
    one only_rows k (sizes_rows k) (and_in c.vars_in_range.ensures (ap not c.if-not-vars_in_range.false) (sym (failed (rows_size a.s [] [] [] [] [] [] a.rows.now a.counts.now [] no_host c.rows_sized.ensures) (ap not c.if-not-rows_sized.true))))

pub rows_pass-requires : goal.rows_pass-requires
rows_pass-requires c =
    let a = c.args in
    let k = lent_rows a.s a.rows.now a.counts.now in
    rows_asked k (passed c.vars_in_range.ensures (ap not c.if-not-vars_in_range.false)) (passed (rows_size a.s [] [] [] [] [] [] a.rows.now a.counts.now [] no_host c.rows_sized.ensures) (ap not c.if-not-rows_sized.false))

pub returns-then-not-rows_pass : goal.returns-then-not-rows_pass
returns-then-not-rows_pass c =
    let a = c.args in
    let k = lent_rows a.s a.rows.now a.counts.now in
    two only_rows k (sizes_rows k) (and_in c.vars_in_range.ensures (ap not c.if-not-vars_in_range.false) (sym (passed (rows_size a.s [] [] [] [] [] [] a.rows.now a.counts.now [] no_host c.rows_sized.ensures) (ap not c.if-not-rows_sized.false)))) (store_rows k) (and_out _ (rows_store k c.rows_pass.ensures) (ap not c.if-not-rows_pass.true))

pub returns-then-not-floats_pass : goal.returns-then-not-floats_pass
returns-then-not-floats_pass c =
    let a = c.args in
    let k = lent_rows a.s a.rows.now a.counts.now in
    two only_rows k (sizes_rows k) (and_in c.vars_in_range.ensures (ap not c.if-not-vars_in_range.false) (sym (passed (rows_size a.s [] [] [] [] [] [] a.rows.now a.counts.now [] no_host c.rows_sized.ensures) (ap not c.if-not-rows_sized.false)))) (store_rows k) (and_in (rows_store k c.rows_pass.ensures) (ap not c.if-not-rows_pass.false) (sym (failed (floats_judged k c.floats_pass.ensures) (ap not c.if-not-floats_pass.true))))

pub returns : goal.returns
returns c =
    let a = c.args in
    let k = lent_rows a.s a.rows.now a.counts.now in
    none only_rows k (sizes_rows k) (and_in c.vars_in_range.ensures (ap not c.if-not-vars_in_range.false) (sym (passed (rows_size a.s [] [] [] [] [] [] a.rows.now a.counts.now [] no_host c.rows_sized.ensures) (ap not c.if-not-rows_sized.false)))) (store_rows k) (and_in (rows_store k c.rows_pass.ensures) (ap not c.if-not-rows_pass.false) (sym (passed (floats_judged k c.floats_pass.ensures) (ap not c.if-not-floats_pass.false)))) (host_none k).2 (refl)
