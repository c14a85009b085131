use mathlib.Core.Path.{refl, sym, ap}
use Rattle.laws.proofs.Tests.{and_out, and_in, passed, failed}
use Rattle.kinds.specs.Lent.{lent, lent_by}
use Rattle.calls.specs.Call.{everything}
use Rattle.judge_pieces.proofs.Pieces.{sizes_everything, store_everything, host_whole}
use Rattle.judge.proofs.Ways.{one, two, three, none, five_sizes, five_store, host_answer, five_listed, moved_host, moved_listed, rows_size, record_size, side_size, rows_store, rows_asked, five_vars}
use mathlib.Core.Bool.{not}
use Rattle.judge.proofs.judge_all.Goals as goal

pub returns-then-not-five_sized : goal.returns-then-not-five_sized
returns-then-not-five_sized c =
    let a = c.args in
    let k = lent a.s a.words.now a.clauses.now a.irred.now a.core.now a.mid.now a.local.now a.rows.now a.counts.now a.rec.now (lent_by a.host) in
    (one everything k (sizes_everything k) (and_out _ (five_sizes a.s a.words.now a.clauses.now a.irred.now a.core.now a.mid.now a.local.now a.rows.now a.counts.now a.rec.now (lent_by a.host) c.five_sized.ensures) (ap not c.if-not-five_sized.true)), refl)

pub returns-then-not-rows_sized : goal.returns-then-not-rows_sized
returns-then-not-rows_sized c =
    let a = c.args in
    let k = lent a.s a.words.now a.clauses.now a.irred.now a.core.now a.mid.now a.local.now a.rows.now a.counts.now a.rec.now (lent_by a.host) in
    (one everything k (sizes_everything k) (and_in (five_sizes a.s a.words.now a.clauses.now a.irred.now a.core.now a.mid.now a.local.now a.rows.now a.counts.now a.rec.now (lent_by a.host) c.five_sized.ensures) (ap not c.if-not-five_sized.false) (and_out _ (rows_size a.s a.words.now a.clauses.now a.irred.now a.core.now a.mid.now a.local.now a.rows.now a.counts.now a.rec.now (lent_by a.host) c.rows_sized.ensures) (ap not c.if-not-rows_sized.true))), refl)

pub returns-then-not-record_sized : goal.returns-then-not-record_sized
returns-then-not-record_sized c =
    let a = c.args in
    let k = lent a.s a.words.now a.clauses.now a.irred.now a.core.now a.mid.now a.local.now a.rows.now a.counts.now a.rec.now (lent_by a.host) in
    (one everything k (sizes_everything k) (and_in (five_sizes a.s a.words.now a.clauses.now a.irred.now a.core.now a.mid.now a.local.now a.rows.now a.counts.now a.rec.now (lent_by a.host) c.five_sized.ensures) (ap not c.if-not-five_sized.false) (and_in (rows_size a.s a.words.now a.clauses.now a.irred.now a.core.now a.mid.now a.local.now a.rows.now a.counts.now a.rec.now (lent_by a.host) c.rows_sized.ensures) (ap not c.if-not-rows_sized.false) (and_out _ (record_size a.s a.words.now a.clauses.now a.irred.now a.core.now a.mid.now a.local.now a.rows.now a.counts.now a.rec.now (lent_by a.host) c.record_sized.ensures) (ap not c.if-not-record_sized.true)))), refl)

pub returns-then-not-side_sized : goal.returns-then-not-side_sized
returns-then-not-side_sized c =
    let a = c.args in
    let k = lent a.s a.words.now a.clauses.now a.irred.now a.core.now a.mid.now a.local.now a.rows.now a.counts.now a.rec.now (lent_by a.host) in
    (one everything k (sizes_everything k) (and_in (five_sizes a.s a.words.now a.clauses.now a.irred.now a.core.now a.mid.now a.local.now a.rows.now a.counts.now a.rec.now (lent_by a.host) c.five_sized.ensures) (ap not c.if-not-five_sized.false) (and_in (rows_size a.s a.words.now a.clauses.now a.irred.now a.core.now a.mid.now a.local.now a.rows.now a.counts.now a.rec.now (lent_by a.host) c.rows_sized.ensures) (ap not c.if-not-rows_sized.false) (and_in (record_size a.s a.words.now a.clauses.now a.irred.now a.core.now a.mid.now a.local.now a.rows.now a.counts.now a.rec.now (lent_by a.host) c.record_sized.ensures) (ap not c.if-not-record_sized.false) (sym (failed (side_size a.s a.words.now a.clauses.now a.irred.now a.core.now a.mid.now a.local.now a.rows.now a.counts.now a.rec.now (lent_by a.host) c.side_sized.ensures) (ap not c.if-not-side_sized.true)))))), refl)

pub returns-then-not-five_pass : goal.returns-then-not-five_pass
returns-then-not-five_pass c =
    let a = c.args in
    let k = lent a.s a.words.now a.clauses.now a.irred.now a.core.now a.mid.now a.local.now a.rows.now a.counts.now a.rec.now (lent_by a.host) in
    (two everything k (sizes_everything k) (and_in (five_sizes a.s a.words.now a.clauses.now a.irred.now a.core.now a.mid.now a.local.now a.rows.now a.counts.now a.rec.now (lent_by a.host) c.five_sized.ensures) (ap not c.if-not-five_sized.false) (and_in (rows_size a.s a.words.now a.clauses.now a.irred.now a.core.now a.mid.now a.local.now a.rows.now a.counts.now a.rec.now (lent_by a.host) c.rows_sized.ensures) (ap not c.if-not-rows_sized.false) (and_in (record_size a.s a.words.now a.clauses.now a.irred.now a.core.now a.mid.now a.local.now a.rows.now a.counts.now a.rec.now (lent_by a.host) c.record_sized.ensures) (ap not c.if-not-record_sized.false) (sym (passed (side_size a.s a.words.now a.clauses.now a.irred.now a.core.now a.mid.now a.local.now a.rows.now a.counts.now a.rec.now (lent_by a.host) c.side_sized.ensures) (ap not c.if-not-side_sized.false)))))) (store_everything k) (and_out _ (five_store a.s a.words.now a.clauses.now a.irred.now a.core.now a.mid.now a.local.now a.rows.now a.counts.now a.rec.now (lent_by a.host) c.five_pass.ensures.0) (ap not c.if-not-five_pass.true)), c.five_pass.ensures.1)

pub rows_pass-requires : goal.rows_pass-requires
rows_pass-requires c =
    let a = c.args in
    let k = lent a.s a.words.now a.clauses.now a.irred.now a.core.now a.mid.now a.local.now a.rows.now a.counts.now a.rec.now (lent_by a.host) in
    rows_asked k (five_vars k (passed (five_sizes a.s a.words.now a.clauses.now a.irred.now a.core.now a.mid.now a.local.now a.rows.now a.counts.now a.rec.now (lent_by a.host) c.five_sized.ensures) (ap not c.if-not-five_sized.false))) (passed (rows_size a.s a.words.now a.clauses.now a.irred.now a.core.now a.mid.now a.local.now a.rows.now a.counts.now a.rec.now (lent_by a.host) c.rows_sized.ensures) (ap not c.if-not-rows_sized.false))

pub returns-then-not-rows_pass : goal.returns-then-not-rows_pass
returns-then-not-rows_pass c =
    let a = c.args in
    let k = lent a.s a.words.now a.clauses.now a.irred.now a.core.now a.mid.now a.local.now a.rows.now a.counts.now a.rec.now (lent_by a.host) in
    (two everything k (sizes_everything k) (and_in (five_sizes a.s a.words.now a.clauses.now a.irred.now a.core.now a.mid.now a.local.now a.rows.now a.counts.now a.rec.now (lent_by a.host) c.five_sized.ensures) (ap not c.if-not-five_sized.false) (and_in (rows_size a.s a.words.now a.clauses.now a.irred.now a.core.now a.mid.now a.local.now a.rows.now a.counts.now a.rec.now (lent_by a.host) c.rows_sized.ensures) (ap not c.if-not-rows_sized.false) (and_in (record_size a.s a.words.now a.clauses.now a.irred.now a.core.now a.mid.now a.local.now a.rows.now a.counts.now a.rec.now (lent_by a.host) c.record_sized.ensures) (ap not c.if-not-record_sized.false) (sym (passed (side_size a.s a.words.now a.clauses.now a.irred.now a.core.now a.mid.now a.local.now a.rows.now a.counts.now a.rec.now (lent_by a.host) c.side_sized.ensures) (ap not c.if-not-side_sized.false)))))) (store_everything k) (and_in (five_store a.s a.words.now a.clauses.now a.irred.now a.core.now a.mid.now a.local.now a.rows.now a.counts.now a.rec.now (lent_by a.host) c.five_pass.ensures.0) (ap not c.if-not-five_pass.false) (sym (failed (rows_store k c.rows_pass.ensures) (ap not c.if-not-rows_pass.true)))), c.five_pass.ensures.1)

pub host_passes-requires : goal.host_passes-requires
host_passes-requires c =
    let a = c.args in
    let k = lent a.s a.words.now a.clauses.now a.irred.now a.core.now a.mid.now a.local.now a.rows.now a.counts.now a.rec.now (lent_by a.host) in
    moved_listed a.s a.words.now a.clauses.now a.irred.now a.core.now a.mid.now a.local.now a.rows.now a.counts.now a.rec.now (lent_by a.host) _ c.five_pass.ensures.1 (five_listed a.s a.words.now a.clauses.now a.irred.now a.core.now a.mid.now a.local.now a.rows.now a.counts.now a.rec.now (lent_by a.host) (passed (five_sizes a.s a.words.now a.clauses.now a.irred.now a.core.now a.mid.now a.local.now a.rows.now a.counts.now a.rec.now (lent_by a.host) c.five_sized.ensures) (ap not c.if-not-five_sized.false)) (passed (side_size a.s a.words.now a.clauses.now a.irred.now a.core.now a.mid.now a.local.now a.rows.now a.counts.now a.rec.now (lent_by a.host) c.side_sized.ensures) (ap not c.if-not-side_sized.false)) (passed (five_store a.s a.words.now a.clauses.now a.irred.now a.core.now a.mid.now a.local.now a.rows.now a.counts.now a.rec.now (lent_by a.host) c.five_pass.ensures.0) (ap not c.if-not-five_pass.false)))

pub returns-then-not-host_passes : goal.returns-then-not-host_passes
returns-then-not-host_passes c =
    let a = c.args in
    let k = lent a.s a.words.now a.clauses.now a.irred.now a.core.now a.mid.now a.local.now a.rows.now a.counts.now a.rec.now (lent_by a.host) in
    (three everything k (sizes_everything k) (and_in (five_sizes a.s a.words.now a.clauses.now a.irred.now a.core.now a.mid.now a.local.now a.rows.now a.counts.now a.rec.now (lent_by a.host) c.five_sized.ensures) (ap not c.if-not-five_sized.false) (and_in (rows_size a.s a.words.now a.clauses.now a.irred.now a.core.now a.mid.now a.local.now a.rows.now a.counts.now a.rec.now (lent_by a.host) c.rows_sized.ensures) (ap not c.if-not-rows_sized.false) (and_in (record_size a.s a.words.now a.clauses.now a.irred.now a.core.now a.mid.now a.local.now a.rows.now a.counts.now a.rec.now (lent_by a.host) c.record_sized.ensures) (ap not c.if-not-record_sized.false) (sym (passed (side_size a.s a.words.now a.clauses.now a.irred.now a.core.now a.mid.now a.local.now a.rows.now a.counts.now a.rec.now (lent_by a.host) c.side_sized.ensures) (ap not c.if-not-side_sized.false)))))) (store_everything k) (and_in (five_store a.s a.words.now a.clauses.now a.irred.now a.core.now a.mid.now a.local.now a.rows.now a.counts.now a.rec.now (lent_by a.host) c.five_pass.ensures.0) (ap not c.if-not-five_pass.false) (sym (passed (rows_store k c.rows_pass.ensures) (ap not c.if-not-rows_pass.false)))) (host_whole k).3 (sym (failed (host_answer a.s a.words.now a.clauses.now a.irred.now a.core.now a.mid.now a.local.now a.rows.now a.counts.now a.rec.now (lent_by a.host) (moved_host a.s a.words.now a.clauses.now a.irred.now a.core.now a.mid.now a.local.now a.rows.now a.counts.now a.rec.now (lent_by a.host) _ c.five_pass.ensures.1 c.host_passes.ensures)) (ap not c.if-not-host_passes.true))), c.five_pass.ensures.1)

pub returns : goal.returns
returns c =
    let a = c.args in
    let k = lent a.s a.words.now a.clauses.now a.irred.now a.core.now a.mid.now a.local.now a.rows.now a.counts.now a.rec.now (lent_by a.host) in
    (none everything k (sizes_everything k) (and_in (five_sizes a.s a.words.now a.clauses.now a.irred.now a.core.now a.mid.now a.local.now a.rows.now a.counts.now a.rec.now (lent_by a.host) c.five_sized.ensures) (ap not c.if-not-five_sized.false) (and_in (rows_size a.s a.words.now a.clauses.now a.irred.now a.core.now a.mid.now a.local.now a.rows.now a.counts.now a.rec.now (lent_by a.host) c.rows_sized.ensures) (ap not c.if-not-rows_sized.false) (and_in (record_size a.s a.words.now a.clauses.now a.irred.now a.core.now a.mid.now a.local.now a.rows.now a.counts.now a.rec.now (lent_by a.host) c.record_sized.ensures) (ap not c.if-not-record_sized.false) (sym (passed (side_size a.s a.words.now a.clauses.now a.irred.now a.core.now a.mid.now a.local.now a.rows.now a.counts.now a.rec.now (lent_by a.host) c.side_sized.ensures) (ap not c.if-not-side_sized.false)))))) (store_everything k) (and_in (five_store a.s a.words.now a.clauses.now a.irred.now a.core.now a.mid.now a.local.now a.rows.now a.counts.now a.rec.now (lent_by a.host) c.five_pass.ensures.0) (ap not c.if-not-five_pass.false) (sym (passed (rows_store k c.rows_pass.ensures) (ap not c.if-not-rows_pass.false)))) (host_whole k).3 (sym (passed (host_answer a.s a.words.now a.clauses.now a.irred.now a.core.now a.mid.now a.local.now a.rows.now a.counts.now a.rec.now (lent_by a.host) (moved_host a.s a.words.now a.clauses.now a.irred.now a.core.now a.mid.now a.local.now a.rows.now a.counts.now a.rec.now (lent_by a.host) _ c.five_pass.ensures.1 c.host_passes.ensures)) (ap not c.if-not-host_passes.false))), c.five_pass.ensures.1)
