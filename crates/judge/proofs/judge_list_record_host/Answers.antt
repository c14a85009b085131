use mathlib.Core.Path.{sym, ap}
use mathlib.Core.List.{[]}
use Rattle.laws.proofs.Tests.{and_out, and_in, passed, failed}
use Rattle.kinds.specs.Lent.{lent, lent_by}
use Rattle.calls.specs.Call.{words_record_host}
use Rattle.judge_pieces.proofs.Pieces.{sizes_list_record_host, store_list_record_host, host_whole}
use Rattle.judge.proofs.Ways.{one, two, three, none, list_sizes, list_store, host_answer, list_listed, record_size, side_size}
use mathlib.Core.Bool.{not}
use Rattle.judge.proofs.judge_list_record_host.Goals as goal

pub returns-then-not-list_sized : goal.returns-then-not-list_sized
returns-then-not-list_sized c =
    let a = c.args in
    let k = lent a.s a.words.now a.clauses.now [] [] [] [] [] [] a.rec.now (lent_by a.host) in
    one words_record_host k (sizes_list_record_host k) (and_out _ (list_sizes a.s a.words.now a.clauses.now [] [] [] [] [] [] a.rec.now (lent_by a.host) c.list_sized.ensures) (ap not c.if-not-list_sized.true))

pub returns-then-not-record_sized : goal.returns-then-not-record_sized
returns-then-not-record_sized c =
    let a = c.args in
    let k = lent a.s a.words.now a.clauses.now [] [] [] [] [] [] a.rec.now (lent_by a.host) in
    one words_record_host k (sizes_list_record_host k) (and_in (list_sizes a.s a.words.now a.clauses.now [] [] [] [] [] [] a.rec.now (lent_by a.host) c.list_sized.ensures) (ap not c.if-not-list_sized.false) (and_out _ (record_size a.s a.words.now a.clauses.now [] [] [] [] [] [] a.rec.now (lent_by a.host) c.record_sized.ensures) (ap not c.if-not-record_sized.true)))

pub returns-then-not-side_sized : goal.returns-then-not-side_sized
returns-then-not-side_sized c =
    let a = c.args in
    let k = lent a.s a.words.now a.clauses.now [] [] [] [] [] [] a.rec.now (lent_by a.host) in
    one words_record_host k (sizes_list_record_host k) (and_in (list_sizes a.s a.words.now a.clauses.now [] [] [] [] [] [] a.rec.now (lent_by a.host) c.list_sized.ensures) (ap not c.if-not-list_sized.false) (and_in (record_size a.s a.words.now a.clauses.now [] [] [] [] [] [] a.rec.now (lent_by a.host) c.record_sized.ensures) (ap not c.if-not-record_sized.false) (sym (failed (side_size a.s a.words.now a.clauses.now [] [] [] [] [] [] a.rec.now (lent_by a.host) c.side_sized.ensures) (ap not c.if-not-side_sized.true)))))

pub returns-then-not-list_passes : goal.returns-then-not-list_passes
returns-then-not-list_passes c =
    let a = c.args in
    let k = lent a.s a.words.now a.clauses.now [] [] [] [] [] [] a.rec.now (lent_by a.host) in
    two words_record_host k (sizes_list_record_host k) (and_in (list_sizes a.s a.words.now a.clauses.now [] [] [] [] [] [] a.rec.now (lent_by a.host) c.list_sized.ensures) (ap not c.if-not-list_sized.false) (and_in (record_size a.s a.words.now a.clauses.now [] [] [] [] [] [] a.rec.now (lent_by a.host) c.record_sized.ensures) (ap not c.if-not-record_sized.false) (sym (passed (side_size a.s a.words.now a.clauses.now [] [] [] [] [] [] a.rec.now (lent_by a.host) c.side_sized.ensures) (ap not c.if-not-side_sized.false))))) (store_list_record_host k) (sym (failed (list_store a.s a.words.now a.clauses.now [] [] [] [] [] [] a.rec.now (lent_by a.host) c.list_passes.ensures) (ap not c.if-not-list_passes.true)))

pub host_passes-requires : goal.host_passes-requires
host_passes-requires c =
    let a = c.args in
    let k = lent a.s a.words.now a.clauses.now [] [] [] [] [] [] a.rec.now (lent_by a.host) in
    list_listed a.s a.words.now a.clauses.now [] [] [] [] [] [] a.rec.now (lent_by a.host) (passed (list_sizes a.s a.words.now a.clauses.now [] [] [] [] [] [] a.rec.now (lent_by a.host) c.list_sized.ensures) (ap not c.if-not-list_sized.false)) (passed (side_size a.s a.words.now a.clauses.now [] [] [] [] [] [] a.rec.now (lent_by a.host) c.side_sized.ensures) (ap not c.if-not-side_sized.false)) (passed (list_store a.s a.words.now a.clauses.now [] [] [] [] [] [] a.rec.now (lent_by a.host) c.list_passes.ensures) (ap not c.if-not-list_passes.false))

pub returns-then-not-host_passes : goal.returns-then-not-host_passes
returns-then-not-host_passes c =
    let a = c.args in
    let k = lent a.s a.words.now a.clauses.now [] [] [] [] [] [] a.rec.now (lent_by a.host) in
    three words_record_host k (sizes_list_record_host k) (and_in (list_sizes a.s a.words.now a.clauses.now [] [] [] [] [] [] a.rec.now (lent_by a.host) c.list_sized.ensures) (ap not c.if-not-list_sized.false) (and_in (record_size a.s a.words.now a.clauses.now [] [] [] [] [] [] a.rec.now (lent_by a.host) c.record_sized.ensures) (ap not c.if-not-record_sized.false) (sym (passed (side_size a.s a.words.now a.clauses.now [] [] [] [] [] [] a.rec.now (lent_by a.host) c.side_sized.ensures) (ap not c.if-not-side_sized.false))))) (store_list_record_host k) (sym (passed (list_store a.s a.words.now a.clauses.now [] [] [] [] [] [] a.rec.now (lent_by a.host) c.list_passes.ensures) (ap not c.if-not-list_passes.false))) (host_whole k).2 (sym (failed (host_answer a.s a.words.now a.clauses.now [] [] [] [] [] [] a.rec.now (lent_by a.host) c.host_passes.ensures) (ap not c.if-not-host_passes.true)))

pub returns : goal.returns
returns c =
    let a = c.args in
    let k = lent a.s a.words.now a.clauses.now [] [] [] [] [] [] a.rec.now (lent_by a.host) in
    none words_record_host k (sizes_list_record_host k) (and_in (list_sizes a.s a.words.now a.clauses.now [] [] [] [] [] [] a.rec.now (lent_by a.host) c.list_sized.ensures) (ap not c.if-not-list_sized.false) (and_in (record_size a.s a.words.now a.clauses.now [] [] [] [] [] [] a.rec.now (lent_by a.host) c.record_sized.ensures) (ap not c.if-not-record_sized.false) (sym (passed (side_size a.s a.words.now a.clauses.now [] [] [] [] [] [] a.rec.now (lent_by a.host) c.side_sized.ensures) (ap not c.if-not-side_sized.false))))) (store_list_record_host k) (sym (passed (list_store a.s a.words.now a.clauses.now [] [] [] [] [] [] a.rec.now (lent_by a.host) c.list_passes.ensures) (ap not c.if-not-list_passes.false))) (host_whole k).2 (sym (passed (host_answer a.s a.words.now a.clauses.now [] [] [] [] [] [] a.rec.now (lent_by a.host) c.host_passes.ensures) (ap not c.if-not-host_passes.false)))
