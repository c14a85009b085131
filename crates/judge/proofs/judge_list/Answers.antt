use mathlib.Core.Path.{refl, sym, ap}
use mathlib.Core.List.{[]}
use Rattle.laws.proofs.Tests.{passed, failed}
use Rattle.kinds.specs.Lent.{lent, no_host}
use Rattle.calls.specs.Call.{words_and_list}
use Rattle.judge_pieces.proofs.Pieces.{sizes_list, store_list, host_none}
use Rattle.judge.proofs.Ways.{one, two, none, list_sizes, list_store}
use mathlib.Core.Bool.{not}
use Rattle.judge.proofs.judge_list.Goals as goal

pub returns-then-not-list_sized : goal.returns-then-not-list_sized
returns-then-not-list_sized c =
    let a = c.args in
    let k = lent a.s a.words.now a.clauses.now [] [] [] [] [] [] [] no_host in
    one words_and_list k (sizes_list k) (sym (failed (list_sizes a.s a.words.now a.clauses.now [] [] [] [] [] [] [] no_host c.list_sized.ensures) (ap not c.if-not-list_sized.true)))

pub returns-then-not-list_passes : goal.returns-then-not-list_passes
returns-then-not-list_passes c =
    let a = c.args in
    let k = lent a.s a.words.now a.clauses.now [] [] [] [] [] [] [] no_host in
    two words_and_list k (sizes_list k) (sym (passed (list_sizes a.s a.words.now a.clauses.now [] [] [] [] [] [] [] no_host c.list_sized.ensures) (ap not c.if-not-list_sized.false))) (store_list k) (sym (failed (list_store a.s a.words.now a.clauses.now [] [] [] [] [] [] [] no_host c.list_passes.ensures) (ap not c.if-not-list_passes.true)))

pub returns : goal.returns
returns c =
    let a = c.args in
    let k = lent a.s a.words.now a.clauses.now [] [] [] [] [] [] [] no_host in
    none words_and_list k (sizes_list k) (sym (passed (list_sizes a.s a.words.now a.clauses.now [] [] [] [] [] [] [] no_host c.list_sized.ensures) (ap not c.if-not-list_sized.false))) (store_list k) (sym (passed (list_store a.s a.words.now a.clauses.now [] [] [] [] [] [] [] no_host c.list_passes.ensures) (ap not c.if-not-list_passes.false))) (host_none k).0 (refl)
