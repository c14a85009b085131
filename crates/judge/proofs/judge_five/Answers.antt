use mathlib.Core.Path.{refl, sym, ap}
use mathlib.Core.List.{[]}
use Rattle.laws.proofs.Tests.{passed, failed}
use Rattle.kinds.specs.Lent.{lent, no_host}
use Rattle.calls.specs.Call.{five_lists}
use Rattle.judge_pieces.proofs.Pieces.{sizes_five, store_five, host_none}
use Rattle.judge.proofs.Ways.{one, two, none, five_sizes, five_store}
use mathlib.Core.Bool.{not}
use Rattle.judge.proofs.judge_five.Goals as goal

pub returns-then-not-five_sized : goal.returns-then-not-five_sized
returns-then-not-five_sized c =
    let a = c.args in
    let k = lent a.s a.words.now a.clauses.now a.irred.now a.core.now a.mid.now a.local.now [] [] [] no_host in
    (one five_lists k (sizes_five k) (sym (failed (five_sizes a.s a.words.now a.clauses.now a.irred.now a.core.now a.mid.now a.local.now [] [] [] no_host c.five_sized.ensures) (ap not c.if-not-five_sized.true))), refl)

pub returns-then-not-five_pass : goal.returns-then-not-five_pass
returns-then-not-five_pass c =
    let a = c.args in
    let k = lent a.s a.words.now a.clauses.now a.irred.now a.core.now a.mid.now a.local.now [] [] [] no_host in
    (two five_lists k (sizes_five k) (sym (passed (five_sizes a.s a.words.now a.clauses.now a.irred.now a.core.now a.mid.now a.local.now [] [] [] no_host c.five_sized.ensures) (ap not c.if-not-five_sized.false))) (store_five k) (sym (failed (five_store a.s a.words.now a.clauses.now a.irred.now a.core.now a.mid.now a.local.now [] [] [] no_host c.five_pass.ensures.0) (ap not c.if-not-five_pass.true))), c.five_pass.ensures.1)

pub returns : goal.returns
returns c =
    let a = c.args in
    let k = lent a.s a.words.now a.clauses.now a.irred.now a.core.now a.mid.now a.local.now [] [] [] no_host in
    (none five_lists k (sizes_five k) (sym (passed (five_sizes a.s a.words.now a.clauses.now a.irred.now a.core.now a.mid.now a.local.now [] [] [] no_host c.five_sized.ensures) (ap not c.if-not-five_sized.false))) (store_five k) (sym (passed (five_store a.s a.words.now a.clauses.now a.irred.now a.core.now a.mid.now a.local.now [] [] [] no_host c.five_pass.ensures.0) (ap not c.if-not-five_pass.false))) (host_none k).1 (refl), c.five_pass.ensures.1)
