use mathlib.Core.Path.{refl, sym, ap}
use mathlib.Core.List.{[]}
use Rattle.laws.proofs.Tests.{and_out, and_in, passed, failed}
use Rattle.kinds.specs.Lent.{lent, lent_by}
use Rattle.calls.specs.Call.{five_lists_host}
use Rattle.judge_pieces.proofs.Pieces.{sizes_five_host, store_five_host, host_whole}
use Rattle.judge.proofs.Ways.{one, two, three, none, five_sizes, five_store, host_answer, five_listed, moved_host, moved_listed, side_size}
use mathlib.Core.Bool.{not}
use Rattle.judge.proofs.judge_five_host.Goals as goal

pub returns-then-not-five_sized : goal.returns-then-not-five_sized
returns-then-not-five_sized c =
    let a = c.args in
    let k = lent a.s a.words.now a.clauses.now a.irred.now a.core.now a.mid.now a.local.now [] [] [] (lent_by a.host) in
    (one five_lists_host k (sizes_five_host k) (and_out _ (five_sizes a.s a.words.now a.clauses.now a.irred.now a.core.now a.mid.now a.local.now [] [] [] (lent_by a.host) c.five_sized.ensures) (ap not c.if-not-five_sized.true)), refl)

pub returns-then-not-side_sized : goal.returns-then-not-side_sized
returns-then-not-side_sized c =
    let a = c.args in
    let k = lent a.s a.words.now a.clauses.now a.irred.now a.core.now a.mid.now a.local.now [] [] [] (lent_by a.host) in
    (one five_lists_host k (sizes_five_host k) (and_in (five_sizes a.s a.words.now a.clauses.now a.irred.now a.core.now a.mid.now a.local.now [] [] [] (lent_by a.host) c.five_sized.ensures) (ap not c.if-not-five_sized.false) (sym (failed (side_size a.s a.words.now a.clauses.now a.irred.now a.core.now a.mid.now a.local.now [] [] [] (lent_by a.host) c.side_sized.ensures) (ap not c.if-not-side_sized.true)))), refl)

pub returns-then-not-five_pass : goal.returns-then-not-five_pass
returns-then-not-five_pass c =
    let a = c.args in
    let k = lent a.s a.words.now a.clauses.now a.irred.now a.core.now a.mid.now a.local.now [] [] [] (lent_by a.host) in
    (two five_lists_host k (sizes_five_host k) (and_in (five_sizes a.s a.words.now a.clauses.now a.irred.now a.core.now a.mid.now a.local.now [] [] [] (lent_by a.host) c.five_sized.ensures) (ap not c.if-not-five_sized.false) (sym (passed (side_size a.s a.words.now a.clauses.now a.irred.now a.core.now a.mid.now a.local.now [] [] [] (lent_by a.host) c.side_sized.ensures) (ap not c.if-not-side_sized.false)))) (store_five_host k) (sym (failed (five_store a.s a.words.now a.clauses.now a.irred.now a.core.now a.mid.now a.local.now [] [] [] (lent_by a.host) c.five_pass.ensures.0) (ap not c.if-not-five_pass.true))), c.five_pass.ensures.1)

pub host_passes-requires : goal.host_passes-requires
host_passes-requires c =
    let a = c.args in
    let k = lent a.s a.words.now a.clauses.now a.irred.now a.core.now a.mid.now a.local.now [] [] [] (lent_by a.host) in
    moved_listed a.s a.words.now a.clauses.now a.irred.now a.core.now a.mid.now a.local.now [] [] [] (lent_by a.host) _ c.five_pass.ensures.1 (five_listed a.s a.words.now a.clauses.now a.irred.now a.core.now a.mid.now a.local.now [] [] [] (lent_by a.host) (passed (five_sizes a.s a.words.now a.clauses.now a.irred.now a.core.now a.mid.now a.local.now [] [] [] (lent_by a.host) c.five_sized.ensures) (ap not c.if-not-five_sized.false)) (passed (side_size a.s a.words.now a.clauses.now a.irred.now a.core.now a.mid.now a.local.now [] [] [] (lent_by a.host) c.side_sized.ensures) (ap not c.if-not-side_sized.false)) (passed (five_store a.s a.words.now a.clauses.now a.irred.now a.core.now a.mid.now a.local.now [] [] [] (lent_by a.host) c.five_pass.ensures.0) (ap not c.if-not-five_pass.false)))

pub returns-then-not-host_passes : goal.returns-then-not-host_passes
returns-then-not-host_passes c =
    let a = c.args in
    let k = lent a.s a.words.now a.clauses.now a.irred.now a.core.now a.mid.now a.local.now [] [] [] (lent_by a.host) in
    (three five_lists_host k (sizes_five_host k) (and_in (five_sizes a.s a.words.now a.clauses.now a.irred.now a.core.now a.mid.now a.local.now [] [] [] (lent_by a.host) c.five_sized.ensures) (ap not c.if-not-five_sized.false) (sym (passed (side_size a.s a.words.now a.clauses.now a.irred.now a.core.now a.mid.now a.local.now [] [] [] (lent_by a.host) c.side_sized.ensures) (ap not c.if-not-side_sized.false)))) (store_five_host k) (sym (passed (five_store a.s a.words.now a.clauses.now a.irred.now a.core.now a.mid.now a.local.now [] [] [] (lent_by a.host) c.five_pass.ensures.0) (ap not c.if-not-five_pass.false))) (host_whole k).0 (sym (failed (host_answer a.s a.words.now a.clauses.now a.irred.now a.core.now a.mid.now a.local.now [] [] [] (lent_by a.host) (moved_host a.s a.words.now a.clauses.now a.irred.now a.core.now a.mid.now a.local.now [] [] [] (lent_by a.host) _ c.five_pass.ensures.1 c.host_passes.ensures)) (ap not c.if-not-host_passes.true))), c.five_pass.ensures.1)

pub returns : goal.returns
returns c =
    let a = c.args in
    let k = lent a.s a.words.now a.clauses.now a.irred.now a.core.now a.mid.now a.local.now [] [] [] (lent_by a.host) in
    (none five_lists_host k (sizes_five_host k) (and_in (five_sizes a.s a.words.now a.clauses.now a.irred.now a.core.now a.mid.now a.local.now [] [] [] (lent_by a.host) c.five_sized.ensures) (ap not c.if-not-five_sized.false) (sym (passed (side_size a.s a.words.now a.clauses.now a.irred.now a.core.now a.mid.now a.local.now [] [] [] (lent_by a.host) c.side_sized.ensures) (ap not c.if-not-side_sized.false)))) (store_five_host k) (sym (passed (five_store a.s a.words.now a.clauses.now a.irred.now a.core.now a.mid.now a.local.now [] [] [] (lent_by a.host) c.five_pass.ensures.0) (ap not c.if-not-five_pass.false))) (host_whole k).0 (sym (passed (host_answer a.s a.words.now a.clauses.now a.irred.now a.core.now a.mid.now a.local.now [] [] [] (lent_by a.host) (moved_host a.s a.words.now a.clauses.now a.irred.now a.core.now a.mid.now a.local.now [] [] [] (lent_by a.host) _ c.five_pass.ensures.1 c.host_passes.ensures)) (ap not c.if-not-host_passes.false))), c.five_pass.ensures.1)
