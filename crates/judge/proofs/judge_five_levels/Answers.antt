use mathlib.Core.Path.{refl, sym, ap}
use mathlib.Core.List.{[]}
use Rattle.laws.proofs.Tests.{and_out, and_in, passed, failed}
use Rattle.kinds.specs.Lent.{lent, levels_only}
use Rattle.calls.specs.Call.{five_lists_levels}
use Rattle.judge_pieces.proofs.Pieces.{sizes_five_levels, store_five_levels, host_five_levels}
use Rattle.judge.proofs.Ways.{one, two, three, none, five_sizes, five_store, levels_size, levels_answer, levels_asked}
use mathlib.Core.Bool.{not}
use Rattle.judge.proofs.judge_five_levels.Goals as goal

pub returns-then-not-five_sized : goal.returns-then-not-five_sized
returns-then-not-five_sized c =
    let a = c.args in
    let k = lent a.s a.words.now a.clauses.now a.irred.now a.core.now a.mid.now a.local.now [] [] [] (levels_only a.levels.now) in
    (one five_lists_levels k (sizes_five_levels k) (and_out _ (five_sizes a.s a.words.now a.clauses.now a.irred.now a.core.now a.mid.now a.local.now [] [] [] (levels_only a.levels.now) c.five_sized.ensures) (ap not c.if-not-five_sized.true)), refl)

pub returns-then-not-levels_sized : goal.returns-then-not-levels_sized
returns-then-not-levels_sized c =
    let a = c.args in
    let k = lent a.s a.words.now a.clauses.now a.irred.now a.core.now a.mid.now a.local.now [] [] [] (levels_only a.levels.now) in
    (one five_lists_levels k (sizes_five_levels k) (and_in (five_sizes a.s a.words.now a.clauses.now a.irred.now a.core.now a.mid.now a.local.now [] [] [] (levels_only a.levels.now) c.five_sized.ensures) (ap not c.if-not-five_sized.false) (sym (failed (levels_size a.s.vars (levels_only a.levels.now) c.levels_sized.ensures) (ap not c.if-not-levels_sized.true)))), refl)

pub returns-then-not-five_pass : goal.returns-then-not-five_pass
returns-then-not-five_pass c =
    let a = c.args in
    let k = lent a.s a.words.now a.clauses.now a.irred.now a.core.now a.mid.now a.local.now [] [] [] (levels_only a.levels.now) in
    (two five_lists_levels k (sizes_five_levels k) (and_in (five_sizes a.s a.words.now a.clauses.now a.irred.now a.core.now a.mid.now a.local.now [] [] [] (levels_only a.levels.now) c.five_sized.ensures) (ap not c.if-not-five_sized.false) (sym (passed (levels_size a.s.vars (levels_only a.levels.now) c.levels_sized.ensures) (ap not c.if-not-levels_sized.false)))) (store_five_levels k) (sym (failed (five_store a.s a.words.now a.clauses.now a.irred.now a.core.now a.mid.now a.local.now [] [] [] (levels_only a.levels.now) c.five_pass.ensures.0) (ap not c.if-not-five_pass.true))), c.five_pass.ensures.1)

pub levels_pass-requires : goal.levels_pass-requires
levels_pass-requires c =
    let a = c.args in
    let k = lent a.s a.words.now a.clauses.now a.irred.now a.core.now a.mid.now a.local.now [] [] [] (levels_only a.levels.now) in
    levels_asked k (passed (levels_size a.s.vars (levels_only a.levels.now) c.levels_sized.ensures) (ap not c.if-not-levels_sized.false))

pub returns-then-not-levels_pass : goal.returns-then-not-levels_pass
returns-then-not-levels_pass c =
    let a = c.args in
    let k = lent a.s a.words.now a.clauses.now a.irred.now a.core.now a.mid.now a.local.now [] [] [] (levels_only a.levels.now) in
    (three five_lists_levels k (sizes_five_levels k) (and_in (five_sizes a.s a.words.now a.clauses.now a.irred.now a.core.now a.mid.now a.local.now [] [] [] (levels_only a.levels.now) c.five_sized.ensures) (ap not c.if-not-five_sized.false) (sym (passed (levels_size a.s.vars (levels_only a.levels.now) c.levels_sized.ensures) (ap not c.if-not-levels_sized.false)))) (store_five_levels k) (sym (passed (five_store a.s a.words.now a.clauses.now a.irred.now a.core.now a.mid.now a.local.now [] [] [] (levels_only a.levels.now) c.five_pass.ensures.0) (ap not c.if-not-five_pass.false))) (host_five_levels k) (sym (failed (levels_answer k c.levels_pass.ensures) (ap not c.if-not-levels_pass.true))), c.five_pass.ensures.1)

pub returns : goal.returns
returns c =
    let a = c.args in
    let k = lent a.s a.words.now a.clauses.now a.irred.now a.core.now a.mid.now a.local.now [] [] [] (levels_only a.levels.now) in
    (none five_lists_levels k (sizes_five_levels k) (and_in (five_sizes a.s a.words.now a.clauses.now a.irred.now a.core.now a.mid.now a.local.now [] [] [] (levels_only a.levels.now) c.five_sized.ensures) (ap not c.if-not-five_sized.false) (sym (passed (levels_size a.s.vars (levels_only a.levels.now) c.levels_sized.ensures) (ap not c.if-not-levels_sized.false)))) (store_five_levels k) (sym (passed (five_store a.s a.words.now a.clauses.now a.irred.now a.core.now a.mid.now a.local.now [] [] [] (levels_only a.levels.now) c.five_pass.ensures.0) (ap not c.if-not-five_pass.false))) (host_five_levels k) (sym (passed (levels_answer k c.levels_pass.ensures) (ap not c.if-not-levels_pass.false))), c.five_pass.ensures.1)
