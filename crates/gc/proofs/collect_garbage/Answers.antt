use mathlib.Core.Path.{ap}
use mathlib.Core.List.{List}
use Prim.Native.Nat.{ℕ}
use Rattle.std.proofs.lemmas.Result.{err_from_is_err_and}
use Rattle.kinds.specs.Lent.{Lent, lent_five, host_of}
use Rattle.calls.specs.Call.{collect, parts}
use Rattle.calls.specs.Outcome.{rebuild, step, answer}
use Rattle.replies.proofs.Ways.{judge_refused, own_refused, step_taken}
use Rattle.gc.proofs.collect_garbage.Goals as goal

pub returns-in_err-judge_five_host : goal.returns-in_err-judge_five_host
unfolding parts
returns-in_err-judge_five_host c =
    let a = c.args in
    let k : List ℕ → Lent = λ w. lent_five a.s w a.clauses.now a.irred.now a.core.now a.mid.now a.local.now (host_of a.values.now a.kinds.now a.reasons.now a.levels.now a.trail.now a.assigned a.level) in
    let p = err_from_is_err_and c.from_residual.result c.from_residual.ensures.1 in
    rw (p.1, p.2) (judge_refused collect k c.in_err-judge_five_host.ensures.1 c.in_err-judge_five_host.field-0.0 c.in_err-judge_five_host.ensures.0)

pub returns-in_err-refuse_collect : goal.returns-in_err-refuse_collect
unfolding parts
returns-in_err-refuse_collect c =
    let a = c.args in
    let k : List ℕ → Lent = λ w. lent_five a.s w a.clauses.now a.irred.now a.core.now a.mid.now a.local.now (host_of a.values.now a.kinds.now a.reasons.now a.levels.now a.trail.now a.assigned a.level) in
    let p = err_from_is_err_and c.from_residual-in_err-refuse_collect.result c.from_residual-in_err-refuse_collect.ensures.1 in
    rw (p.1, p.2) (own_refused collect k c.in_ok-judge_five_host.ensures.1 c.in_ok-judge_five_host.ensures.0 c.in_err-refuse_collect.field-0.0 c.in_err-refuse_collect.ensures)

pub returns : goal.returns
unfolding parts step answer
returns c =
    let a = c.args in
    let k : List ℕ → Lent = λ w. lent_five a.s w a.clauses.now a.irred.now a.core.now a.mid.now a.local.now (host_of a.values.now a.kinds.now a.reasons.now a.levels.now a.trail.now a.assigned a.level) in
    step_taken collect k c.in_ok-judge_five_host.ensures.1 c.in_ok-judge_five_host.ensures.0 c.in_ok-refuse_collect.ensures c.collect-collected.ensures.0 (rebuild c.collect-collected.result.rebuild) (ap rebuild c.collect-collected.ensures.1)
