use mathlib.Core.Path.{refl}
use mathlib.Core.List.{List}
use Prim.Native.Nat.{ℕ}
use Rattle.std.proofs.lemmas.Result.{err_from_is_err_and}
use Rattle.kinds.specs.Lent.{Lent, lent_five, no_host}
use Rattle.calls.specs.Call.{reduce_mids, parts}
use Rattle.calls.specs.Outcome.{nothing, step, answer}
use Rattle.replies.proofs.Ways.{judge_refused, own_refused, step_taken}
use Rattle.reduce_calls.proofs.reduce_mids.Goals as goal

pub returns-in_err-judge_five : goal.returns-in_err-judge_five
unfolding parts
returns-in_err-judge_five c =
    let a = c.args in
    let k : List ℕ → Lent = λ w. lent_five a.s w a.clauses.now a.irred.now a.core.now a.mid.now a.local.now no_host in
    let p = err_from_is_err_and c.from_residual.result c.from_residual.ensures.1 in
    rw (p.1, p.2) (judge_refused reduce_mids k c.in_err-judge_five.ensures.1 c.in_err-judge_five.field-0.0 c.in_err-judge_five.ensures.0)

pub returns-in_err-refuse_reduce_mids : goal.returns-in_err-refuse_reduce_mids
unfolding parts
returns-in_err-refuse_reduce_mids c =
    let a = c.args in
    let k : List ℕ → Lent = λ w. lent_five a.s w a.clauses.now a.irred.now a.core.now a.mid.now a.local.now no_host in
    let p = err_from_is_err_and c.from_residual-in_err-refuse_reduce_mids.result c.from_residual-in_err-refuse_reduce_mids.ensures.1 in
    rw (p.1, p.2) (own_refused reduce_mids k c.in_ok-judge_five.ensures.1 c.in_ok-judge_five.ensures.0 c.in_err-refuse_reduce_mids.field-0.0 c.in_err-refuse_reduce_mids.ensures)

pub returns : goal.returns
unfolding parts step answer
returns c =
    let a = c.args in
    let k : List ℕ → Lent = λ w. lent_five a.s w a.clauses.now a.irred.now a.core.now a.mid.now a.local.now no_host in
    step_taken reduce_mids k c.in_ok-judge_five.ensures.1 c.in_ok-judge_five.ensures.0 c.in_ok-refuse_reduce_mids.ensures c.mids.ensures nothing refl
