use mathlib.Core.Path.{refl}
use mathlib.Core.Bool.{true}
use mathlib.Core.List.{List, []}
use Prim.Native.Nat.{ℕ}
use Rattle.std.proofs.lemmas.Result.{err_from_is_err_and}
use Rattle.kinds.specs.Lent.{Lent, lent, lent_by}
use Rattle.calls.specs.Call.{delete, parts}
use Rattle.calls.specs.Outcome.{rebuild, step, answer}
use Rattle.replies.proofs.Ways.{judge_refused, own_refused, step_taken}
use Rattle.delete_calls.proofs.delete_clause.Goals as goal

pub returns-in_err-judge_five_record_host : goal.returns-in_err-judge_five_record_host
unfolding parts
returns-in_err-judge_five_record_host c =
    let a = c.args in
    let k : List ℕ → Lent = λ w. lent a.s w a.clauses.now a.irred.now a.core.now a.mid.now a.local.now [] [] a.rec.now (lent_by a.host) in
    let p = err_from_is_err_and c.from_residual.result c.from_residual.ensures.1 in
    rw (p.1, p.2) (judge_refused (delete a.cref.0) k c.in_err-judge_five_record_host.ensures.1 c.in_err-judge_five_record_host.field-0.0 c.in_err-judge_five_record_host.ensures.0)

pub returns-in_err-refuse_delete : goal.returns-in_err-refuse_delete
unfolding parts
returns-in_err-refuse_delete c =
    let a = c.args in
    let k : List ℕ → Lent = λ w. lent a.s w a.clauses.now a.irred.now a.core.now a.mid.now a.local.now [] [] a.rec.now (lent_by a.host) in
    let p = err_from_is_err_and c.from_residual-in_err-refuse_delete.result c.from_residual-in_err-refuse_delete.ensures.1 in
    rw (p.1, p.2) (own_refused (delete a.cref.0) k c.in_ok-judge_five_record_host.ensures.1 c.in_ok-judge_five_record_host.ensures.0 c.in_err-refuse_delete.field-0.0 c.in_err-refuse_delete.ensures)

pub returns : goal.returns
unfolding parts step answer
returns c =
    let a = c.args in
    let k : List ℕ → Lent = λ w. lent a.s w a.clauses.now a.irred.now a.core.now a.mid.now a.local.now [] [] a.rec.now (lent_by a.host) in
    step_taken (delete a.cref.0) k c.in_ok-judge_five_record_host.ensures.1 c.in_ok-judge_five_record_host.ensures.0 c.in_ok-refuse_delete.ensures c.strike_clause-state.ensures (rebuild true) refl
