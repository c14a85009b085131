use mathlib.Core.Path.{refl}
use mathlib.Core.Bool.{true}
use mathlib.Core.List.{List}
use Prim.Native.Nat.{ℕ}
use Rattle.std.proofs.lemmas.Result.{err_from_is_err_and}
use Rattle.kinds.specs.Lent.{Lent, lent, lent_by}
use Rattle.calls.specs.Call.{unit_simplify, parts}
use Rattle.calls.specs.Outcome.{rebuild, step, answer}
use Rattle.replies.proofs.Ways.{judge_refused, own_refused, step_taken}
use Rattle.unit_simplify.proofs.unit_simplify.Goals as goal

pub returns-in_err-judge_all : goal.returns-in_err-judge_all
unfolding parts
returns-in_err-judge_all c =
    let a = c.args in
    let k : List ℕ → Lent = λ w. lent a.s w a.clauses.now a.irred.now a.core.now a.mid.now a.local.now a.rows.now a.counts.now a.rec.now (lent_by a.host) in
    let p = err_from_is_err_and c.from_residual.result c.from_residual.ensures.1 in
    rw (p.1, p.2) (judge_refused unit_simplify k c.in_err-judge_all.ensures.1 c.in_err-judge_all.field-0.0 c.in_err-judge_all.ensures.0)

pub returns-in_err-refuse_unit_simplify : goal.returns-in_err-refuse_unit_simplify
unfolding parts
returns-in_err-refuse_unit_simplify c =
    let a = c.args in
    let k : List ℕ → Lent = λ w. lent a.s w a.clauses.now a.irred.now a.core.now a.mid.now a.local.now a.rows.now a.counts.now a.rec.now (lent_by a.host) in
    let p = err_from_is_err_and c.from_residual-in_err-refuse_unit_simplify.result c.from_residual-in_err-refuse_unit_simplify.ensures.1 in
    rw (p.1, p.2) (own_refused unit_simplify k c.in_ok-judge_all.ensures.1 c.in_ok-judge_all.ensures.0 c.in_err-refuse_unit_simplify.field-0.0 c.in_err-refuse_unit_simplify.ensures)

pub returns : goal.returns
unfolding parts step answer
returns c =
    let a = c.args in
    let k : List ℕ → Lent = λ w. lent a.s w a.clauses.now a.irred.now a.core.now a.mid.now a.local.now a.rows.now a.counts.now a.rec.now (lent_by a.host) in
    step_taken unit_simplify k c.in_ok-judge_all.ensures.1 c.in_ok-judge_all.ensures.0 c.in_ok-refuse_unit_simplify.ensures c.simplify-simplified.ensures (rebuild true) refl
