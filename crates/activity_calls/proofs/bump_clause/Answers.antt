use mathlib.Core.Path.{refl}
use mathlib.Core.List.{List}
use Prim.Native.Nat.{ℕ}
use Rattle.std.proofs.lemmas.Result.{err_from_is_err_and}
use Rattle.kinds.specs.Lent.{Lent, lent_five, levels_only}
use Rattle.calls.specs.Call.{bump, parts}
use Rattle.calls.specs.Outcome.{nothing, step, answer}
use Rattle.replies.proofs.Ways.{judge_refused, own_refused, step_taken}
use Rattle.activity_calls.proofs.bump_clause.Goals as goal

pub returns-in_err-judge_five_levels : goal.returns-in_err-judge_five_levels
unfolding parts
returns-in_err-judge_five_levels c =
    let a = c.args in
    let k : List ℕ → Lent = λ w. lent_five a.s w a.clauses.now a.irred.now a.core.now a.mid.now a.local.now (levels_only a.levels.now) in
    let p = err_from_is_err_and c.from_residual.result c.from_residual.ensures.1 in
    rw (p.1, p.2) (judge_refused (bump a.cref.0) k c.in_err-judge_five_levels.ensures.1 c.in_err-judge_five_levels.field-0.0 c.in_err-judge_five_levels.ensures.0)

pub returns-in_err-refuse_bump : goal.returns-in_err-refuse_bump
unfolding parts
returns-in_err-refuse_bump c =
    let a = c.args in
    let k : List ℕ → Lent = λ w. lent_five a.s w a.clauses.now a.irred.now a.core.now a.mid.now a.local.now (levels_only a.levels.now) in
    let p = err_from_is_err_and c.from_residual-in_err-refuse_bump.result c.from_residual-in_err-refuse_bump.ensures.1 in
    rw (p.1, p.2) (own_refused (bump a.cref.0) k c.in_ok-judge_five_levels.ensures.1 c.in_ok-judge_five_levels.ensures.0 c.in_err-refuse_bump.field-0.0 c.in_err-refuse_bump.ensures)

pub returns : goal.returns
unfolding parts step answer
returns c =
    let a = c.args in
    let k : List ℕ → Lent = λ w. lent_five a.s w a.clauses.now a.irred.now a.core.now a.mid.now a.local.now (levels_only a.levels.now) in
    step_taken (bump a.cref.0) k c.in_ok-judge_five_levels.ensures.1 c.in_ok-judge_five_levels.ensures.0 c.in_ok-refuse_bump.ensures c.bump-bumped.ensures nothing refl
