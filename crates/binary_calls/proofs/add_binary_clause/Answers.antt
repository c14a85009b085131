use mathlib.Core.Path.{refl}
use Rattle.std.proofs.lemmas.Result.{err_from_is_err_and}
use Rattle.kinds.specs.Lent.{Lent, lent_rows}
use Rattle.calls.specs.Call.{add_binary, parts}
use Rattle.calls.specs.Outcome.{nothing, step, answer}
use Rattle.replies.proofs.Ways.{judge_told, own_told, step_told}
use Rattle.binary_calls.proofs.add_binary_clause.Goals as goal

pub returns-in_err-judge_rows : goal.returns-in_err-judge_rows
unfolding parts
returns-in_err-judge_rows c =
    let a = c.args in
    let k : Lent = lent_rows a.s a.rows.now a.counts.now in
    let p = err_from_is_err_and c.from_residual.result c.from_residual.ensures.1 in
    rw (p.1, p.2) (judge_told (add_binary a.lits.now) k c.in_err-judge_rows.field-0.0 c.in_err-judge_rows.ensures)

pub returns-in_err-refuse_add_binary_clause : goal.returns-in_err-refuse_add_binary_clause
unfolding parts
returns-in_err-refuse_add_binary_clause c =
    let a = c.args in
    let k : Lent = lent_rows a.s a.rows.now a.counts.now in
    let p = err_from_is_err_and c.from_residual-in_err-refuse_add_binary_clause.result c.from_residual-in_err-refuse_add_binary_clause.ensures.1 in
    rw (p.1, p.2) (own_told (add_binary a.lits.now) k c.in_ok-judge_rows.ensures c.in_err-refuse_add_binary_clause.field-0.0 c.in_err-refuse_add_binary_clause.ensures)

pub returns : goal.returns
unfolding parts step answer
returns c =
    let a = c.args in
    let k : Lent = lent_rows a.s a.rows.now a.counts.now in
    step_told (add_binary a.lits.now) k c.in_ok-judge_rows.ensures c.in_ok-refuse_add_binary_clause.ensures c.append_binary_clause.ensures nothing refl
