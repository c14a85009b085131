use mathlib.Core.Path.{refl}
use native.Mathlib.Omega.{arith}
use Rattle.binary_calls.proofs.Reading.{number_wrong, number_read, ready}
use Rattle.kinds.specs.Lent.{lent_rows}
use Rattle.calls.specs.Call.{implied, parts}
use Rattle.std.proofs.lemmas.Result.{err_from_is_err_and}
use Rattle.replies.proofs.Ways.{judge_number_told}
use Rattle.binary_calls.proofs.implied_number.Goals as goal

pub returns-in_err-judge_rows : goal.returns-in_err-judge_rows
unfolding parts
returns-in_err-judge_rows c =
    let a = c.args in
    let p = err_from_is_err_and c.from_residual.result c.from_residual.ensures.1 in
    rw (p.1, p.2) (judge_number_told (implied a.lit.0) (lent_rows a.s a.rows.now a.counts.now) c.in_err-judge_rows.field-0.0 c.in_err-judge_rows.ensures)

pub overflow_mul-s : goal.overflow_mul-s
overflow_mul-s c =
    let a = c.args in
    let r = ready a.s a.rows.now a.counts.now a.lit.0 0 c.in_ok-judge_rows.ensures refl in
    let h = r.high in
    omega arith

pub returns-then-s-lit : goal.returns-then-s-lit
returns-then-s-lit c =
    let a = c.args in
    number_wrong a.s a.rows.now a.counts.now a.lit.0 0 c.in_ok-judge_rows.ensures refl c.if-s-lit.true

pub returns-else-s-lit : goal.returns-else-s-lit
returns-else-s-lit c =
    let a = c.args in
    number_read a.s a.rows.now a.counts.now a.lit.0 0 c.in_ok-judge_rows.ensures refl c.if-s-lit.false
