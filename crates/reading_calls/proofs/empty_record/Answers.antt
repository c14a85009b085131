use mathlib.Core.Path.{refl}
use native.Mathlib.Omega.{arith}
use Rattle.kinds.specs.Lent.{lent_record}
use Rattle.calls.specs.Call.{empty_record, parts}
use Rattle.std.proofs.lemmas.Result.{err_from_is_err_and}
use Rattle.replies.proofs.Ways.{judge_told}
use Rattle.reading_calls.proofs.Emptying.{used, emptied}
use Rattle.reading_calls.proofs.empty_record.Goals as goal

pub returns-in_err-judge_record : goal.returns-in_err-judge_record
unfolding parts
returns-in_err-judge_record c =
    let a = c.args in
    let p = err_from_is_err_and c.from_residual.result c.from_residual.ensures.1 in
    rw (p.1, p.2) (judge_told empty_record (lent_record a.s a.rec.now) c.in_err-judge_record.field-0.0 c.in_err-judge_record.ensures)

pub clear-requires : goal.clear-requires
clear-requires c =
    let a = c.args in
    (omega arith, used a.s a.rec.now 0 c.in_ok-judge_record.ensures refl)

pub returns : goal.returns
returns c =
    let a = c.args in
    emptied a.s a.rec.now 0 c.in_ok-judge_record.ensures refl _ c.clear.ensures
