use mathlib.Core.Path.{ap}
use Rattle.std.proofs.lemmas.Result.{err_from_is_err_and}
use Rattle.kinds.specs.Lent.{Lent, lent_words, host_of}
use Rattle.calls.specs.Call.{prove_units, parts}
use Rattle.calls.specs.Outcome.{proved, step, answer}
use Rattle.replies.proofs.Ways.{judge_told, own_told, step_told}
use Rattle.unit_simplify.proofs.prove_units.Goals as goal

pub returns-in_err-judge_list_record_host : goal.returns-in_err-judge_list_record_host
unfolding parts
returns-in_err-judge_list_record_host c =
    let a = c.args in
    let k : Lent = lent_words a.s a.words.now a.clauses.now a.rec.now (host_of a.values.now a.kinds.now a.reasons.now a.levels.now a.trail.now a.assigned a.level) in
    let p = err_from_is_err_and c.from_residual.result c.from_residual.ensures.1 in
    rw (p.1, p.2) (judge_told prove_units k c.in_err-judge_list_record_host.field-0.0 c.in_err-judge_list_record_host.ensures)

pub returns-in_err-refuse_prove_units : goal.returns-in_err-refuse_prove_units
unfolding parts
returns-in_err-refuse_prove_units c =
    let a = c.args in
    let k : Lent = lent_words a.s a.words.now a.clauses.now a.rec.now (host_of a.values.now a.kinds.now a.reasons.now a.levels.now a.trail.now a.assigned a.level) in
    let p = err_from_is_err_and c.from_residual-in_err-refuse_prove_units.result c.from_residual-in_err-refuse_prove_units.ensures.1 in
    rw (p.1, p.2) (own_told prove_units k c.in_ok-judge_list_record_host.ensures c.in_err-refuse_prove_units.field-0.0 c.in_err-refuse_prove_units.ensures)

pub returns : goal.returns
unfolding parts step answer
returns c =
    let a = c.args in
    let k : Lent = lent_words a.s a.words.now a.clauses.now a.rec.now (host_of a.values.now a.kinds.now a.reasons.now a.levels.now a.trail.now a.assigned a.level) in
    step_told prove_units k c.in_ok-judge_list_record_host.ensures c.in_ok-refuse_prove_units.ensures c.prove_units-units.ensures.units_after (proved c.prove_units-units.result.new_unit) (ap proved c.prove_units-units.ensures.new_value)
