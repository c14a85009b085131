use mathlib.Core.List.{[]}
use Rattle.kinds.specs.Lent.{lent_words, no_host}
use Rattle.calls.specs.Call.{literals, parts}
use Rattle.std.proofs.lemmas.Result.{err_from_is_err_and}
use Rattle.replies.proofs.Ways.{judge_number_told}
use Rattle.reading_calls.proofs.Literals.{ready, number_gone, number_read}
use mathlib.Core.Path.{refl, ap}
use mathlib.Core.Bool.{not}
use Rattle.reading_calls.proofs.clause_lits_number.Goals as goal

pub returns-in_err-judge_list : goal.returns-in_err-judge_list
unfolding parts
returns-in_err-judge_list c =
    let a = c.args in
    let p = err_from_is_err_and c.from_residual.result c.from_residual.ensures.1 in
    rw (p.1, p.2) (judge_number_told (literals a.cref.0) (lent_words a.s a.words.now a.clauses.now [] no_host) c.in_err-judge_list.field-0.0 c.in_err-judge_list.ensures)

pub is_live-requires : goal.is_live-requires
is_live-requires c =
    let a = c.args in
    let r = ready a.s a.words.now a.clauses.now a.cref.0 0 c.in_ok-judge_list.ensures refl in
    record { used_in_bounds = (r.used, r.listed); n_value = r.places }

pub returns-then-not-is_live : goal.returns-then-not-is_live
returns-then-not-is_live c =
    let a = c.args in
    number_gone a.s a.words.now a.clauses.now a.cref.0 0 c.in_ok-judge_list.ensures refl _ c.is_live.ensures (ap not c.if-not-is_live.true)

pub returns : goal.returns
returns c =
    let a = c.args in
    number_read a.s a.words.now a.clauses.now a.cref.0 0 c.in_ok-judge_list.ensures refl _ c.is_live.ensures (ap not c.if-not-is_live.false)
