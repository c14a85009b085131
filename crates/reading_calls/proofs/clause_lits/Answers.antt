use mathlib.Core.List.{[]}
use Rattle.kinds.specs.Lent.{lent_words, no_host}
use Rattle.calls.specs.Call.{literals, words_and_list, parts}
use Rattle.replies.proofs.Ways.{judge_erred, judge_fine}
use Rattle.reading_calls.proofs.Literals.{ready, ends, part_gone, part_read}
use mathlib.Core.Path.{refl, sym, ◌∙◌, ap}
use mathlib.Core.Bool.{not}
use Rattle.reading_calls.proofs.clause_lits.Goals as goal

pub returns-then-is_err : goal.returns-then-is_err
unfolding parts
returns-then-is_err c =
    let a = c.args in
    judge_erred (literals a.cref.0) (lent_words a.s a.words.now a.clauses.now [] no_host) c.judge_list.result c.judge_list.ensures (sym c.is_err.ensures.value ∙ c.if-is_err.true)

pub is_live-requires : goal.is_live-requires
is_live-requires c =
    let a = c.args in
    let r = ready a.s a.words.now a.clauses.now a.cref.0 0 (judge_fine words_and_list (lent_words a.s a.words.now a.clauses.now [] no_host) c.judge_list.result c.judge_list.ensures (sym c.is_err.ensures.value ∙ c.if-is_err.false)) refl in
    record { used_in_bounds = (r.used, r.listed); n_value = r.places }

pub returns-then-not-is_live : goal.returns-then-not-is_live
returns-then-not-is_live c =
    let a = c.args in
    part_gone a.s a.words.now a.clauses.now a.cref.0 0 (judge_fine words_and_list (lent_words a.s a.words.now a.clauses.now [] no_host) c.judge_list.result c.judge_list.ensures (sym c.is_err.ensures.value ∙ c.if-is_err.false)) refl _ c.is_live.ensures (ap not c.if-not-is_live.true)

pub lits-requires : goal.lits-requires
lits-requires c =
    let a = c.args in
    ends a.s a.words.now a.clauses.now a.cref.0 0 (judge_fine words_and_list (lent_words a.s a.words.now a.clauses.now [] no_host) c.judge_list.result c.judge_list.ensures (sym c.is_err.ensures.value ∙ c.if-is_err.false)) refl _ c.is_live.ensures (ap not c.if-not-is_live.false)

pub returns : goal.returns
returns c =
    let a = c.args in
    part_read a.s a.words.now a.clauses.now a.cref.0 0 (judge_fine words_and_list (lent_words a.s a.words.now a.clauses.now [] no_host) c.judge_list.result c.judge_list.ensures (sym c.is_err.ensures.value ∙ c.if-is_err.false)) refl _ c.is_live.ensures (ap not c.if-not-is_live.false) _ c.lits.ensures
