use mathlib.Core.Path.{◌≡◌, refl, sym, ap, ◌∙◌, subst}
use mathlib.Core.List.{List}
use Prim.Native.Nat.{ℕ}
use native.Mathlib.Omega.{arith}
use Rattle.kinds.specs.Numbers.{refusal_number}
use Rattle.kinds.specs.Lent.{Lent, lent_five, no_host}
use Rattle.kinds.specs.Layout.{view, lay}
use Rattle.calls.specs.Call.{add_clause, parts, five_lists}
use Rattle.calls.specs.Adding.{added_long}
use Rattle.calls.specs.Outcome.{judged, own_number, has_room, refused}
use Rattle.calls.proofs.Judged.{sizes_judged, words_sized_lem, vars_high}
use Rattle.std.proofs.lemmas.Result.{err_from_is_err_and}
use Rattle.replies.proofs.Ways.{judge_refused}
use Rattle.db.proofs.Adding.{clause_way, tier_way, room_way, none_given, added_way, tier_low, few_lits}
use mathlib.Core.Bool.{not}
use Rattle.db.proofs.add_clause.Goals as goal

pub returns-in_err-judge_five : goal.returns-in_err-judge_five
unfolding parts
returns-in_err-judge_five c =
    let a = c.args in
    let k : List ℕ → Lent = λ w. lent_five a.s w a.clauses.now a.irred.now a.core.now a.mid.now a.local.now no_host in
    let p = err_from_is_err_and c.from_residual.result c.from_residual.ensures.1 in
    rw (p.1, p.2) (judge_refused (add_clause a.tier a.glue a.lits.now) k c.in_err-judge_five.ensures.1 c.in_err-judge_five.field-0.0 c.in_err-judge_five.ensures.0)

pub clause_wrong-requires : goal.clause_wrong-requires
clause_wrong-requires c =
    let a = c.args in
    let j = c.in_ok-judge_five in
    vars_high five_lists (lent_five a.s a.words.now a.clauses.now a.irred.now a.core.now a.mid.now a.local.now no_host) (sizes_judged five_lists (lent_five a.s a.words.now a.clauses.now a.irred.now a.core.now a.mid.now a.local.now no_host) (sym j.ensures.0)) refl

pub returns-then-clause_wrong : goal.returns-then-clause_wrong
returns-then-clause_wrong c =
    let a = c.args in
    let j = c.in_ok-judge_five in
    (ap (λ (w : List ℕ). refused 4 (lent_five a.s w a.clauses.now a.irred.now a.core.now a.mid.now a.local.now no_host)) j.ensures.1) ∙ clause_way a.s a.words.now a.clauses.now a.irred.now a.core.now a.mid.now a.local.now a.tier a.glue a.lits.now (sym j.ensures.0) c.clause_wrong.ensures c.if-clause_wrong.true

pub returns-then-tier_wrong : goal.returns-then-tier_wrong
returns-then-tier_wrong c =
    let a = c.args in
    let j = c.in_ok-judge_five in
    (ap (λ (w : List ℕ). refused 5 (lent_five a.s w a.clauses.now a.irred.now a.core.now a.mid.now a.local.now no_host)) j.ensures.1) ∙ tier_way a.s a.words.now a.clauses.now a.irred.now a.core.now a.mid.now a.local.now a.tier a.glue a.lits.now (sym j.ensures.0) c.clause_wrong.ensures c.if-clause_wrong.false c.tier_wrong.ensures c.if-tier_wrong.true

pub long_fits-requires : goal.long_fits-requires
long_fits-requires c =
    let a = c.args in
    let j = c.in_ok-judge_five in
    record { no_host_value = subst (λ (w : List ℕ). judged five_lists (lent_five a.s w a.clauses.now a.irred.now a.core.now a.mid.now a.local.now no_host) ≡ 0) (sym j.ensures.1) (sym j.ensures.0); tier_bound = (tier_low a.tier a.glue c.tier_wrong.ensures c.if-tier_wrong.false, few_lits a.s.vars a.lits.now (vars_high five_lists (lent_five a.s a.words.now a.clauses.now a.irred.now a.core.now a.mid.now a.local.now no_host) (sizes_judged five_lists (lent_five a.s a.words.now a.clauses.now a.irred.now a.core.now a.mid.now a.local.now no_host) (sym j.ensures.0)) refl) c.clause_wrong.ensures c.if-clause_wrong.false) }

pub returns-then-not-long_fits : goal.returns-then-not-long_fits
returns-then-not-long_fits c =
    let a = c.args in
    let j = c.in_ok-judge_five in
    (ap (λ (w : List ℕ). refused 11 (lent_five a.s w a.clauses.now a.irred.now a.core.now a.mid.now a.local.now no_host)) j.ensures.1) ∙ room_way a.s a.words.now a.clauses.now a.irred.now a.core.now a.mid.now a.local.now a.tier a.glue a.lits.now (sym j.ensures.0) c.clause_wrong.ensures c.if-clause_wrong.false c.tier_wrong.ensures c.if-tier_wrong.false (c.long_fits.ensures ∙ ap (λ (w : List ℕ). has_room (add_clause a.tier a.glue a.lits.now) (lent_five a.s w a.clauses.now a.irred.now a.core.now a.mid.now a.local.now no_host)) j.ensures.1) (ap not c.if-not-long_fits.true)

pub overflow_cast-offset : goal.overflow_cast-offset
overflow_cast-offset c =
    let a = c.args in
    let j = c.in_ok-judge_five in
    let w = words_sized_lem five_lists (lent_five a.s a.words.now a.clauses.now a.irred.now a.core.now a.mid.now a.local.now no_host) (sizes_judged five_lists (lent_five a.s a.words.now a.clauses.now a.irred.now a.core.now a.mid.now a.local.now no_host) (sym j.ensures.0)) refl in
    let u = w.used in
    let m = w.most in
    omega arith

pub append_clause-state-requires : goal.append_clause-state-requires
append_clause-state-requires c =
    let a = c.args in
    let j = c.in_ok-judge_five in
    record { no_host_value = subst (λ (w : List ℕ). judged five_lists (lent_five a.s w a.clauses.now a.irred.now a.core.now a.mid.now a.local.now no_host) ≡ 0) (sym j.ensures.1) (sym j.ensures.0); no_host_value_2 = subst (λ (w : List ℕ). own_number (add_clause a.tier a.glue a.lits.now) (lent_five a.s w a.clauses.now a.irred.now a.core.now a.mid.now a.local.now no_host) ≡ 0) (sym j.ensures.1) (none_given a.s a.words.now a.clauses.now a.irred.now a.core.now a.mid.now a.local.now a.tier a.glue a.lits.now (sym j.ensures.0) c.clause_wrong.ensures c.if-clause_wrong.false c.tier_wrong.ensures c.if-tier_wrong.false (c.long_fits.ensures ∙ ap (λ (w : List ℕ). has_room (add_clause a.tier a.glue a.lits.now) (lent_five a.s w a.clauses.now a.irred.now a.core.now a.mid.now a.local.now no_host)) j.ensures.1) (ap not c.if-not-long_fits.false)) }

pub returns : goal.returns
returns c =
    let a = c.args in
    let j = c.in_ok-judge_five in
    added_way a.s a.words.now a.clauses.now a.irred.now a.core.now a.mid.now a.local.now a.tier a.glue a.lits.now (sym j.ensures.0) (none_given a.s a.words.now a.clauses.now a.irred.now a.core.now a.mid.now a.local.now a.tier a.glue a.lits.now (sym j.ensures.0) c.clause_wrong.ensures c.if-clause_wrong.false c.tier_wrong.ensures c.if-tier_wrong.false (c.long_fits.ensures ∙ ap (λ (w : List ℕ). has_room (add_clause a.tier a.glue a.lits.now) (lent_five a.s w a.clauses.now a.irred.now a.core.now a.mid.now a.local.now no_host)) j.ensures.1) (ap not c.if-not-long_fits.false))
    (c.append_clause-state.ensures ∙ ap (λ (w : List ℕ). lay five_lists (lent_five a.s w a.clauses.now a.irred.now a.core.now a.mid.now a.local.now no_host) (added_long a.tier a.glue a.lits.now (view (lent_five a.s w a.clauses.now a.irred.now a.core.now a.mid.now a.local.now no_host)))) j.ensures.1)
