use Rattle.kinds.specs.Lent.{lent_levels}
use Rattle.calls.specs.Call.{assess, parts}
use Rattle.std.proofs.lemmas.Result.{err_from_is_err_and}
use Rattle.replies.proofs.Ways.{judge_told}
use Rattle.reading_calls.proofs.Assessing.{high, too_few, too_many, not_lits, clause_levelled, is_assessed}
use mathlib.Core.Path.{refl, ap}
use mathlib.Core.Bool.{not}
use Rattle.reading_calls.proofs.assess_learned_clause.Goals as goal

pub returns-in_err-judge_levels : goal.returns-in_err-judge_levels
unfolding parts
returns-in_err-judge_levels c =
    let a = c.args in
    let p = err_from_is_err_and c.from_residual.result c.from_residual.ensures.1 in
    rw (p.1, p.2) (judge_told (assess a.lits.now) (lent_levels a.vars a.levels.now) c.in_err-judge_levels.field-0.0 c.in_err-judge_levels.ensures)

pub returns-then-n-lt1 : goal.returns-then-n-lt1
returns-then-n-lt1 c =
    let a = c.args in
    too_few a.vars a.levels.now a.lits.now 0 c.in_ok-judge_levels.ensures refl c.if-n-lt1.true

pub returns-then-vars-n : goal.returns-then-vars-n
returns-then-vars-n c =
    let a = c.args in
    too_many a.vars a.levels.now a.lits.now 0 c.in_ok-judge_levels.ensures refl c.if-vars-n.true

pub lits_pass-requires : goal.lits_pass-requires
lits_pass-requires c =
    let a = c.args in
    high a.vars a.levels.now a.lits.now 0 c.in_ok-judge_levels.ensures refl

pub returns-then-not-lits_pass : goal.returns-then-not-lits_pass
returns-then-not-lits_pass c =
    let a = c.args in
    not_lits a.vars a.levels.now a.lits.now 0 c.in_ok-judge_levels.ensures refl _ c.lits_pass.ensures (ap not c.if-not-lits_pass.true)

pub assess_learned_clause-requires : goal.assess_learned_clause-requires
assess_learned_clause-requires c =
    let a = c.args in
    (clause_levelled a.vars a.levels.now a.lits.now 0 c.in_ok-judge_levels.ensures refl _ c.lits_pass.ensures (ap not c.if-not-lits_pass.false), c.if-n-lt1.false)

pub returns : goal.returns
returns c =
    let a = c.args in
    is_assessed a.vars a.levels.now a.lits.now 0 c.in_ok-judge_levels.ensures refl _ c.lits_pass.ensures (ap not c.if-not-lits_pass.false) c.if-n-lt1.false c.if-vars-n.false _ _ c.assess_learned_clause.ensures.0 c.assess_learned_clause.ensures.1
