use mathlib.Core.Path.{sym, ◌∙◌}
use mathlib.Core.Bool.{true, false}
use Prim.Native.Nat.{◌-◌}
use Rattle.prove_units.proofs.Lent.{ready, rec_used, rec_most, number_zero, number_above}
use Rattle.prove_units.proofs.refuse_prove_units.Goals as goal

pub returns-then-host-ne0 : goal.returns-then-host-ne0
returns-then-host-ne0 c =
    let a = c.args in
    number_above a.s a.words.now a.clauses.now a.rec.now a.host.values.now a.host.kinds.now a.host.reasons.now a.host.levels.now a.host.trail.now a.host.assigned a.host.level c.requires c.if-host-ne0.true

pub lines_fit-requires : goal.lines_fit-requires
lines_fit-requires c =
    let a = c.args in
    record { trail_ready = ready a.s a.words.now a.clauses.now a.rec.now a.host.values.now a.host.kinds.now a.host.reasons.now a.host.levels.now a.host.trail.now a.host.assigned a.host.level c.requires; recorded_le_cap = (rec_used a.s a.words.now a.clauses.now a.rec.now a.host.values.now a.host.kinds.now a.host.reasons.now a.host.levels.now a.host.trail.now a.host.assigned a.host.level c.requires, rec_most a.s a.words.now a.clauses.now a.rec.now a.host.values.now a.host.kinds.now a.host.reasons.now a.host.levels.now a.host.trail.now a.host.assigned a.host.level c.requires) }

pub returns-then-lines_fit : goal.returns-then-lines_fit
returns-then-lines_fit c =
    let a = c.args in
    number_zero a.s a.words.now a.clauses.now a.rec.now a.host.values.now a.host.kinds.now a.host.reasons.now a.host.levels.now a.host.trail.now a.host.assigned a.host.level c.requires c.if-host-ne0.false true (sym c.if-lines_fit.true ∙ c.lines_fit.ensures)

pub returns : goal.returns
returns c =
    let a = c.args in
    number_zero a.s a.words.now a.clauses.now a.rec.now a.host.values.now a.host.kinds.now a.host.reasons.now a.host.levels.now a.host.trail.now a.host.assigned a.host.level c.requires c.if-host-ne0.false false (sym c.if-lines_fit.false ∙ c.lines_fit.ensures)
