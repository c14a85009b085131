use Rattle.std.proofs.Common.{sym, ◌∙◌, arith}
use Rattle.laws.proofs.Folds.{all_none, all_more, all_fails, all_end}
use Rattle.short_lits.proofs.Pairs.{literal_passes, out_of_range, variable_twice}
use Rattle.calls.specs.StorePasses.{lits_ok}
use Rattle.short_lits.proofs.lits_pass.Goals as goal
use Rattle.short_lits.proofs.lits_pass.Goals.{then-vars-lit-via-then-vars-lit, then-vars-lit-via-else-vars-lit+then-not-var_new}

pub loop-j-init : goal.loop-j-init
loop-j-init c = all_none _

pub returns-then-vars-lit : goal.returns-then-vars-lit
unfolding lits_ok
returns-then-vars-lit c = sym (all_fails _ c.loop-j.j _ c.loop-j-test.true (elim c.then-vars-lit.branch [
  | then-vars-lit-via-then-vars-lit w ↦ out_of_range _ _ _ w.if-vars-lit.true
  | then-vars-lit-via-else-vars-lit+then-not-var_new w ↦ variable_twice _ _ _ (sym w.var_new.ensures ∙ w.if-not-var_new.true)
]))

pub loop-j-preserved : goal.loop-j-preserved
loop-j-preserved c = all_more _ _ c.loop-j.invariant (literal_passes _ _ _ c.if-vars-lit.false (sym c.var_new.ensures ∙ c.if-not-var_new.false))

pub returns : goal.returns
unfolding lits_ok
returns c = all_end _ _ _ c.loop-j.invariant (omega arith) c.loop-j-test.false
