use Rattle.std.proofs.Common.{sym}
use Rattle.laws.proofs.Folds.{all_none, all_more}
use Rattle.short_lits.proofs.Pairs.{other_variable, same_variable}
use Rattle.short_lits.proofs.var_new.Goals as goal

pub loop-lit-init : goal.loop-lit-init
loop-lit-init c = all_none _

pub returns-then-lit-own : goal.returns-then-lit-own
returns-then-lit-own c = sym (same_variable _ _ _ c.loop-lit-test.true c.if-lit-own.true)

pub loop-lit-preserved : goal.loop-lit-preserved
loop-lit-preserved c = all_more _ _ c.loop-lit.invariant (other_variable _ _ _ c.loop-lit-test.true c.if-lit-own.false)
