use Rattle.std.proofs.Common.{ℕ, sym, arith, length-take}
use Rattle.laws.proofs.Folds.{all_none, all_more, all_end}
use Rattle.calls.specs.Bumping.{level_new}
use Rattle.assess.proofs.Short.{other_level, same_level}
use Rattle.assess.proofs.level_new.Goals as goal

pub loop-lit-init : goal.loop-lit-init
loop-lit-init c = all_none _

pub returns-then-levels-var : goal.returns-then-levels-var
returns-then-levels-var c = sym (same_level _ _ _ _ c.loop-lit-test.true c.if-levels-var.true)

pub loop-lit-preserved : goal.loop-lit-preserved
loop-lit-preserved c = all_more _ _ c.loop-lit.invariant (other_level _ _ _ _ c.loop-lit-test.true c.if-levels-var.false)

pub returns : goal.returns
unfolding level_new
returns c = all_end _ _ _ c.loop-lit.invariant (omega (arith, length-take {A = ℕ})) (omega (arith, length-take {A = ℕ}))
