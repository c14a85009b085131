use mathlib.Core.Path.{refl}
use native.Mathlib.Omega.{arith}
use Rattle.laws.proofs.Folds.{all_none, all_more}
use Rattle.judge_words.proofs.Literals.{stamped_none, stamped_more, lit_far, lit_again, lit_new, lits_out, lits_end}
use Rattle.judge_words.proofs.lits_ok.Goals as goal

pub loop-lit-init : goal.loop-lit-init
loop-lit-init c = (all_none _, stamped_none _ c.requires.1)

pub returns-then-vars-lit : goal.returns-then-vars-lit
returns-then-vars-lit c = let S = c.loop-lit.invariant.1 in lits_out _ _ _ S c.loop-lit-test.true (lit_far _ _ _ S _ refl c.if-vars-lit.true)

pub returns-then-stamps-var : goal.returns-then-stamps-var
returns-then-stamps-var c = let S = c.loop-lit.invariant.1 in lits_out _ _ _ S c.loop-lit-test.true (lit_again _ _ _ S _ refl c.if-stamps-var.true)

pub loop-lit-preserved : goal.loop-lit-preserved
loop-lit-preserved c = let S = c.loop-lit.invariant.1 in (all_more _ _ c.loop-lit.invariant.0 (lit_new _ _ _ S _ refl c.if-vars-lit.false c.if-stamps-var.false), stamped_more _ c.args.vars _ S _ refl (omega arith))

pub returns : goal.returns
returns c = lits_end _ _ _ c.loop-lit.invariant.1 c.loop-lit.invariant.0 c.loop-lit.auto.lit-index-end c.loop-lit-test.false
