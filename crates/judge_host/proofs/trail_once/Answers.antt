use mathlib.Core.Path.{refl}
use Rattle.laws.proofs.Folds.{all_none, all_more}
use Rattle.judge_host.proofs.Trail.{out_of_range, met_again, met_first, seen_more, once_no, once_yes}
use native.Mathlib.Omega.{arith}
use Rattle.judge_host.proofs.trail_once.Goals as goal

pub loop-code-init : goal.loop-code-init
loop-code-init c = (all_none _, c.requires.0)

pub returns-then-vars-code : goal.returns-then-vars-code
returns-then-vars-code c = once_no _ _ _ _ c.loop-code-test.true (out_of_range _ _ _ _ c.loop-code.invariant.1 _ refl c.if-vars-code.true)

pub returns-then-seen-var : goal.returns-then-seen-var
returns-then-seen-var c = once_no _ _ _ _ c.loop-code-test.true (met_again _ _ _ _ c.loop-code.invariant.1 _ refl (omega arith) c.if-seen-var.true)

pub loop-code-preserved : goal.loop-code-preserved
loop-code-preserved c = (all_more _ _ c.loop-code.invariant.0 (met_first _ _ _ _ c.loop-code.invariant.1 _ refl (omega arith) (omega arith) c.if-seen-var.false), seen_more 0 _ _ _ c.loop-code.invariant.1 _ refl (omega arith))

pub returns : goal.returns
returns c = once_yes _ _ _ _ c.loop-code.auto.code-index-end c.loop-code-test.false c.loop-code.invariant.0 c.loop-code.invariant.1
