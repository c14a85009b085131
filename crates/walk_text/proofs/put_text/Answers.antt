use borrow.Author.Rules.{rules}
use native.Mathlib.Omega.{arith}
use mathlib.Core.Path.{refl, sym, ◌∙◌}
use Prim.Native.Nat.{◌≤◌}
use lib.ListN.{length}
use Rattle.walk_text.proofs.Laying.{past_end, full, ended, turn, fits}
use Rattle.walk_text.proofs.put_text.Goals as goal

pub returns-then-at-out : goal.returns-then-at-out
returns-then-at-out c =
    let far : length c.args.out.now ≤ c.args.at = search rules in
    past_end c.args.out.now c.args.text.now c.args.at far

pub loop-byte-init : goal.loop-byte-init
loop-byte-init c = (search rules, refl)

pub loop-byte-preserved-then-to-out : goal.loop-byte-preserved-then-to-out
loop-byte-preserved-then-to-out c =
    let l = c.loop-byte in
    (l.invariant.0, full l.out _ l.to (omega arith) l.invariant.0 ∙ sym (full l.out _ l.to (omega arith) l.invariant.0) ∙ l.invariant.1)

pub loop-byte-preserved : goal.loop-byte-preserved
loop-byte-preserved c =
    let l = c.loop-byte in
    (fits l.out l.to _ (search rules), sym (turn l.out _ l.byte-index l.to (search rules)) ∙ l.invariant.1)

pub returns : goal.returns
returns c = let l = c.loop-byte in sym (ended l.out _ l.byte-index l.to c.loop-byte-test.false l.invariant.0) ∙ l.invariant.1
