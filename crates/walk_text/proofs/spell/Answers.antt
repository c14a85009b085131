use borrow.Author.Rules.{rules}
use native.Mathlib.Omega.{arith}
use mathlib.Core.Path.{sym, ◌∙◌}
use Prim.Native.Nat.{◌≤◌}
use lib.ListN.{length-set}
use Rattle.walk_text.proofs.Spelling.{all_digits, more_digits, first_digit, fewer, several}
use Rattle.walk_text.proofs.spell.Goals as goal

pub loop-rest-init : goal.loop-rest-init
loop-rest-init c = (omega arith, c.requires, omega arith, all_digits _ c.args.text.now c.requires)

pub loop-rest-preserved : goal.loop-rest-preserved
loop-rest-preserved c =
    let l = c.loop-rest in
    let large : 10 ≤ l.rest = omega arith in
    let pos = several l.rest l.i l.invariant.2 large in
    (omega arith, length-set l.text l.i _ ∙ l.invariant.1, fewer l.rest l.i pos l.invariant.2, more_digits l.text l.rest l.i _ _ pos (omega arith) large c.digit.ensures l.invariant.3)

pub returns : goal.returns
returns c =
    let l = c.loop-rest in
    (l.invariant.0, length-set l.text l.i _ ∙ l.invariant.1, sym (first_digit l.text l.rest l.i _ (omega arith) (search rules) c.digit-2.ensures) ∙ l.invariant.3)
