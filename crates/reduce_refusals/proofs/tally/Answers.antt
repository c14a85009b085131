use Rattle.std.proofs.Common.{ℕ, ◌+◌, ◌∙◌, sym, arith}
use lib.ListN.{length-take}
use Rattle.laws.specs.Lists.{at}
use lib.Seq.{get_or-take}
use Rattle.reduce_refusals.proofs.Going.{tally_start, tally_goes, tally_stays}
use Rattle.reduce_refusals.proofs.tally.Goals as goal
use Rattle.reduce_refusals.proofs.tally.Goals.{then-goes_below, else-goes_below}

pub loop-cref-init : goal.loop-cref-init
loop-cref-init c = tally_start _ _ _ _ _ _

pub loop-cref-preserved : goal.loop-cref-preserved
loop-cref-preserved c =
    let e = get_or-take c.args.n c.args.clauses.now c.loop-cref.cref-index 0 (omega (arith, length-take {A = ℕ})) in
    elim c.if-goes_below.branch [
      | then-goes_below w ↦ rw (w.count-is, w.lines-is, e) (tally_goes c.loop-cref.invariant (rw e at (sym c.goes_below.ensures ∙ w.if-goes_below.true)) (omega (arith, c.type_inv.words (at c.args.clauses.now c.loop-cref.cref-index + 2))))
      | else-goes_below w ↦ rw (w.count-is, w.lines-is) (tally_stays c.loop-cref.invariant (rw e at (sym c.goes_below.ensures ∙ w.if-goes_below.false)))
    ]
