use Rattle.std.proofs.Common.{ℕ, ◌∙◌, refl, sym, arith}
use lib.ListN.{length-take}
use lib.Seq.{get_or-take}
use Rattle.laws.proofs.Folds.{count_none, count_le}
use Rattle.laws.proofs.Totals.{count_yes, count_no}
use Rattle.reduce_refusals.specs.Counted.{inactive_at}
use Rattle.reduce_refusals.proofs.inactive_mids.Goals as goal
use Rattle.reduce_refusals.proofs.inactive_mids.Goals.{then-goes_to_local, else-goes_to_local}

pub loop-cref-init : goal.loop-cref-init
loop-cref-init c = sym (count_none _)

pub overflow_add-count : goal.overflow_add-count
overflow_add-count c = omega (arith, count_le (inactive_at c.args.words.now c.args.clauses.now) c.loop-cref.cref-index)

pub loop-cref-preserved : goal.loop-cref-preserved
unfolding inactive_at
loop-cref-preserved c =
    let e = get_or-take c.args.n c.args.clauses.now c.loop-cref.cref-index 0 (omega (arith, length-take {A = ℕ})) in
    elim c.if-goes_to_local.branch [
      | then-goes_to_local w ↦ w.count-is ∙ count_yes _ _ c.loop-cref.invariant refl (rw e at (sym c.goes_to_local.ensures ∙ w.if-goes_to_local.true))
      | else-goes_to_local w ↦ w.count-is ∙ count_no _ _ c.loop-cref.invariant refl (rw e at (sym c.goes_to_local.ensures ∙ w.if-goes_to_local.false))
    ]
