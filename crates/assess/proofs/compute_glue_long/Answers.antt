use Rattle.std.proofs.Common.{ℕ, ◌+◌, sym, ap, ◌∙◌, ◌≡◌, length, arith}
use Rattle.laws.proofs.Folds.{count_none, count_le}
use Rattle.calls.specs.Bumping.{level_new, glue_for}
use Rattle.assess.proofs.Glue.{marked_none, marked_new, counted_new, marked_old, counted_old}
use Rattle.assess.proofs.compute_glue_long.Goals as goal
use Rattle.assess.proofs.compute_glue_long.Goals.{then-seen-level-eq0, else-seen-level-eq0}

pub loop-lit-init : goal.loop-lit-init
loop-lit-init c = (marked_none _ _, sym (count_none _))

pub overflow_add-glue : goal.overflow_add-glue
overflow_add-glue c = omega (arith, count_le (level_new c.args.levels.now c.args.lits.now) c.loop-lit.lit-index)

pub loop-lit-preserved : goal.loop-lit-preserved
loop-lit-preserved c =
    let l = c.loop-lit in
    let low = c.requires.low l.lit-index c.loop-lit-test.true in
    elim c.if-seen-level-eq0.branch [
      | then-seen-level-eq0 w ↦ rw (w.seen-is, w.glue-is) (marked_new _ _ _ _ l.invariant.0 low w.if-seen-level-eq0.true, ap (λ (g : ℕ). g + 1) l.invariant.1 ∙ counted_new _ _ _ _ l.invariant.0 low w.if-seen-level-eq0.true)
      | else-seen-level-eq0 w ↦ rw (w.seen-is, w.glue-is) (marked_old _ _ _ _ l.invariant.0 low w.if-seen-level-eq0.false, l.invariant.1 ∙ counted_old _ _ _ _ l.invariant.0 low w.if-seen-level-eq0.false)
    ]

pub returns : goal.returns
unfolding glue_for
returns c = let e : c.loop-lit.lit-index ≡ length c.args.lits.now = omega arith in rw e at c.loop-lit.invariant.1
