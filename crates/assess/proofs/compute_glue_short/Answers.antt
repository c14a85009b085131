use Rattle.std.proofs.Common.{sym, ap, ◌∙◌, ◌≡◌, length, arith}
use Rattle.laws.specs.Fold.{one}
use Rattle.laws.proofs.Folds.{count_none, count_more, count_le}
use Rattle.calls.specs.Bumping.{level_new, glue_for}
use Rattle.assess.proofs.compute_glue_short.Goals as goal
use Rattle.assess.proofs.compute_glue_short.Goals.{then-level_new, else-level_new}

pub loop-j-init : goal.loop-j-init
loop-j-init c = sym (count_none _)

pub overflow_add-glue : goal.overflow_add-glue
overflow_add-glue c = omega (arith, count_le (level_new c.args.levels.now c.args.lits.now) c.loop-j.j)

pub loop-j-preserved : goal.loop-j-preserved
loop-j-preserved c =
    let more = count_more (level_new c.args.levels.now c.args.lits.now) c.loop-j.j in
    elim c.if-level_new.branch [
      | then-level_new w ↦ let new = ap one (sym c.level_new.ensures ∙ w.if-level_new.true) in omega arith
      | else-level_new w ↦ let old = ap one (sym c.level_new.ensures ∙ w.if-level_new.false) in omega arith
    ]

pub returns : goal.returns
unfolding glue_for
returns c = let e : c.loop-j.j ≡ length c.args.lits.now = omega arith in rw e at c.loop-j.invariant
