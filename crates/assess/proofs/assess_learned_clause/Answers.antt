use mathlib.Core.Path.{ap, ◌∙◌}
use Prim.Native.Nat.{ℕ, ◌-◌}
use native.Mathlib.Omega.{arith}
use Rattle.kinds.specs.Header.{saturated}
use Rattle.calls.specs.Bumping.{tier_for, learned_glue}
use Rattle.assess.proofs.Glue.{glue_positive}
use Rattle.assess.proofs.assess_learned_clause.Goals as goal

pub overflow_sub-glue : goal.overflow_sub-glue
overflow_sub-glue c = omega (arith, glue_positive c.args.levels.now c.args.lits.now c.requires.1, c.compute_glue-glue.ensures)

pub returns : goal.returns
unfolding learned_glue
returns c =
    let e = ap (λ (n : ℕ). n - 1) c.compute_glue-glue.ensures in
    (c.select_tier.ensures ∙ ap tier_for e, c.saturate.ensures.0 ∙ ap saturated e)
