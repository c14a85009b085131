use Rattle.std.proofs.Common.{◌≡◌}
use Rattle.laws.specs.Fold.{count_below}
use Rattle.calls.specs.Bumping.{level_new}
use Rattle.assess.proofs.Glue.{Marked}
use Rattle.assess.proofs.compute_glue_long.Given as goal

abbrev pub invariant-loop-lit : goal.invariant-loop-lit
invariant-loop-lit l = Marked l.levels l.lits l.seen l.lit-index × (l.glue ≡ count_below (level_new l.levels l.lits) l.lit-index)
