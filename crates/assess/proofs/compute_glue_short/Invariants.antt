use Rattle.std.proofs.Common.{◌≡◌}
use Rattle.laws.specs.Fold.{count_below}
use Rattle.calls.specs.Bumping.{level_new}
use Rattle.assess.proofs.compute_glue_short.Given as goal

abbrev pub invariant-loop-j : goal.invariant-loop-j
invariant-loop-j l = l.glue ≡ count_below (level_new l.levels l.lits) l.j
