use mathlib.Core.Path.{◌≡◌}
use mathlib.Core.Bool.{true}
use Rattle.laws.specs.Fold.{all_below}
use Rattle.calls.specs.HostPasses.{at_most_at}
use Rattle.judge_host.proofs.levels_pass.Given as goal

abbrev pub invariant-loop-level : goal.invariant-loop-level
invariant-loop-level l = all_below (at_most_at l.vars l.levels) l.level-index ≡ true
