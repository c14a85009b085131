use Rattle.std.proofs.Common.{◌≡◌, true}
use Rattle.laws.specs.Fold.{all_below}
use Rattle.calls.specs.Bumping.{level_apart}
use Rattle.assess.proofs.level_new.Given as goal

abbrev pub invariant-loop-lit : goal.invariant-loop-lit
invariant-loop-lit l = all_below (level_apart l.levels l.lits l.j) l.lit-index ≡ true
