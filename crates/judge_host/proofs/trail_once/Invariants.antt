use mathlib.Core.Path.{◌≡◌}
use mathlib.Core.Bool.{true}
use Rattle.laws.specs.Fold.{all_below}
use Rattle.calls.specs.StorePasses.{lit_ok}
use Rattle.judge_host.specs.Sides.{Seen}
use Rattle.judge_host.proofs.trail_once.Given as goal

abbrev pub invariant-loop-code : goal.invariant-loop-code
invariant-loop-code l = (all_below (lit_ok l.trail l.vars 0) l.code-index ≡ true) × Seen l.trail l.code-index l.seen
