use mathlib.Core.Path.{◌≡◌}
use Rattle.laws.specs.Fold.{sum_below}
use Rattle.calls.specs.StorePasses.{live_size}
use Rattle.judge_words.proofs.live_words.Given as goal

abbrev pub invariant-loop-offset : goal.invariant-loop-offset
invariant-loop-offset l = l.total ≡ sum_below (live_size l.words l.clauses) l.offset-index
