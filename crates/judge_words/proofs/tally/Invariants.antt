use mathlib.Core.Path.{◌≡◌}
use lib.ListN.{length}
use Rattle.judge_words.specs.Judging.{Tally}
use Rattle.judge_words.proofs.tally.Given as goal

abbrev pub invariant-loop-offset : goal.invariant-loop-offset
invariant-loop-offset l = (length l.counts ≡ 4) × Tally l.words l.clauses l.offset-index l.counts
