use mathlib.Core.Path.{◌≡◌}
use mathlib.Core.Bool.{true}
use lib.ListN.{length}
use Rattle.laws.specs.Fold.{all_below}
use Rattle.calls.specs.StorePasses.{clause_ok_at}
use Rattle.judge_words.proofs.Clauses.{Ahead}
use Rattle.judge_words.proofs.clauses_ok.Given as goal

abbrev pub invariant-loop-offset : goal.invariant-loop-offset
invariant-loop-offset l = (all_below (clause_ok_at l.words l.vars l.clauses) l.offset-index ≡ true) × Ahead l.clauses (length l.clauses) l.offset-index l.stamps
