use Rattle.simplify_room.proofs.Tally.{Summed}
use Rattle.simplify_room.proofs.long_words.Given as goal

abbrev pub invariant-loop-clause : goal.invariant-loop-clause
invariant-loop-clause l = Summed l.values l.words l.clauses l.clause-index l.sum
