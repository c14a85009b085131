use Rattle.simplify_room.proofs.Tally.{Tallied}
use Rattle.simplify_room.proofs.tally_pairs.Given as goal

abbrev pub invariant-loop-clause : goal.invariant-loop-clause
invariant-loop-clause l = Tallied l.values l.words l.clauses l.initial.tally l.clause-index l.tally
