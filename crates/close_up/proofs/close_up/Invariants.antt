use Rattle.close_up.proofs.Closing.{Closing}
use Rattle.close_up.proofs.close_up.Given as goal

abbrev pub invariant-loop-i : goal.invariant-loop-i
invariant-loop-i l = Closing l.used l.n l.initial.words l.initial.clauses l.words l.clauses l.i l.to l.k
