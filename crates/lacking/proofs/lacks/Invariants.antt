use Rattle.lacking.proofs.Looking.{Looking}
use Rattle.lacking.proofs.lacks.Given as goal

abbrev pub invariant-loop-lit : goal.invariant-loop-lit
invariant-loop-lit l = Looking l.values l.lits l.lit-index l.free
