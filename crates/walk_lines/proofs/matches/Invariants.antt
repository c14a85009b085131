use Rattle.walk_lines.proofs.Patterns.{Matching}
use Rattle.walk_lines.proofs.matches.Given as goal

abbrev pub invariant-loop-p : goal.invariant-loop-p
invariant-loop-p l = Matching l.pattern l.line l.values l.p-index l.i l.n
