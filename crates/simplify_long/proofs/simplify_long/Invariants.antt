use Rattle.simplify_lines.specs.Walk.{lent_walk}
use Rattle.simplify_lines.proofs.Literals.{Reading}
use Rattle.simplify_long.proofs.Turned.{Turned}
use Rattle.simplify_long.proofs.simplify_long.Given as goal

abbrev pub invariant-loop-lit : goal.invariant-loop-lit
invariant-loop-lit l = Reading l.values l.lits l.lit-index l.kept

abbrev pub invariant-clauses : goal.invariant-clauses
invariant-clauses l = Turned (lent_walk l.initial.s l.initial.words l.initial.clauses l.initial.rows l.initial.counts l.initial.rec l.values) l.i l.to l.words l.clauses l.rows l.counts l.rec l.s
