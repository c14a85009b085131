use Rattle.simplify_lines.proofs.Literals.{Reading}
use Rattle.simplify_room.proofs.verdict_at.Given as goal

abbrev pub invariant-loop-lit : goal.invariant-loop-lit
invariant-loop-lit l = Reading l.values l.lits l.lit-index l.kept
