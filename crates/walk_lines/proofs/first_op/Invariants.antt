use Rattle.walk_lines.proofs.Table.{Heard, Patterns}
use Rattle.walk_lines.proofs.first_op.Given as goal

abbrev pub invariant-loop-op : goal.invariant-loop-op
invariant-loop-op l = record { table : Patterns l.pattern-items; heard : Heard l.line l.values l.op }
