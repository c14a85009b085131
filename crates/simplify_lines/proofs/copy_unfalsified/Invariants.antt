use Rattle.simplify_lines.proofs.Literals.{Copied}
use Rattle.simplify_lines.proofs.copy_unfalsified.Given as goal

abbrev pub invariant-loop-lit : goal.invariant-loop-lit
invariant-loop-lit l = Copied l.values l.lit-items l.initial.to l.initial.place l.lit-index l.place l.to
