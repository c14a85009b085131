use Rattle.dedup.proofs.Marking.{Marking}
use Rattle.dedup.proofs.mark.Given as goal

abbrev pub invariant-loop-i : goal.invariant-loop-i
invariant-loop-i l = Marking l.tier l.initial.words l.initial.list l.words l.list l.i l.k
