use Rattle.dedup.proofs.Marking.{Unmarking}
use Rattle.dedup.proofs.unmark.Given as goal

abbrev pub invariant-loop-r : goal.invariant-loop-r
invariant-loop-r l = Unmarking l.list l.initial.words l.words l.r-index
