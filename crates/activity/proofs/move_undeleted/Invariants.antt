use Rattle.activity.proofs.Keeping.{Kept}
use Rattle.activity.proofs.move_undeleted.Given as goal

abbrev pub invariant-loop-i : goal.invariant-loop-i
invariant-loop-i l = Kept l.words l.initial.list l.list l.i l.kept
