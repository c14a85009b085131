use Rattle.close_up.proofs.Rebuilding.{Rebuilding}
use Rattle.close_up.proofs.rebuild.Given as goal

abbrev pub invariant-loop-offset : goal.invariant-loop-offset
invariant-loop-offset l = Rebuilding l.words l.offset-items l.initial.list l.used l.tier l.list l.offset-index l.k
