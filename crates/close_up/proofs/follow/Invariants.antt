use Rattle.close_up.proofs.Redirecting.{Following}
use Rattle.close_up.proofs.follow.Given as goal

abbrev pub invariant-loop-r : goal.invariant-loop-r
invariant-loop-r l = Following l.words l.used l.r-items l.values l.kinds l.initial.reasons l.reasons l.r-index l.to
