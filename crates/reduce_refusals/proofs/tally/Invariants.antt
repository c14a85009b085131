use Rattle.reduce_refusals.proofs.Going.{Tallied}
use Rattle.reduce_refusals.proofs.tally.Given as goal

abbrev pub invariant-loop-cref : goal.invariant-loop-cref
invariant-loop-cref l = Tallied l.words l.host.values.now l.host.kinds.now l.host.reasons.now l.key l.clauses l.cref-index l.count l.lines
