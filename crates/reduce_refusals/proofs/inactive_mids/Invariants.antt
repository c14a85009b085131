use Rattle.std.proofs.Common.{◌≡◌}
use Rattle.laws.specs.Fold.{count_below}
use Rattle.reduce_refusals.specs.Counted.{inactive_at}
use Rattle.reduce_refusals.proofs.inactive_mids.Given as goal

abbrev pub invariant-loop-cref : goal.invariant-loop-cref
invariant-loop-cref l = l.count ≡ count_below (inactive_at l.words l.clauses) l.cref-index
