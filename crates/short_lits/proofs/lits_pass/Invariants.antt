use Rattle.std.proofs.Common.{◌≡◌, true}
use Rattle.laws.specs.Fold.{all_below}
use Rattle.calls.specs.StorePasses.{lit_ok}
use Rattle.short_lits.proofs.lits_pass.Given as goal

abbrev pub invariant-loop-j : goal.invariant-loop-j
invariant-loop-j l = all_below (lit_ok l.lits l.vars 0) l.j ≡ true
