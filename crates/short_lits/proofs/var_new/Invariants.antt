use Rattle.std.proofs.Common.{◌≡◌, true}
use Rattle.laws.specs.Fold.{all_below}
use Rattle.calls.specs.StorePasses.{apart}
use Rattle.short_lits.proofs.var_new.Given as goal

abbrev pub invariant-loop-lit : goal.invariant-loop-lit
invariant-loop-lit l = all_below (apart l.lits 0 l.j) l.lit-index ≡ true
