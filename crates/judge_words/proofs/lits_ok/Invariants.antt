use mathlib.Core.Path.{◌≡◌}
use mathlib.Core.Bool.{true}
use Rattle.laws.specs.Fold.{all_below}
use Rattle.calls.specs.StorePasses.{lit_ok}
use Rattle.judge_words.proofs.Literals.{Stamped}
use Rattle.judge_words.proofs.lits_ok.Given as goal

abbrev pub invariant-loop-lit : goal.invariant-loop-lit
invariant-loop-lit l = (all_below (lit_ok l.lits l.vars 0) l.lit-index ≡ true) × Stamped l.lits l.lit-index l.stamps l.stamp
