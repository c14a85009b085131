use mathlib.Core.Path.{refl}
use Rattle.laws.proofs.Parts.{part_is}
use Rattle.simplify_lines.proofs.Literals.{copied_skip, copied_room, copied_next, copied_end}
use Rattle.simplify_lines.proofs.copy_unfalsified.Goals as goal

pub loop-lit-init : goal.loop-lit-init
loop-lit-init c = record { room = rw (part_is _ _ _ c.requires.n_in_bounds) c.requires.n_in_bounds_2; told = refl }

pub bounds-to-place : goal.bounds-to-place
bounds-to-place c = copied_room c.loop-lit.invariant c.loop-lit-test.true c.lit_value.ensures c.in_default.not-False

pub loop-lit-preserved-in_default : goal.loop-lit-preserved-in_default
loop-lit-preserved-in_default c = copied_next c.loop-lit.invariant c.loop-lit-test.true c.lit_value.ensures c.in_default.not-False

pub loop-lit-preserved : goal.loop-lit-preserved
loop-lit-preserved c = copied_skip c.loop-lit.invariant c.loop-lit-test.true c.lit_value.ensures c.in-False.is

pub returns : goal.returns
returns c = rw (← part_is _ _ _ c.requires.n_in_bounds) (copied_end c.loop-lit.invariant c.loop-lit-test.false)
