use mathlib.Core.Path.{refl, sym}
use native.Mathlib.Nat.{add-zero}
use Rattle.laws.proofs.Parts.{in_front}
use Rattle.prove_units.specs.Units.{trail_lines, trail_set}
use Rattle.prove_units.proofs.Trail.{unit_needs, proving_next}
use Rattle.prove_units.proofs.prove_trail.Goals as goal

pub loop-lit-init : goal.loop-lit-init
unfolding trail_lines trail_set
loop-lit-init c = record { used_is = sym (add-zero _); rec_is = refl; kinds_is = refl; reasons_is = refl }

pub prove_unit-recorded-requires-clause-lit_in_bounds_2 : goal.prove_unit-recorded-requires-clause-lit_in_bounds_2
prove_unit-recorded-requires-clause-lit_in_bounds_2 c =
    let e = in_front _ _ _ c.loop-lit-test.true in
    unit_needs c.requires.trail_ready e.0 c.loop-lit.invariant e.1 c.requires.n_in_bounds

pub loop-lit-preserved : goal.loop-lit-preserved
loop-lit-preserved c =
    let e = in_front _ _ _ c.loop-lit-test.true in
    proving_next c.requires.trail_ready e.0 c.loop-lit.invariant e.1 c.prove_unit-recorded.ensures
