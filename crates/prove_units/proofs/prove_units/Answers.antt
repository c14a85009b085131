use Rattle.prove_units.proofs.Answered.{above, new_is}
use Rattle.prove_units.proofs.Lent.{ready, lines_room, units_laid, same_laid}
use native.Mathlib.Omega.{arith}
use Rattle.prove_units.proofs.prove_units.Goals as goal

pub returns-then-level-ne0 : goal.returns-then-level-ne0
returns-then-level-ne0 c = record { units_after = same_laid _ _ _ _ _ _ _ _ _ _ _ c.requires.level_value c.if-level-ne0.true; new_value = above _ c.if-level-ne0.true }

pub prove_trail-recorded-requires : goal.prove_trail-recorded-requires
prove_trail-recorded-requires c = record { trail_ready = ready _ _ _ _ _ _ _ _ _ _ _ c.requires.level_value; n_in_bounds = lines_room _ _ _ _ _ _ _ _ _ _ _ c.requires.level_value c.if-level-ne0.false c.requires.level_value_2 }

pub clear-requires : goal.clear-requires
clear-requires c = (omega arith, (ready _ _ _ _ _ _ _ _ _ _ _ c.requires.level_value).short)

pub returns : goal.returns
returns c =
    let room = lines_room _ _ _ _ _ _ _ _ _ _ _ c.requires.level_value c.if-level-ne0.false c.requires.level_value_2 in
    record { units_after = units_laid _ _ _ _ _ _ _ _ _ _ _ c.requires.level_value c.if-level-ne0.false room c.prove_trail-recorded.ensures c.clear.ensures; new_value = new_is _ c.requires.level_value c.if-level-ne0.false }
