use mathlib.Core.Path.{◌≡◌, refl}
use lib.ListN.{length}
use Rattle.calls.specs.Call.{everything}
use Rattle.calls.proofs.Judged.{sizes_judged, vars_low, vars_high}
use Rattle.simplify_steps.proofs.Facts.{rows_ready}
use Rattle.simplify_steps.proofs.Whole.{said_room, long_ready, whole_laid}
use borrow.Author.Rules.{rules}
use native.Mathlib.Omega.{arith}
use Rattle.simplify_steps.proofs.simplify.Goals as goal

pub overflow_mul-room : goal.overflow_mul-room
overflow_mul-room c = omega (arith, vars_high everything _ (sizes_judged everything _ c.requires.level_value) refl)

pub nonzero_div-room : goal.nonzero_div-room
nonzero_div-room c = omega (arith, vars_low everything _ (sizes_judged everything _ c.requires.level_value) refl)

pub clean_rows-cleaned-requires : goal.clean_rows-cleaned-requires
clean_rows-cleaned-requires c = record { rows_ready = rows_ready _ c.requires.level_value; rows_in_bounds = said_room _ c.requires.level_value c.requires.level_value_2 }

pub simplify_long-requires : goal.simplify_long-requires
simplify_long-requires c = long_ready _ c.requires.level_value c.requires.level_value_2 c.clean_rows-cleaned.ensures

pub returns : goal.returns
returns c =
    let four_lengths : length c.args.s.tiers ≡ 4 = search rules in
    whole_laid _ c.requires.level_value c.requires.level_value_2 c.clean_rows-cleaned.ensures c.simplify_long.ensures refl four_lengths
