use mathlib.Core.Path.{sym, ◌∙◌}
use Rattle.std.proofs.Common.{rules}
use Rattle.laws.proofs.Chains.{row}
use Rattle.judge_host.proofs.Whole.{levels_judged, side_judged, trail_judged}
use Rattle.judge_reasons.proofs.Whole.{reasons_judged}
use Rattle.judge_pieces.specs.Sides.{host_passing}
use Rattle.judge_pieces.proofs.Ready.{levels_ready, side_ready, placed_ready}
use Rattle.judge_pieces.proofs.host_passes.Goals as goal

pub levels_pass-requires : goal.levels_pass-requires
levels_pass-requires c = levels_ready _ c.requires

pub returns-then-not-levels_pass : goal.returns-then-not-levels_pass
unfolding host_passing
returns-then-not-levels_pass c = search (rules, row, levels_judged, side_judged, reasons_judged)

pub side_pass-requires : goal.side_pass-requires
side_pass-requires c = side_ready _ c.requires

pub returns-then-not-side_pass : goal.returns-then-not-side_pass
unfolding host_passing
returns-then-not-side_pass c = search (rules, row, levels_judged, side_judged, reasons_judged)

pub reasons_pass-requires : goal.reasons_pass-requires
reasons_pass-requires c = record { listed = placed_ready _ c.requires; side_sized = side_ready _ c.requires; trail_value = trail_judged _ _ (sym c.side_pass.ensures ∙ c.if-not-side_pass.false) }

pub returns : goal.returns
unfolding host_passing
returns c = search (rules, row, levels_judged, side_judged, reasons_judged)
