use mathlib.Core.Path.{sym, ◌∙◌}
use Rattle.std.proofs.Common.{rules}
use Rattle.laws.proofs.Chains.{row}
use Rattle.judge_sizes.proofs.Whole.{floats_judged}
use Rattle.judge_tiers.proofs.Whole.{lists_sized}
use Rattle.judge_pieces.specs.Sides.{five_pass}
use Rattle.judge_pieces.proofs.Ready.{words_ready, words_judged, five_list, five_tiers, tiers_judged, tiers_ready}
use Rattle.judge_pieces.proofs.five_pass.Goals as goal

pub words_pass-requires : goal.words_pass-requires
words_pass-requires c = words_ready _ (five_list _ c.requires)

pub returns-then-not-words_pass : goal.returns-then-not-words_pass
unfolding five_pass
returns-then-not-words_pass c = search (rules, row, words_judged, five_list, tiers_judged, floats_judged)

pub tiers_pass-requires : goal.tiers_pass-requires
tiers_pass-requires c = record {
  ready = tiers_ready _ c.requires (sym (words_judged _ (five_list _ c.requires) c.words_pass.ensures) ∙ c.if-not-words_pass.false);
  lens_in_bounds = lists_sized _ _ _ _ _ _ _ _ _ _ _ (five_tiers _ c.requires);
}

pub returns-then-not-tiers_pass : goal.returns-then-not-tiers_pass
unfolding five_pass
returns-then-not-tiers_pass c = search (rules, row, words_judged, five_list, tiers_judged, floats_judged)

pub returns : goal.returns
unfolding five_pass
returns c = search (rules, row, words_judged, five_list, tiers_judged, floats_judged)
