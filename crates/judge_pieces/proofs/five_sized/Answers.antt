use mathlib.Core.Path.{◌∙◌}
use Rattle.std.proofs.Common.{rules}
use Rattle.laws.proofs.Chains.{row}
use Rattle.judge_sizes.proofs.Whole.{tiers_judged}
use Rattle.judge_pieces.specs.Sides.{list_sized, five_sized}
use Rattle.calls.specs.Size.{words_sized}
use Rattle.judge_pieces.proofs.five_sized.Goals as goal

pub returns-then-list_sized : goal.returns-then-list_sized
unfolding five_sized list_sized words_sized
returns-then-list_sized c = search (rules, row, tiers_judged)

pub returns-else-list_sized : goal.returns-else-list_sized
unfolding five_sized list_sized words_sized
returns-else-list_sized c = c.if-list_sized.false ∙ search (rules, row)
