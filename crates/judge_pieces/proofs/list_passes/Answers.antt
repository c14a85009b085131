use mathlib.Core.Path.{◌∙◌}
use Rattle.std.proofs.Common.{rules}
use Rattle.laws.proofs.Chains.{and_stop, row}
use Rattle.judge_sizes.proofs.Whole.{floats_judged}
use Rattle.judge_pieces.specs.Sides.{list_passes}
use Rattle.judge_pieces.proofs.Ready.{words_ready, words_judged}
use Rattle.judge_pieces.proofs.list_passes.Goals as goal

pub words_pass-requires : goal.words_pass-requires
words_pass-requires c = words_ready _ c.requires

pub returns-then-words_pass : goal.returns-then-words_pass
unfolding list_passes
returns-then-words_pass c = search (rules, row, words_judged, floats_judged)

pub returns-else-words_pass : goal.returns-else-words_pass
unfolding list_passes
returns-else-words_pass c = c.if-words_pass.false ∙ and_stop _ (words_judged _ c.requires c.words_pass.ensures) c.if-words_pass.false
