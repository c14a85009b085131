use Rattle.std.proofs.Common.{rules}
use mathlib.Core.Path.{sym, ◌∙◌}
use Rattle.laws.proofs.Chains.{all_stop, tests}
use Rattle.calls.specs.HostPasses.{long_reasons_ok}
use Rattle.judge_reasons.proofs.Live.{literal_alone}
use Rattle.judge_reasons.proofs.Judging.trail_ok.Goals as goal

pub loop-code-init : goal.loop-code-init
loop-code-init c = search (rules, tests)

pub literal_ok-requires : goal.literal_ok-requires
literal_ok-requires c = c.requires.below _ c.loop-code-test.true

pub returns-then-not-literal_ok : goal.returns-then-not-literal_ok
unfolding long_reasons_ok
returns-then-not-literal_ok c = all_stop _ _ _ c.loop-code-test.true (c.literal_ok.ensures ∙ sym (literal_alone _ _ _ _ _ _ _ _)) c.if-not-literal_ok.true

pub loop-code-preserved : goal.loop-code-preserved
loop-code-preserved c = search (rules, tests, literal_alone)

pub returns : goal.returns
unfolding long_reasons_ok
returns c = search (rules, tests)
