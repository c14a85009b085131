use Rattle.std.proofs.Common.{rules}
use Rattle.laws.proofs.Chains.{tests}
use Rattle.calls.specs.HostPasses.{binary_reason_ok, binary_reasons_ok}
use Rattle.judge_host.proofs.SizedSide.binary_reasons_ok.Goals as goal

pub loop-code-init : goal.loop-code-init
loop-code-init c = search (rules, tests)

pub returns-then-not-binary_reason_ok : goal.returns-then-not-binary_reason_ok
unfolding binary_reason_ok binary_reasons_ok
returns-then-not-binary_reason_ok c = search (rules, tests)

pub loop-code-preserved : goal.loop-code-preserved
unfolding binary_reason_ok
loop-code-preserved c = search (rules, tests)

pub returns : goal.returns
unfolding binary_reasons_ok
returns c = search (rules, tests)
