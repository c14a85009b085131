use Rattle.std.proofs.Common.{rules}
use Rattle.laws.proofs.Chains.{tests}
use Rattle.calls.specs.HostPasses.{trail_ok}
use Rattle.judge_host.proofs.Ways.{stands_is}
use Rattle.judge_host.proofs.SizedSide.trail_ok.Goals as goal

pub loop-code-init : goal.loop-code-init
loop-code-init c = search (rules, tests)

pub returns-then-not-stands : goal.returns-then-not-stands
unfolding trail_ok
returns-then-not-stands c = search (rules, tests, stands_is)

pub loop-code-preserved : goal.loop-code-preserved
loop-code-preserved c = search (rules, tests, stands_is)

pub returns : goal.returns
unfolding trail_ok
returns c = search (rules, tests)
