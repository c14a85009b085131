use mathlib.Core.Path.{◌≡◌}
use mathlib.Core.Bool.{true}
use Rattle.laws.specs.Fold.{all_below}
use Rattle.calls.specs.HostPasses.{binary_reason_ok}
use Rattle.judge_host.specs.Held.{held}
use Rattle.judge_host.proofs.SizedSide.binary_reasons_ok.Given as goal

abbrev pub invariant-loop-code : goal.invariant-loop-code
invariant-loop-code l = all_below (binary_reason_ok (held l.self l.trail)) l.code-index ≡ true
