use mathlib.Core.Path.{◌≡◌}
use mathlib.Core.Bool.{true}
use Rattle.laws.specs.Fold.{all_below}
use Rattle.calls.specs.HostPasses.{long_reason_ok}
use Rattle.judge_reasons.specs.Held.{held}
use Rattle.judge_reasons.proofs.Judging.trail_ok.Given as goal

abbrev pub invariant-loop-code : goal.invariant-loop-code
invariant-loop-code l = all_below (long_reason_ok (held l.self l.trail)) l.code-index ≡ true
