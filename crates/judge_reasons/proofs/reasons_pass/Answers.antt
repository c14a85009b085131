use Rattle.calls.specs.HostPasses.{trail_in_range}
use Rattle.judge_host.proofs.Trail.{coded}
use Rattle.judge_reasons.proofs.Live.{readable}
use Rattle.judge_reasons.proofs.reasons_pass.Goals as goal

pub trail_ok-requires : goal.trail_ok-requires
unfolding trail_in_range
trail_ok-requires c = coded _ _ c.requires.trail_value

pub invariant_of-judging : goal.invariant_of-judging
invariant_of-judging c = record { readable = readable c.requires.listed; sized = c.requires.side_sized.0 }
