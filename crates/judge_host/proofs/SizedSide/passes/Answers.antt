use Rattle.std.proofs.Common.{rules}
use Rattle.laws.proofs.Chains.{row}
use Rattle.calls.specs.HostPasses.{trail_in_range, level_in_range, side_passes}
use Rattle.judge_host.specs.Held.{held}
use Rattle.judge_host.proofs.Trail.{seen_none, coded_once}
use Rattle.judge_host.proofs.Ways.{values_are, kinds_are, removed_are}
use Rattle.judge_host.proofs.SizedSide.passes.Goals as goal

pub trail_once-requires : goal.trail_once-requires
trail_once-requires c = search (rules, seen_none)

pub trail_ok-requires : goal.trail_ok-requires
trail_ok-requires c = search (rules, coded_once)

pub binary_reasons_ok-requires : goal.binary_reasons_ok-requires
binary_reasons_ok-requires c = search (rules, coded_once)

pub returns-then-not-bytes_at_most : goal.returns-then-not-bytes_at_most
unfolding side_passes trail_in_range level_in_range
returns-then-not-bytes_at_most c = search (rules, row, values_are, kinds_are, removed_are)

pub returns-then-not-bytes_at_most-2 : goal.returns-then-not-bytes_at_most-2
unfolding side_passes trail_in_range level_in_range
returns-then-not-bytes_at_most-2 c = search (rules, row, values_are, kinds_are, removed_are)

pub returns-then-not-trail_once : goal.returns-then-not-trail_once
unfolding side_passes trail_in_range level_in_range
returns-then-not-trail_once c = search (rules, row, values_are, kinds_are, removed_are)

pub returns-then-vars-host : goal.returns-then-vars-host
unfolding side_passes trail_in_range level_in_range
returns-then-vars-host c = search (rules, row, values_are, kinds_are, removed_are)

pub returns-then-not-trail_ok : goal.returns-then-not-trail_ok
unfolding side_passes trail_in_range level_in_range
returns-then-not-trail_ok c = search (rules, row, values_are, kinds_are, removed_are)

pub returns-then-not-removed_ok : goal.returns-then-not-removed_ok
unfolding side_passes trail_in_range level_in_range
returns-then-not-removed_ok c =
    let e = removed_are c.args.self.vars (held c.args.self c.args.trail.now) _ c.args.self.sized c.trail_once.ensures c.if-not-trail_once.false c.removed_ok.ensures in
    search (rules, row, values_are, kinds_are)

pub returns : goal.returns
unfolding side_passes trail_in_range level_in_range
returns c = search (rules, row, values_are, kinds_are, removed_are)
