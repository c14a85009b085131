use Rattle.std.proofs.Common.{◌≡◌, length, rules}
use Rattle.activity_steps.proofs.Decaying.{decay_ready, decay_laid}
use Rattle.activity_steps.proofs.decay.Goals as goal
use Rattle.activity_steps.proofs.decay.Goals.{Start}

four : (c : Start) → length c.args.s.tiers ≡ 4
four c = search rules

pub decay_activity-left-requires : goal.decay_activity-left-requires
decay_activity-left-requires c = decay_ready _ _ _ _ _ _ _ (four (goal.at.decay_activity-left-requires c).Start) c.requires

pub returns : goal.returns
returns c = decay_laid _ _ _ _ _ _ _ (four (goal.at.returns c).Start) c.requires _ c.decay_activity-left.ensures
