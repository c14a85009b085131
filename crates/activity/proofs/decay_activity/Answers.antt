use Rattle.activity.proofs.Ways.{decay_loud, decay_quiet}
use Rattle.activity.proofs.decay_activity.Goals as goal

pub returns-then-bump-rescale_limit : goal.returns-then-bump-rescale_limit
returns-then-bump-rescale_limit c = decay_loud _ _ _ _ _ _ c.rescale_limit.ensures c.if-bump-rescale_limit.true c.rescale.ensures

pub returns-else-bump-rescale_limit : goal.returns-else-bump-rescale_limit
returns-else-bump-rescale_limit c = decay_quiet _ _ _ _ _ c.requires.placed.within c.rescale_limit.ensures c.if-bump-rescale_limit.false
