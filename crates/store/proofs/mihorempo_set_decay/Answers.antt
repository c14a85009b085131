use Rattle.store_kinds.proofs.Told.{decay_told}
use Rattle.store.proofs.mihorempo_set_decay.Goals as goal

pub returns : goal.returns
returns c = decay_told c.decay_set.ensures.0 c.decay_set.ensures.1 c.set_decay-reply.ensures
