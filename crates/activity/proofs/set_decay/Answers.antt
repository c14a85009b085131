use Rattle.std.proofs.Common.{sym, ◌∙◌}
use Rattle.activity.proofs.Deciding.{decay_refused, decay_stored}
use Rattle.activity.proofs.set_decay.Goals as goal

pub returns-then-not-decay_ok : goal.returns-then-not-decay_ok
returns-then-not-decay_ok c = decay_refused _ _ (sym c.decay_ok.ensures ∙ c.if-not-decay_ok.true)

pub returns : goal.returns
returns c = decay_stored _ _ (sym c.decay_ok.ensures ∙ c.if-not-decay_ok.false)
