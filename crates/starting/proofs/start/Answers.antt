use Rattle.std.proofs.Common.{sym, ◌∙◌}
use Rattle.starting.proofs.Ways.{size_refused, decay_refused, is_started}
use Rattle.starting.proofs.start.Goals as goal

pub returns-then-not-start_sizes_ok : goal.returns-then-not-start_sizes_ok
returns-then-not-start_sizes_ok c = size_refused _ _ _ _ _ _ _ _ _ _ _ _ (sym c.start_sizes_ok.ensures ∙ c.if-not-start_sizes_ok.true)

pub returns-then-not-decay_ok : goal.returns-then-not-decay_ok
returns-then-not-decay_ok c = decay_refused _ _ _ _ _ _ _ _ _ _ _ _ (sym c.start_sizes_ok.ensures ∙ c.if-not-start_sizes_ok.false) (sym c.decay_ok.ensures ∙ c.if-not-decay_ok.true)

pub returns : goal.returns
returns c =
    rw (c.fill.ensures.after (λ y e. e), c.fill-2.ensures.after (λ y e. e), c.fill-3.ensures.after (λ y e. e), c.fill-4.ensures.after (λ y e. e), c.fill-5.ensures.after (λ y e. e), c.fill-6.ensures.after (λ y e. e), c.fill-7.ensures.after (λ y e. e), c.fill-8.ensures.after (λ y e. e), c.fill-9.ensures.after (λ y e. e))
    (is_started _ _ _ _ _ _ _ _ _ _ _ _ (sym c.start_sizes_ok.ensures ∙ c.if-not-start_sizes_ok.false) (sym c.decay_ok.ensures ∙ c.if-not-decay_ok.false))
