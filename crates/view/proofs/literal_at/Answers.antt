use Rattle.view.proofs.Viewed.{short_place, above_length, past_the_end, held_at}
use Rattle.view.proofs.literal_at.Goals as goal

pub returns-then-n-lt3 : goal.returns-then-n-lt3
returns-then-n-lt3 c = short_place _ _ c.if-n-lt3.true

pub returns-then-place-len : goal.returns-then-place-len
returns-then-place-len c = above_length _ _ _ c.if-n-lt3.false c.word-len.ensures.0 c.if-place-len.true

pub returns-then-place-n : goal.returns-then-place-n
returns-then-place-n c = past_the_end _ _ _ c.if-n-lt3.false c.word-len.ensures.0 c.if-place-len.false c.if-place-n.true

pub returns : goal.returns
returns c = held_at _ _ _ c.word-len.ensures.0 c.if-place-len.false c.if-place-n.false
