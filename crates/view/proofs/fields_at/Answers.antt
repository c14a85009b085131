use Rattle.view.proofs.Viewed.{short_shown, long_shown}
use Rattle.view.proofs.fields_at.Goals as goal

pub returns-then-words-lt3 : goal.returns-then-words-lt3
returns-then-words-lt3 c = short_shown _ _ c.if-words-lt3.true c.fields_from.ensures

pub returns : goal.returns
returns c = long_shown _ _ c.if-words-lt3.false c.fields_from-2.ensures
