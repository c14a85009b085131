use Rattle.judge_words.proofs.Counting.{garbage_over, garbage_test}
use Rattle.judge_words.proofs.garbage_ok.Goals as goal

pub returns-then-used-garbage : goal.returns-then-used-garbage
returns-then-used-garbage c = garbage_over _ _ _ _ _ c.if-used-garbage.true

pub returns : goal.returns
returns c = garbage_test _ _ _ _ _ c.if-used-garbage.false _ c.live_words-live.ensures
