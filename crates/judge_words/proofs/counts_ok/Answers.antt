use Rattle.std.proofs.Common.{rules}
use Rattle.judge_words.proofs.Counting.{counts_equal}
use Rattle.judge_words.proofs.counts_ok.Goals as goal

pub returns : goal.returns
returns c = counts_equal _ _ _ _ _ c.tally-live.ensures (search rules) (search rules) c.eq.ensures
