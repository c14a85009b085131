use Rattle.std.proofs.Common.{rules, of_calls}
use Rattle.std.proofs.lemmas.Fn.{always_returns_same}
use lib.Dec.{leb}
use Rattle.judge_words.proofs.Bisect.{parts, split_at}
use Rattle.judge_words.proofs.seek.Goals as goal

pub returns : goal.returns
returns c =
    let p = c.partition_point.ensures in
    split_at c.requires.1 c.requires.0 _ _ p.bound (p.partitioned (λ y. leb y c.args.x) (always_returns_same _ _ _ (λ a r f k. search (rules, of_calls))) (parts c.requires.1 c.requires.0 _))
