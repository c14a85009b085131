use Rattle.std.proofs.Common.{rules}
use Rattle.std.proofs.iter.runs.Sources.{ranges}
use lib.ListN.{length}
use Rattle.laws.proofs.Chains.{all_iff}
use Rattle.calls.specs.StorePasses.{placed_at, placed}
use Rattle.judge_words.proofs.all_placed.Goals as goal

pub returns : goal.returns
unfolding placed placed_at
returns c = all_iff (placed_at c.args.words.now c.args.used c.args.clauses.now (length c.args.clauses.now)) (length c.args.clauses.now) (search (rules, ranges))
