use Rattle.std.proofs.Common.{rules}
use lib.ListN.{length}
use Rattle.laws.proofs.Chains.{all_iff}
use Rattle.judge_reasons.specs.Reasons.{false_at}
use Rattle.judge_reasons.proofs.all_false.Goals as goal

pub returns : goal.returns
unfolding false_at
returns c = all_iff (false_at c.args.values.now c.args.lits.now) (length c.args.lits.now) (search rules)
