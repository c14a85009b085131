use Rattle.std.proofs.Common.{rules}
use Rattle.std.proofs.iter.runs.Sources.{ranges}
use Rattle.judge_host.specs.Sides.{seen_ok}
use Rattle.laws.proofs.Chains.{all_iff}
use Rattle.judge_host.proofs.removed_ok.Goals as goal

pub returns : goal.returns
unfolding seen_ok
returns c = all_iff (seen_ok c.args.seen.now c.args.values.now c.args.kinds.now) c.args.vars (search (rules, ranges))
