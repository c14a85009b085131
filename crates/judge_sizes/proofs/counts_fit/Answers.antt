use Rattle.std.proofs.Common.{rules}
use lib.ListN.{length}
use Rattle.laws.proofs.Chains.{all_iff}
use Rattle.calls.specs.HostPasses.{at_most_at}
use Rattle.judge_sizes.proofs.counts_fit.Goals as goal

pub returns : goal.returns
unfolding at_most_at
returns c = all_iff (at_most_at c.args.room c.args.counts.now) (length c.args.counts.now) (search rules)
