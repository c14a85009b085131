use Rattle.std.proofs.Common.{rules}
use lib.ListN.{length}
use Rattle.calls.specs.HostPasses.{at_most_at}
use Rattle.laws.proofs.Chains.{all_iff}
use Rattle.judge_host.proofs.bytes_at_most.Goals as goal

pub returns : goal.returns
unfolding at_most_at
returns c = all_iff (at_most_at c.args.most c.args.bytes.now) (length c.args.bytes.now) (search rules)
