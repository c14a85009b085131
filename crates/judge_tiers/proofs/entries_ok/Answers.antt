use Rattle.std.proofs.Common.{rules}
use lib.ListN.{length}
use Rattle.laws.proofs.Chains.{all_iff}
use Rattle.calls.specs.StorePasses.{entry_ok, entries_ok}
use Rattle.judge_tiers.proofs.entries_ok.Goals as goal

pub returns : goal.returns
unfolding entries_ok entry_ok
returns c = all_iff (entry_ok c.args.words.now c.args.used c.args.clauses.now (length c.args.clauses.now) c.args.list.now) (length c.args.list.now) (search rules)
