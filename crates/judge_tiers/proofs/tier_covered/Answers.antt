use Rattle.judge_tiers.proofs.Marks.{covered_by}
use Rattle.judge_tiers.proofs.tier_covered.Goals as goal

pub returns : goal.returns
returns c = covered_by _ _ _ _ c.requires.1 c.requires.2 _ _ c.mark_all.ensures c.all_marked-all.ensures c.clear_all.ensures
