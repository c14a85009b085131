use Rattle.judge_words.proofs.Bisect.{rising}
use Rattle.judge_tiers.proofs.Steps.{inside_of}
use Rattle.judge_tiers.proofs.tier_ok.Goals as goal

pub tier_covered-requires : goal.tier_covered-requires
tier_covered-requires c = (rising _ _ _ _ c.requires.lies, inside_of _ _ _ _ c.requires.lies _ c.requires.room, c.requires.bare)
