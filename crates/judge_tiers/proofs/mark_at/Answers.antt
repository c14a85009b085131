use Rattle.std.proofs.Common.{rules}
use Rattle.judge_tiers.proofs.Steps.{mark_miss, mark_dead, mark_live}
use Rattle.judge_tiers.proofs.mark_at.Goals as goal

pub returns-then-not-deleted_at : goal.returns-then-not-deleted_at
returns-then-not-deleted_at c = search (rules, mark_live)

pub returns-else-find-n : goal.returns-else-find-n
returns-else-find-n c = search (rules, mark_miss, mark_dead)
