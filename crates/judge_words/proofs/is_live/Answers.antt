use mathlib.Core.Path.{◌∙◌}
use borrow.Author.Tests.{le-ltb}
use Rattle.judge_words.proofs.Bisect.{rising, found_inside, live_miss, live_hit}
use native.Mathlib.Omega.{arith}
use Rattle.judge_words.proofs.is_live.Goals as goal

pub find-requires : goal.find-requires
find-requires c = (omega arith, rising _ _ _ _ c.requires.n_value)

pub returns-else-find-n : goal.returns-else-find-n
returns-else-find-n c = le-ltb _ _ c.if-find-n.false ∙ live_miss _ _ _ _ _ c.requires.used_in_bounds.1 c.find.ensures c.if-find-n.false

pub deleted_at-requires : goal.deleted_at-requires
deleted_at-requires c = omega (arith, found_inside _ _ _ _ _ _ c.requires.n_value c.find.ensures c.if-find-n.true)

pub returns-then-find-n : goal.returns-then-find-n
returns-then-find-n c = live_hit _ _ _ _ _ c.requires.used_in_bounds.1 c.find.ensures c.if-find-n.true c.deleted_at.ensures
