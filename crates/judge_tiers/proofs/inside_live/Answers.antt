use native.Mathlib.Omega.{arith}
use Rattle.std.proofs.Common.{rules}
use Rattle.judge_words.proofs.Bisect.{rising}
use Rattle.judge_tiers.proofs.Entries.{in_none, in_dead, in_test, seek_inside}
use Rattle.judge_tiers.proofs.inside_live.Goals as goal

pub seek-k-requires : goal.seek-k-requires
seek-k-requires c = (omega arith, rising _ _ _ _ c.requires.placed)

pub returns-then-k-eq0 : goal.returns-then-k-eq0
returns-then-k-eq0 c = in_none _ _ _ _ c.requires.placed _ _ c.seek-k.ensures c.if-k-eq0.true

pub deleted_at-requires : goal.deleted_at-requires
deleted_at-requires c = omega (arith, seek_inside _ _ _ _ c.requires.placed _ _ c.seek-k.ensures c.if-k-eq0.false c.word-offset.ensures.0)

pub word-requires : goal.word-requires
word-requires c = omega (arith, seek_inside _ _ _ _ c.requires.placed _ _ c.seek-k.ensures c.if-k-eq0.false c.word-offset.ensures.0)

pub returns-then-not-deleted_at : goal.returns-then-not-deleted_at
returns-then-not-deleted_at c = search (rules, in_test)

pub returns-else-not-deleted_at : goal.returns-else-not-deleted_at
returns-else-not-deleted_at c = search (rules, in_dead)
