use mathlib.Core.Path.{refl, sym}
use native.Mathlib.Omega.{arith}
use Rattle.laws.proofs.Sums.{sum_none}
use Rattle.calls.proofs.Readings.{ends_read}
use Rattle.judge_words.proofs.Counting.{words_skip, words_add, words_fit}
use Rattle.judge_words.proofs.live_words.Goals as goal
use Rattle.judge_words.proofs.live_words.Goals.{then-not-deleted_at, else-not-deleted_at}

pub loop-offset-init : goal.loop-offset-init
loop-offset-init c = sym (sum_none _)

pub deleted_at-requires : goal.deleted_at-requires
deleted_at-requires c = omega (arith, ends_read _ _ _ _ c.requires.placed _ c.loop-offset-test.true)

pub word-requires : goal.word-requires
word-requires c = omega (arith, ends_read _ _ _ _ c.requires.placed _ c.loop-offset-test.true)

pub overflow_add-total-then-not-deleted_at : goal.overflow_add-total-then-not-deleted_at
overflow_add-total-then-not-deleted_at c = omega (arith, words_fit _ _ _ _ c.requires.placed _ c.loop-offset-test.true _ _ _ refl c.word.ensures.0 c.loop-offset.invariant)

pub loop-offset-preserved : goal.loop-offset-preserved
loop-offset-preserved c = elim c.if-not-deleted_at.branch [
  | then-not-deleted_at w ↦ rw w.total-is (words_add _ _ _ _ refl c.deleted_at.ensures c.loop-offset.invariant w.if-not-deleted_at.true _ w.word.ensures.0)
  | else-not-deleted_at w ↦ rw w.total-is (words_skip _ _ _ _ refl c.deleted_at.ensures c.loop-offset.invariant w.if-not-deleted_at.false)
]
