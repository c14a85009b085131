use mathlib.Core.Path.{refl, ◌∙◌}
use Prim.Native.Nat.{ℕ}
use lib.ListN.{length-set}
use native.Mathlib.Omega.{arith}
use Rattle.laws.proofs.Folds.{count_le}
use Rattle.calls.specs.StorePasses.{live_in}
use Rattle.calls.proofs.Readings.{ends_read}
use Rattle.judge_words.proofs.Counting.{tally_none, tally_skip, tally_add}
use Rattle.judge_words.proofs.tally.Goals as goal
use Rattle.judge_words.proofs.tally.Goals.{then-not-deleted_at, else-not-deleted_at}

pub loop-offset-init : goal.loop-offset-init
loop-offset-init c = (refl, tally_none _ _)

pub deleted_at-requires : goal.deleted_at-requires
deleted_at-requires c = omega (arith, ends_read _ _ _ _ c.requires.placed _ c.loop-offset-test.true)

pub tier_at-requires : goal.tier_at-requires
tier_at-requires c = omega (arith, ends_read _ _ _ _ c.requires.placed _ c.loop-offset-test.true)

pub overflow_add-counts : goal.overflow_add-counts
overflow_add-counts c = omega (arith, c.loop-offset.invariant.1.each c.tier_at.result c.tier_at.ensures.1, count_le (live_in c.args.words.now c.args.clauses.now c.tier_at.result) c.loop-offset.offset-index)

pub loop-offset-preserved : goal.loop-offset-preserved
loop-offset-preserved c = elim c.if-not-deleted_at.branch [
  | then-not-deleted_at w ↦ rw w.counts-is (length-set {A = ℕ} c.loop-offset.counts w.tier_at.result _ ∙ c.loop-offset.invariant.0, tally_add _ _ _ _ refl c.deleted_at.ensures _ c.loop-offset.invariant.0 c.loop-offset.invariant.1 w.if-not-deleted_at.true _ w.tier_at.ensures.0 w.tier_at.ensures.1)
  | else-not-deleted_at w ↦ rw w.counts-is (c.loop-offset.invariant.0, tally_skip _ _ _ _ refl c.deleted_at.ensures _ c.loop-offset.invariant.1 w.if-not-deleted_at.false)
]
