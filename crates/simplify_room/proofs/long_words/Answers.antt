use mathlib.Core.Path.{refl, sym, ◌∙◌}
use Prim.Native.Nat.{◌+◌}
use lib.ListN.{take}
use Rattle.laws.specs.Fold.{sum_below}
use Rattle.laws.specs.Lists.{at}
use Rattle.laws.proofs.Parts.{in_front}
use Rattle.simplify_room.proofs.Tally.{summed_dead, summed_live, verdict_small}
use native.Mathlib.Omega.{arith}
use Rattle.simplify_room.proofs.long_words.Goals as goal

pub loop-clause-init : goal.loop-clause-init
unfolding sum_below
loop-clause-init c = record { is = refl; most = omega arith }

pub loop-clause-preserved-then-deleted_of : goal.loop-clause-preserved-then-deleted_of
loop-clause-preserved-then-deleted_of c = summed_dead c.loop-clause.invariant (in_front _ _ _ c.loop-clause-test.true).1 (sym c.deleted_of.ensures ∙ c.if-deleted_of.true)

pub verdict_words-sum-requires : goal.verdict_words-sum-requires
verdict_words-sum-requires c = verdict_small _ _ _ (omega (arith, c.type_inv.words (at (take c.args.n c.args.clauses.now) c.loop-clause.clause-index + 2))) c.verdict_at-verdict.ensures

pub loop-clause-preserved : goal.loop-clause-preserved
loop-clause-preserved c = summed_live c.loop-clause.invariant (in_front _ _ _ c.loop-clause-test.true).1 (sym c.deleted_of.ensures ∙ c.if-deleted_of.false) c.verdict_at-verdict.ensures c.verdict_words-sum.ensures
