use mathlib.Core.Path.{refl, sym, ◌∙◌}
use Prim.Native.Nat.{ℕ, ◌<◌}
use lib.ListN.{length}
use Rattle.laws.specs.Fold.{fold_below}
use Rattle.laws.proofs.Parts.{in_front}
use Rattle.kinds.specs.Clauses.{neg}
use Rattle.simplify_lines.proofs.Literals.{unfalsified_in}
use Rattle.simplify_room.proofs.Tally.{tallied_same, tallied_pair, pair_dead, pair_none, pair_many, pair_two, left_is}
use native.Mathlib.Omega.{arith}
use Rattle.simplify_room.proofs.tally_pairs.Goals as goal

pub loop-clause-init : goal.loop-clause-init
unfolding fold_below
loop-clause-init c = record { is = refl; size = refl; bound = λ x. omega (arith, c.requires.by_index_2 x) }

pub loop-clause-preserved-then-deleted_of : goal.loop-clause-preserved-then-deleted_of
loop-clause-preserved-then-deleted_of c = tallied_same c.loop-clause.invariant (in_front _ _ _ c.loop-clause-test.true).1 (pair_dead _ _ _ (sym c.deleted_of.ensures ∙ c.if-deleted_of.true))

pub loop-clause-preserved-in_default : goal.loop-clause-preserved-in_default
loop-clause-preserved-in_default c =
    tallied_same c.loop-clause.invariant (in_front _ _ _ c.loop-clause-test.true).1 (pair_none _ _ _ (sym c.deleted_of.ensures ∙ c.if-deleted_of.false) c.verdict_at.ensures c.in_default.not-Shorter)

pub loop-clause-preserved-then-m-ne2 : goal.loop-clause-preserved-then-m-ne2
loop-clause-preserved-then-m-ne2 c =
    tallied_same c.loop-clause.invariant (in_front _ _ _ c.loop-clause-test.true).1 (pair_many _ _ _ (sym c.deleted_of.ensures ∙ c.if-deleted_of.false) c.verdict_at.ensures _ c.in-Shorter.is c.if-m-ne2.true)

pub two_left-requires-clause-offset_in_bounds : goal.two_left-requires-clause-offset_in_bounds
two_left-requires-clause-offset_in_bounds c =
    let e = in_front _ _ _ c.loop-clause-test.true in
    (rw e.1 (c.requires.n_in_bounds.2 c.loop-clause.clause-index e.0), sym (left_is _ _ _ (sym c.deleted_of.ensures ∙ c.if-deleted_of.false) c.verdict_at.ensures _ c.in-Shorter.is) ∙ c.if-m-ne2.false)

pub tally_pair-requires-clause-a_in_bounds : goal.tally_pair-requires-clause-a_in_bounds
tally_pair-requires-clause-a_in_bounds c =
    let e = in_front _ _ _ c.loop-clause-test.true in
    let d = sym c.deleted_of.ensures ∙ c.if-deleted_of.false in
    let two = sym (left_is _ _ _ d c.verdict_at.ensures _ c.in-Shorter.is) ∙ c.if-m-ne2.false in
    let code = unfalsified_in (λ (x : ℕ). neg x < length c.args.tally.now) c.args.values.now c.args.words.now _ _ (λ p l. (rw (← e.1) at (c.requires.by_index c.loop-clause.clause-index e.0) d p l).1) in
    (rw (c.two_left.ensures, c.loop-clause.invariant.size) (code 0 (omega (arith, two))), rw (c.two_left.ensures, c.loop-clause.invariant.size) (code 1 (omega (arith, two))))

pub loop-clause-preserved : goal.loop-clause-preserved
loop-clause-preserved c =
    tallied_pair c.loop-clause.invariant (in_front _ _ _ c.loop-clause-test.true).1
    (pair_two _ _ _ (sym c.deleted_of.ensures ∙ c.if-deleted_of.false) c.verdict_at.ensures _ c.in-Shorter.is c.if-m-ne2.false) c.two_left.ensures c.tally_pair.ensures
