use mathlib.Core.Path.{◌≡◌, ap, sym, ◌∙◌}
use mathlib.Core.Bool.{false}
use Prim.Native.Nat.{◌<◌}
use lib.ListN.{length}
use Rattle.laws.specs.Lists.{at}
use Rattle.laws.proofs.Parts.{read_each}
use Rattle.kinds.specs.Clauses.{lits_at, deleted_at, var_of}
use Rattle.kinds.specs.declared.State.{State}
use Rattle.kinds.specs.declared.Verdict.TheVariants.{Shorter}
use Rattle.kinds.proofs.Told.{value_left}
use Rattle.calls.specs.Simplifying.{verdict_of}
use Rattle.simplify_lines.proofs.Literals.{reading_drop, reading_keep, told_satisfied, told_same, told_shorter, verdict_left}
use Rattle.simplify_long.proofs.Turned.{turned_start, turned_end, turn_deleted, turn_satisfied, turn_same, turn_binary, turn_front, ends, vars, one_there, gone_sum, satisfied_room, left_is, short_room, m_small, m_few, strike_room, kept_room, pair_there, pair_requires, pair_fits, pairs_few}
use native.Mathlib.Omega.{arith}
use Rattle.simplify_long.proofs.simplify_long.Goals.{In_default-verdict, In-Shorter, then-loop-lit-test+in-True, else-loop-lit-test+then-kept-lits, else-loop-lit-test+else-kept-lits, in-Unassigned, in_default}
use Rattle.simplify_long.proofs.simplify_long.Goals as goal

-- the clause is live, and what the literal loop found: where it is not shorter, and where it is
whole : (c : In_default-verdict) → (deleted_at c.clauses.words (at c.clauses.clauses c.clauses.i) ≡ false) × (c.loop-lit-test.verdict ≡ verdict_of c.args.values.now (lits_at c.clauses.words (at c.clauses.clauses c.clauses.i)))
whole c = (
  sym c.deleted_of.ensures ∙ c.if-deleted_of.false,
  rw (← c.lits-lits.ensures) (elim c.loop-lit-test.branch [
    | then-loop-lit-test+in-True w ↦ w.verdict-is ∙ told_satisfied c.loop-lit.invariant w.loop-lit-test.true w.lit_value-value.ensures w.in-True.is
    | else-loop-lit-test+then-kept-lits w ↦ w.verdict-is ∙ told_same c.loop-lit.invariant w.loop-lit-test.false w.if-kept-lits.true
    | else-loop-lit-test+else-kept-lits w ↦ w.verdict-is ∙ told_shorter c.loop-lit.invariant w.loop-lit-test.false w.if-kept-lits.false
  ]),
)

short : (c : In-Shorter) → (deleted_at c.clauses.words (at c.clauses.clauses c.clauses.i) ≡ false) × (verdict_of c.args.values.now (lits_at c.clauses.words (at c.clauses.clauses c.clauses.i)) ≡ Shorter c.in-Shorter.m)
short c = (
  sym c.deleted_of.ensures ∙ c.if-deleted_of.false,
  rw (← c.lits-lits.ensures, ← c.in-Shorter.is) (sym (elim c.loop-lit-test.branch [
    | then-loop-lit-test+in-True w ↦ w.verdict-is ∙ told_satisfied c.loop-lit.invariant w.loop-lit-test.true w.lit_value-value.ensures w.in-True.is
    | else-loop-lit-test+then-kept-lits w ↦ w.verdict-is ∙ told_same c.loop-lit.invariant w.loop-lit-test.false w.if-kept-lits.true
    | else-loop-lit-test+else-kept-lits w ↦ w.verdict-is ∙ told_shorter c.loop-lit.invariant w.loop-lit-test.false w.if-kept-lits.false
  ])),
)

pub clauses-init : goal.clauses-init
clauses-init c = turned_start c.requires

pub bounds-words-offset : goal.bounds-words-offset
bounds-words-offset c = omega (arith, ends c.clauses.invariant c.requires c.clauses-test.true)

pub clauses-preserved-then-deleted_of : goal.clauses-preserved-then-deleted_of
clauses-preserved-then-deleted_of c = turn_deleted c.clauses.invariant c.requires c.clauses-test.true (sym c.deleted_of.ensures ∙ c.if-deleted_of.true)

pub lits-lits-requires : goal.lits-lits-requires
lits-lits-requires c = ends c.clauses.invariant c.requires c.clauses-test.true

pub lit_value-value-requires : goal.lit_value-value-requires
lit_value-value-requires c =
    let d = sym c.deleted_of.ensures ∙ c.if-deleted_of.false in
    read_each (λ x. var_of x < length c.args.values.now) _ _ _ (vars c.clauses.invariant c.requires c.clauses-test.true d) c.lits-lits.ensures _ c.loop-lit-test.true

pub loop-lit-preserved : goal.loop-lit-preserved
loop-lit-preserved c = elim c.match-value.branch [
  | in-Unassigned w ↦ rw w.kept-is (reading_keep c.loop-lit.invariant c.loop-lit-test.true c.lit_value-value.ensures w.in-Unassigned.is)
  | in_default w ↦ rw w.kept-is (reading_drop c.loop-lit.invariant c.loop-lit-test.true c.lit_value-value.ensures (value_left _ c.in_default-value.not-True w.in_default.not-Unassigned))
]

pub strike-end-requires : goal.strike-end-requires
strike-end-requires c =
    let w = whole (goal.at.strike-end-requires c).In_default-verdict in
    let s = sym w.1 ∙ verdict_left _ c.in_default-verdict.not-Shorter c.in_default-verdict-2.not-Same in
    (ends c.clauses.invariant c.requires c.clauses-test.true, satisfied_room c.clauses.invariant c.requires c.clauses-test.true w.0 s)

pub drop_clause-s-requires : goal.drop_clause-s-requires
drop_clause-s-requires c =
    let d = (whole (goal.at.drop_clause-s-requires c).In_default-verdict).0 in
    (omega (arith, ends c.clauses.invariant c.requires c.clauses-test.true), one_there c.clauses.invariant c.requires c.clauses-test.true d, gone_sum c.clauses.invariant c.requires c.clauses-test.true d)

pub clauses-preserved-in_default-verdict-2 : goal.clauses-preserved-in_default-verdict-2
clauses-preserved-in_default-verdict-2 c =
    let w = whole (goal.at.clauses-preserved-in_default-verdict-2 c).In_default-verdict in
    let s = sym w.1 ∙ verdict_left _ c.in_default-verdict.not-Shorter c.in_default-verdict-2.not-Same in
    turn_satisfied c.clauses.invariant c.requires c.clauses-test.true w.0 s c.strike-end.ensures c.drop_clause-s.ensures

pub clauses-preserved-in_default-verdict : goal.clauses-preserved-in_default-verdict
clauses-preserved-in_default-verdict c =
    let w = whole (goal.at.clauses-preserved-in_default-verdict c).In_default-verdict in
    turn_same c.clauses.invariant c.requires c.clauses-test.true w.0 (sym w.1 ∙ c.in-Same.is)

pub enter-mid-requires : goal.enter-mid-requires
enter-mid-requires c =
    let s = short (goal.at.enter-mid-requires c).In-Shorter in
    record { offset_in_bounds = (ends c.clauses.invariant c.requires c.clauses-test.true, omega (arith, short_room c.clauses.invariant c.requires c.clauses-test.true s.0 s.1), left_is c.clauses.invariant c.requires c.clauses-test.true s.0 s.1, m_few c.clauses.invariant c.requires c.clauses-test.true s.0 s.1); by_index = vars c.clauses.invariant c.requires c.clauses-test.true s.0 }

pub strike-end-requires-in-clauses : goal.strike-end-requires-in-clauses
strike-end-requires-in-clauses c =
    let s = short (goal.at.strike-end-requires-in-clauses c).In-Shorter in
    (ends c.clauses.invariant c.requires c.clauses-test.true, strike_room c.clauses.invariant c.requires c.clauses-test.true s.0 s.1 c.enter-mid.ensures)

pub offset_bounds-rec-used : goal.offset_bounds-rec-used
offset_bounds-rec-used c =
    let s = short (goal.at.offset_bounds-rec-used c).In-Shorter in
    omega (arith, pair_there c.clauses.invariant c.requires c.clauses-test.true s.0 s.1 c.enter-mid.ensures c.strike-end-in-clauses.ensures c.if-m-eq2.true)

pub bounds-rec-used : goal.bounds-rec-used
bounds-rec-used c =
    let s = short (goal.at.bounds-rec-used c).In-Shorter in
    omega (arith, pair_there c.clauses.invariant c.requires c.clauses-test.true s.0 s.1 c.enter-mid.ensures c.strike-end-in-clauses.ensures c.if-m-eq2.true)

pub offset_bounds-rec-used-then-m-eq2 : goal.offset_bounds-rec-used-then-m-eq2
offset_bounds-rec-used-then-m-eq2 c =
    let s = short (goal.at.offset_bounds-rec-used-then-m-eq2 c).In-Shorter in
    omega (arith, pair_there c.clauses.invariant c.requires c.clauses-test.true s.0 s.1 c.enter-mid.ensures c.strike-end-in-clauses.ensures c.if-m-eq2.true)

pub bounds-rec-used-then-m-eq2 : goal.bounds-rec-used-then-m-eq2
bounds-rec-used-then-m-eq2 c =
    let s = short (goal.at.bounds-rec-used-then-m-eq2 c).In-Shorter in
    omega (arith, pair_there c.clauses.invariant c.requires c.clauses-test.true s.0 s.1 c.enter-mid.ensures c.strike-end-in-clauses.ensures c.if-m-eq2.true)

pub add_binary_clause-requires : goal.add_binary_clause-requires
add_binary_clause-requires c =
    let s = short (goal.at.add_binary_clause-requires c).In-Shorter in
    record { a_in_bounds = pair_requires c.clauses.invariant c.requires c.clauses-test.true s.0 s.1 c.enter-mid.ensures c.strike-end-in-clauses.ensures c.if-m-eq2.true; by_index = pair_fits c.clauses.invariant c.requires c.clauses-test.true s.0 s.1 c.enter-mid.ensures c.strike-end-in-clauses.ensures c.if-m-eq2.true }

pub drop_clause-s-requires-then-m-eq2 : goal.drop_clause-s-requires-then-m-eq2
drop_clause-s-requires-then-m-eq2 c =
    let s = short (goal.at.drop_clause-s-requires-then-m-eq2 c).In-Shorter in
    (omega (arith, ends c.clauses.invariant c.requires c.clauses-test.true), one_there c.clauses.invariant c.requires c.clauses-test.true s.0, gone_sum c.clauses.invariant c.requires c.clauses-test.true s.0)

pub overflow_add-s : goal.overflow_add-s
overflow_add-s c =
    omega (arith, pairs_few c.clauses.invariant c.requires c.clauses-test.true, ap (λ (z : State). z.binary) c.drop_clause-s-then-m-eq2.ensures.0)

pub clauses-preserved-then-m-eq2 : goal.clauses-preserved-then-m-eq2
clauses-preserved-then-m-eq2 c =
    let s = short (goal.at.clauses-preserved-then-m-eq2 c).In-Shorter in
    turn_binary c.clauses.invariant c.requires c.clauses-test.true s.0 s.1 c.enter-mid.ensures c.strike-end-in-clauses.ensures c.if-m-eq2.true c.add_binary_clause.ensures c.add_binary_clause.auto.rows c.add_binary_clause.auto.counts c.drop_clause-s-then-m-eq2.ensures

pub write_front-requires : goal.write_front-requires
write_front-requires c =
    let s = short (goal.at.write_front-requires c).In-Shorter in
    (omega (arith, ends c.clauses.invariant c.requires c.clauses-test.true, m_small c.clauses.invariant c.requires c.clauses-test.true s.0 s.1), kept_room c.clauses.invariant c.requires c.clauses-test.true s.0 s.1 c.enter-mid.ensures c.strike-end-in-clauses.ensures, m_few c.clauses.invariant c.requires c.clauses-test.true s.0 s.1)

pub clauses-preserved : goal.clauses-preserved
clauses-preserved c =
    let s = short (goal.at.clauses-preserved c).In-Shorter in
    turn_front c.clauses.invariant c.requires c.clauses-test.true s.0 s.1 c.enter-mid.ensures c.strike-end-in-clauses.ensures c.if-m-eq2.false c.write_front.ensures

pub returns : goal.returns
returns c = turned_end c.clauses.invariant c.requires c.clauses-test.false c.clear.ensures
