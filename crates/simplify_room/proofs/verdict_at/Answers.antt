use Prim.Native.Nat.{◌<◌}
use lib.ListN.{length}
use Rattle.laws.proofs.Parts.{read_each}
use Rattle.kinds.specs.Clauses.{var_of}
use Rattle.kinds.proofs.Told.{value_left}
use Rattle.simplify_lines.proofs.Literals.{reading_drop, reading_keep, told_satisfied, told_same, told_shorter}
use Rattle.simplify_room.proofs.verdict_at.Goals.{in-Unassigned, in_default}
use Rattle.simplify_room.proofs.verdict_at.Goals as goal

pub lit_value-value-requires : goal.lit_value-value-requires
lit_value-value-requires c = read_each (λ x. var_of x < length c.args.values.now) _ _ _ c.requires.by_index c.lits-lits.ensures _ c.loop-lit-test.true

pub loop-lit-preserved : goal.loop-lit-preserved
loop-lit-preserved c = elim c.match-value.branch [
  | in-Unassigned w ↦ rw w.kept-is (reading_keep c.loop-lit.invariant c.loop-lit-test.true c.lit_value-value.ensures w.in-Unassigned.is)
  | in_default w ↦ rw w.kept-is (reading_drop c.loop-lit.invariant c.loop-lit-test.true c.lit_value-value.ensures (value_left _ c.in_default-value.not-True w.in_default.not-Unassigned))
]

pub returns-in-loop-lit : goal.returns-in-loop-lit
returns-in-loop-lit c = rw (← c.lits-lits.ensures) (told_satisfied c.loop-lit.invariant c.loop-lit-test.true c.lit_value-value.ensures c.in-True.is)

pub returns-then-kept-lits : goal.returns-then-kept-lits
returns-then-kept-lits c = rw (← c.lits-lits.ensures) (told_same c.loop-lit.invariant c.loop-lit-test.false c.if-kept-lits.true)

pub returns : goal.returns
returns c = rw (← c.lits-lits.ensures) (told_shorter c.loop-lit.invariant c.loop-lit-test.false c.if-kept-lits.false)
