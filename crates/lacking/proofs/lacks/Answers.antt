use Rattle.kinds.proofs.Told.{value_left}
use Rattle.lacking.proofs.Looking.{looking_drop, looking_open, looking_true, looking_end}
use Rattle.lacking.proofs.lacks.Goals.{in-Unassigned, in_default}
use Rattle.lacking.proofs.lacks.Goals as goal

pub loop-lit-preserved : goal.loop-lit-preserved
loop-lit-preserved c = elim c.match-value.branch [
  | in-Unassigned w ↦ rw w.free-is (looking_open c.loop-lit.invariant c.loop-lit-test.true c.lit_value-value.ensures w.in-Unassigned.is)
  | in_default w ↦ rw w.free-is (looking_drop c.loop-lit.invariant c.loop-lit-test.true c.lit_value-value.ensures (value_left _ c.in_default-value.not-True w.in_default.not-Unassigned))
]

pub returns-in-loop-lit : goal.returns-in-loop-lit
returns-in-loop-lit c = looking_true c.loop-lit.invariant c.loop-lit-test.true c.lit_value-value.ensures c.in-True.is

pub returns : goal.returns
returns c = looking_end c.loop-lit.invariant c.loop-lit-test.false
