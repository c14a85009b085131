use mathlib.Core.Path.{refl}
use Rattle.binary_clean.proofs.AllRows.{entries_in, counted_few, tallying_turn, tallying_end}
use native.Mathlib.Omega.{arith}
use Rattle.binary_clean.proofs.count_rows.Goals as goal

pub count_row-counted-requires-clause-by_index : goal.count_row-counted-requires-clause-by_index
count_row-counted-requires-clause-by_index c = entries_in c.loop-c.invariant c.requires.rows_ready c.loop-c-test.true c.implied-row.ensures

pub overflow_cast-tally : goal.overflow_cast-tally
overflow_cast-tally c = omega (arith, counted_few c.loop-c.invariant c.requires.rows_ready c.loop-c-test.true c.implied-row.ensures c.count_row-counted.ensures)

pub overflow_add-words : goal.overflow_add-words
overflow_add-words c = omega (arith, counted_few c.loop-c.invariant c.requires.rows_ready c.loop-c-test.true c.implied-row.ensures c.count_row-counted.ensures)

pub loop-c-preserved : goal.loop-c-preserved
loop-c-preserved c = tallying_turn c.loop-c.invariant c.requires.rows_ready c.loop-c-test.true c.implied-row.ensures c.count_row-counted.ensures refl

pub returns : goal.returns
returns c = tallying_end c.loop-c.invariant c.loop-c-test.false
