use mathlib.Core.Path.{refl}
use Rattle.binary_clean.proofs.AllRows.{done_turn, code_in, count_in, lines_fit, entries_fit, kept_fits, done_end}
use native.Mathlib.Omega.{arith}
use Rattle.binary_clean.proofs.clean_rows.Goals as goal

pub clean_row-done-requires : goal.clean_row-done-requires
clean_row-done-requires c =
    let D = c.loop-c.invariant in
    let R = c.requires.rows_ready in
    let h = c.loop-c-test.true in
    record { n_in_bounds = (count_in D R h, code_in D R h, lines_fit D R h c.requires.rows_in_bounds); by_index = entries_fit D R h }

pub overflow_cast-counts : goal.overflow_cast-counts
overflow_cast-counts c = omega (arith, kept_fits c.loop-c.invariant c.requires.rows_ready c.loop-c-test.true c.clean_row-done.ensures.2)

pub overflow_add-entries : goal.overflow_add-entries
overflow_add-entries c = omega (arith, kept_fits c.loop-c.invariant c.requires.rows_ready c.loop-c-test.true c.clean_row-done.ensures.2)

pub loop-c-preserved : goal.loop-c-preserved
loop-c-preserved c = done_turn c.loop-c.invariant c.requires.rows_ready c.loop-c-test.true c.clean_row-done.ensures refl refl

pub returns : goal.returns
returns c = done_end c.loop-c.invariant c.loop-c-test.false
