use Rattle.binary_clean.proofs.AllRows.{Done}
use Rattle.binary_clean.proofs.clean_rows.Given as goal

abbrev pub invariant-loop-c : goal.invariant-loop-c
invariant-loop-c l = Done l.values l.room l.initial.counts l.initial.rows l.initial.rec l.initial.recorded l.c l.entries l.recorded l.rows l.counts l.rec
