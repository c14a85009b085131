use Rattle.binary_clean.proofs.AllRows.{Tallying}
use Rattle.binary_clean.proofs.count_rows.Given as goal

abbrev pub invariant-loop-c : goal.invariant-loop-c
invariant-loop-c l = Tallying l.values l.room l.counts l.rows l.initial.tally l.c l.words l.tally
