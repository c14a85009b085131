use lib.ListN.{take}
use Rattle.binary_clean.proofs.OneRow.{Swept}
use Rattle.binary_clean.proofs.clean_row.Given as goal

abbrev pub invariant-loop-i : goal.invariant-loop-i
invariant-loop-i l = Swept l.values l.code (take l.n l.initial.row) l.initial.row l.initial.rec l.initial.recorded l.i l.to l.recorded l.row l.rec
