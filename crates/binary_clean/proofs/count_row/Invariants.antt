use Rattle.binary_clean.proofs.OneRow.{Read}
use Rattle.binary_clean.proofs.count_row.Given as goal

abbrev pub invariant-loop-b : goal.invariant-loop-b
invariant-loop-b l = Read l.values l.code l.row l.b-index l.entries l.words
