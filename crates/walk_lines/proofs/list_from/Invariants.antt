use lib.ListN.{take, drop}
use Rattle.walk_lines.specs.Lines.{listed}
use Rattle.walk_lines.specs.Told.{prefixed}
use Rattle.walk_lines.proofs.Lists.{Listing}
use Rattle.walk_lines.proofs.list_from.Given as goal

abbrev pub invariant-loop-b : goal.invariant-loop-b
invariant-loop-b l = Listing l.b-items l.values l.b-index l.k l.v l.n l.m (prefixed (take l.n l.initial.values) (listed (drop l.from l.line)))
