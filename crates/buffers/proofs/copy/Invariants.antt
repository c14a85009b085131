use mathlib.Core.Path.{◌≡◌}
use Rattle.std.proofs.lemmas.List.Edits.{sets}
use Rattle.laws.specs.Lists.{read_n}
use Rattle.buffers.proofs.copy.Given as goal

abbrev pub invariant-loop-i : goal.invariant-loop-i
invariant-loop-i l = l.to ≡ sets l.initial.to l.place (read_n l.from l.start l.i)
