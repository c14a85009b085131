-- A state of which only the numbers count that a test of sizes is given.
use Rattle.kinds.specs.declared.State.{State}
use Rattle.kinds.specs.Floats.{unity}
use Rattle.kinds.specs.Lent.{blank}
use Rattle.kinds.specs.Setters.{activity_of}
use Rattle.std.specs.Prelude.{ℕ}

abbrev pub of_vars : ℕ → State
of_vars v = blank v (activity_of unity unity)
