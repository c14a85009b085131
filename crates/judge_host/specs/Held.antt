-- The host's side that the code was given, with the used part of the trail.
use Rattle.std.specs.Prelude.{List, ℕ}
use Rattle.kinds.specs.Held.{Side}
use Rattle.judge_host.specs.declared.SizedSide.{SizedSide}
use Rattle.judge_host.specs.Sides.{side_of}

abbrev pub held : SizedSide → List ℕ → Side
held s trail = side_of s.host.values.now s.host.kinds.now s.host.reasons.now s.host.levels.now trail s.host.level
