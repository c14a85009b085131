-- The store and the host's side that long reasons are judged by, with the used part of the trail.
use Rattle.std.specs.Prelude.{List, ℕ}
use Rattle.kinds.specs.Held.{Held}
use Rattle.judge_host.specs.Sides.{side_of}
use Rattle.judge_reasons.specs.declared.Judging.{Judging}
use Rattle.judge_reasons.specs.Reasons.{besides}

abbrev pub held : Judging → List ℕ → Held
held j trail = besides j.words.now j.clauses.now (side_of j.host.values.now j.host.kinds.now j.host.reasons.now j.host.levels.now trail 0)
