-- What a line says, as the calls' definitions have it.
use Rattle.kinds.specs.Numbers.{tier_number}
use Rattle.calls.specs.Outcome.{Answer, nothing, reference, rebuild, proved, assessed}
use Rattle.walk_kinds.specs.declared.Said.{Said}
use Rattle.walk_kinds.specs.declared.Said.TheVariants.{Nothing, Ref, Rebuild, New, Assessed}

abbrev pub said_answer : Said → Answer
said_answer Nothing = nothing
said_answer (Ref o) = reference o
said_answer (Rebuild b) = rebuild b
said_answer (New b) = proved b
said_answer (Assessed t g) = assessed (tier_number t) g
