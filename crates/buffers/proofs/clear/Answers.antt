use Rattle.std.proofs.Common.{arith}
use Rattle.laws.proofs.Parts.{filled_part}
use Rattle.buffers.proofs.clear.Goals as goal

pub returns : goal.returns
returns c = filled_part _ _ _ _ 0 (omega arith) (omega arith) (c.fill.ensures.after (λ y e. e))
