use Rattle.std.proofs.Common.{refl, arith}
use Rattle.laws.proofs.Parts.{sets_part}
use Rattle.record.proofs.strike_pair.Goals as goal

pub returns : goal.returns
returns c = (refl, sets_part _ _ _ _ _ c.copy_from_slice.ensures.after (omega arith) (omega arith))
