use Rattle.walk_host.proofs.Bits.{not_nan}
use native.Mathlib.Omega.{arith}
use Rattle.walk_host.proofs.number_of.Goals as goal

pub float_from_bits-result : goal.float_from_bits-result
float_from_bits-result c = not_nan _ (omega arith)
