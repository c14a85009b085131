use native.Mathlib.Omega.{arith}
use Rattle.judge_words.proofs.Literals.{zeros_below}
use Rattle.judge_words.proofs.lits_pass.Goals as goal

pub lits_ok-requires : goal.lits_ok-requires
lits_ok-requires c = (omega arith, zeros_below 65536 1 (omega arith))
