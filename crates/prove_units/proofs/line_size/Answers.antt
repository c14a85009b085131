use mathlib.Core.Path.{sym, ap, ◌∙◌}
use Prim.Native.Nat.{ℕ, ◌+◌}
use Rattle.prove_units.proofs.Reasons.{long_size}
use Rattle.prove_units.proofs.line_size.Goals as goal

pub returns-in-Long : goal.returns-in-Long
returns-in-Long c = ap (λ (n : ℕ). n + 2) c.word.ensures.0 ∙ sym (long_size _ _ _ _ c.in-Long.is c.requires)
