use Rattle.std.proofs.Common.{◌≡◌, true, refl, sym, ◌∙◌}
use lib.Ieee.{Float, nan, inf, fin, binary32, is_nan, to_bits}
use Rattle.activity.proofs.pattern.Goals as goal

of_nan : (x : Float) → is_nan x ≡ true → 0x7fc0_0000 ≡ to_bits binary32 x
unfolding is_nan to_bits
of_nan nan e = refl
of_nan (inf s) e = cc
of_nan (fin s m k) e = cc

pub returns-then-is_nan : goal.returns-then-is_nan
returns-then-is_nan c = of_nan c.args.x (sym c.is_nan.ensures.value ∙ c.if-is_nan.true)
