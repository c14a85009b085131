-- The four tier lists, one after the other. Assumes nothing.
use mathlib.Core.Path.{◌≡◌, refl}
use mathlib.Core.Bool.{Bool, true, false, ◌&&◌}
use Prim.Native.Nat.{◌^◌}
use native.Mathlib.Omega.{arith}
use Rattle.laws.specs.Fold.{all_below}
use Rattle.laws.specs.Lists.{at, list_at}
use Rattle.kinds.specs.Lent.{Lent}
use Rattle.calls.specs.Size.{sized, tier_sized, tiers_sized, tier_at_most, at_most}

pub four_sized : (k : Lent) → tiers_sized k ≡ sized (2 ^ 22) (at k.state.tiers 0) (list_at k.tiers 0) && (sized (2 ^ 22) (at k.state.tiers 1) (list_at k.tiers 1) && (sized (2 ^ 22) (at k.state.tiers 2) (list_at k.tiers 2) && sized (2 ^ 22) (at k.state.tiers 3) (list_at k.tiers 3)))
unfolding tiers_sized tier_sized all_below
four_sized k = grind arith

pub four_at_most : (k : Lent) → all_below (tier_at_most k) 4 ≡ at_most (2 ^ 22) (list_at k.tiers 0) && (at_most (2 ^ 22) (list_at k.tiers 1) && (at_most (2 ^ 22) (list_at k.tiers 2) && at_most (2 ^ 22) (list_at k.tiers 3)))
unfolding tier_at_most all_below
four_at_most k = grind arith
