-- What the code finds, and the rule on it. Assumes nothing.
use mathlib.Core.Path.{◌≡◌, ap, ◌∙◌}
use mathlib.Core.Bool.{Bool, true}
use mathlib.Core.List.{List}
use Prim.Native.Nat.{ℕ}
use lib.ListN.{length}
use native.Mathlib.Omega.{arith}
use Rattle.laws.specs.Fold.{all_below}
use Rattle.laws.specs.Lists.{at}
use Rattle.kinds.specs.Held.{Side}
use Rattle.calls.specs.HostPasses.{at_most_at, kinds_in_range, values_in_range, trail_ok_at, removed_ok}
use Rattle.judge_host.specs.Sides.{SideSized, Once, seen_ok, stands}
use Rattle.judge_host.proofs.Trail.{removed_is}
use Rattle.judge_host.proofs.Literals.{standing_of}

pub stands_is : (s : Side) (j : ℕ) → trail_ok_at s j ≡ stands s (at s.trail j)
unfolding trail_ok_at
stands_is s j = grind (arith, standing_of)

-- ---- the whole side: what each test of `side_ok` answers

module _ (v : ℕ) (s : Side) {r : Bool} where
  pub values_are : length s.values ≡ v → r ≡ all_below (at_most_at 2 s.values) (length s.values) → r ≡ values_in_range v s
  unfolding values_in_range
  values_are h e = e ∙ ap (all_below (at_most_at 2 s.values)) h

  pub kinds_are : length s.kinds ≡ v → r ≡ all_below (at_most_at 4 s.kinds) (length s.kinds) → r ≡ kinds_in_range v s
  unfolding kinds_in_range
  kinds_are h e = e ∙ ap (all_below (at_most_at 4 s.kinds)) h

  pub removed_are : (seen : List Bool) {q : Bool} → SideSized v s.values s.kinds s.reasons s.levels → Once v s.trail q seen → q ≡ true → r ≡ all_below (seen_ok seen s.values s.kinds) v → r ≡ removed_ok v s
  removed_are seen h o t e = e ∙ removed_is v s seen h.most (o.marks t)
