-- The judging of the host's side, for what is lent. Assumes nothing.
use mathlib.Core.Path.{◌≡◌}
use mathlib.Core.Bool.{Bool, true}
use Prim.Native.Nat.{ℕ, ◌≤◌}
use native.Mathlib.Omega.{arith}
use lib.ListN.{length, take}
use lib.Dec.{eqb, leb}
use borrow.Author.Tests.{leb-true, eqb-true}
use Rattle.laws.specs.Fold.{all_below}
use Rattle.laws.proofs.Folds.{and_left, and_right}
use Rattle.kinds.specs.Lent.{Lent, Host}
use Rattle.kinds.specs.Held.{Side}
use Rattle.kinds.specs.Layout.{view, side}
use Rattle.calls.specs.Size.{vars_in_range, levels_sized, host_sized}
use Rattle.calls.specs.HostPasses.{at_most_at, levels_in_range, trail_in_range, values_in_range, kinds_in_range, side_passes}
use Rattle.judge_host.specs.Sides.{side_of, SideSized}

-- the host's side as `side_pass` sees it
abbrev pub host_side : Host → Side
host_side s = side_of s.values s.kinds s.reasons s.levels (take s.assigned s.trail) s.level

module _ (k : Lent) where
  -- what `levels_pass` requires, where refusal 1 does not hold
  pub levels_sized_lem : levels_sized k.state.vars k.host ≡ true → k.state.vars ≤ length k.host.levels
  unfolding levels_sized
  levels_sized_lem e = omega (arith, eqb-true (length k.host.levels) k.state.vars e)

  -- what `levels_pass` answers
  pub levels_judged : {r : Bool} → r ≡ all_below (at_most_at k.state.vars k.host.levels) k.state.vars → r ≡ levels_in_range (view k).vars (view k).host
  unfolding view side levels_in_range
  levels_judged p = p

  -- what `side_pass` requires, where refusal 1 does not hold
  module _ (v : vars_in_range k.state.vars ≡ true) (l : levels_sized k.state.vars k.host ≡ true) (e : host_sized k.state.vars k.host ≡ true) where
    pub side_sized_lem : SideSized k.state.vars k.host.values k.host.kinds k.host.reasons k.host.levels
    unfolding vars_in_range levels_sized host_sized
    side_sized_lem =
        let n = k.state.vars in
        let s = k.host in
        let b = and_right (eqb (length s.values) n) _ e in
        let d = and_right (eqb (length s.kinds) n) _ b in
        record {
          most = leb-true n 65536 (and_right (leb 1 n) _ v);
          values = eqb-true (length s.values) n (and_left _ _ e);
          kinds = eqb-true (length s.kinds) n (and_left _ _ b);
          reasons = eqb-true (length s.reasons) n (and_left _ _ d);
          levels = eqb-true (length s.levels) n l;
        }

    pub assigned_within : k.host.assigned ≤ length k.host.trail
    unfolding host_sized
    assigned_within =
        let n = k.state.vars in
        let s = k.host in
        let d = and_right (eqb (length s.kinds) n) _ (and_right (eqb (length s.values) n) _ e) in
        leb-true s.assigned (length s.trail) (and_right (leb n (length s.trail)) _ (and_right (eqb (length s.reasons) n) _ d))

  -- what `side_pass` answers
  pub side_judged : {r : Bool} → r ≡ side_passes k.state.vars (host_side k.host) → r ≡ side_passes (view k).vars (view k).host
  unfolding view side
  side_judged p = p

-- the trail codes of a side that passes
pub trail_judged : (v : ℕ) (s : Side) → side_passes v s ≡ true → trail_in_range v (side_of s.values s.kinds s.reasons s.levels s.trail 0) ≡ true
unfolding side_passes trail_in_range
trail_judged v s e = and_left _ _ (and_right (kinds_in_range v s) _ (and_right (values_in_range v s) _ e))
