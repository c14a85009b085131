-- The refusals' number of a call that cleans is one of the table. Assumes nothing.
use mathlib.Core.Path.{◌≡◌, sym, subst}
use mathlib.Core.Bool.{Bool, true, false, cond}
use Prim.Native.Nat.{ℕ, zero, suc, ◌≤◌, ◌<◌}
use native.Mathlib.Omega.{arith}
use Rattle.kinds.specs.Lent.{Lent, Parts}
use Rattle.kinds.specs.Layout.{view}
use Rattle.calls.specs.Call.{Command, parts, bump, reduce_mids, reduce_locals, collect, prove_units, unit_simplify}
use Rattle.calls.specs.Refusing.{own, lowest, not_live, unready, any_lacking}
use Rattle.calls.specs.Outcome.{refused_for, has_room, or_else, own_number}

-- ---- the number is one of the table

or_most : (a b : ℕ) → a ≤ 12 → b ≤ 12 → or_else a b ≤ 12
or_most zero b h g = g
or_most (suc a) b h g = h

room_most : (b : Bool) → cond b 0 11 ≤ 12
room_most true = omega arith
room_most false = omega arith

two_most : (m n : ℕ) (a b : Bool) → m ≤ 12 → n ≤ 12 → cond a m (cond b n 0) ≤ 12
two_most m n true b h g = h
two_most m n false true h g = g
two_most m n false false h g = omega arith

-- the calls that are refused for room alone, and those with checks of their own
pub data Cleaning : Command → Type 0 where
  bumping : (o : ℕ) → Cleaning (bump o)
  mids : Cleaning reduce_mids
  locals : Cleaning reduce_locals
  collecting : Cleaning collect
  units : Cleaning prove_units
  simplifying : Cleaning unit_simplify

pub own_most : (c : Command) → Cleaning c → (k : Lent) → own_number c k ≤ 12
unfolding own_number refused_for own lowest
own_most _ (bumping o) k = or_most (cond (not_live (view k) o) 6 0) _ (two_most 6 6 (not_live (view k) o) false (omega arith) (omega arith)) (room_most (has_room (bump o) k))
own_most _ mids k = or_most 0 _ (omega arith) (room_most (has_room reduce_mids k))
own_most _ locals k = or_most 0 _ (omega arith) (room_most (has_room reduce_locals k))
own_most _ collecting k = or_most 0 _ (omega arith) (room_most (has_room collect k))
own_most _ units k = or_most 0 _ (omega arith) (room_most (has_room prove_units k))
own_most _ simplifying k = or_most (cond (unready (view k)) 9 (cond (any_lacking (view k)) 10 0)) _ (two_most 9 10 (unready (view k)) (any_lacking (view k)) (omega arith) (omega arith)) (room_most (has_room unit_simplify k))

module _ (c : Command) (clean : Cleaning c) (p : Parts) (lends : parts c ≡ p) (k : Lent) where
  -- the refusals gave n, not 0
  pub own_number_lem : (n : ℕ) → n ≡ own_number c k → (n ≡ 0 → ⊥) → (0 < n) × (n ≤ 12)
  own_number_lem n e h = let t : n ≤ 12 = subst (λ (x : ℕ). x ≤ 12) (sym e) (own_most c clean k) in (omega arith, omega arith)
