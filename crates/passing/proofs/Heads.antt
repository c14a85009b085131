-- What setting one field of word 1 leaves of the others. Assumes nothing.
use mathlib.Core.Path.{◌≡◌}
use mathlib.Core.Bool.{Bool, true, false}
use Prim.Native.Nat.{ℕ, ◌<◌}
use native.Mathlib.Omega.{arith}
use Rattle.kinds.specs.Header.{tier_of, deleted_of, mark_of, glue_of, spare_of, with_tier, with_deleted, with_glue, with_active, new_head}

-- mark and spare bits stay
pub record Plain (x y : ℕ) : Type 0 where
  pub mark : mark_of y ≡ mark_of x
  pub spare : spare_of y ≡ spare_of x

-- tier, deleted bit and glue besides
pub record Alike (x y : ℕ) : Type 0 where
  pub plain : Plain x y
  pub tier : tier_of y ≡ tier_of x
  pub deleted : deleted_of y ≡ deleted_of x
  pub glue : glue_of y ≡ glue_of x

module _ (x : ℕ) where
  pub tier_put : (t : ℕ) → t < 4 → tier_of (with_tier t x) ≡ t
  tier_put t h = omega arith

  pub tier_plain : (t : ℕ) → t < 4 → Plain x (with_tier t x)
  tier_plain t h = record { mark = omega arith; spare = omega arith }

  pub tier_deleted : (t : ℕ) → t < 4 → deleted_of (with_tier t x) ≡ deleted_of x
  tier_deleted t h = omega arith

  pub tier_glue : (t : ℕ) → t < 4 → glue_of (with_tier t x) ≡ glue_of x
  tier_glue t h = omega arith

  pub deleted_put : deleted_of (with_deleted true x) ≡ 1
  deleted_put = omega arith

  pub deleted_tier : tier_of (with_deleted true x) ≡ tier_of x
  deleted_tier = omega arith

  pub active_alike : (b : Bool) → Alike x (with_active b x)
  active_alike true = record { plain = record { mark = omega arith; spare = omega arith }; tier = omega arith; deleted = omega arith; glue = omega arith }
  active_alike false = record { plain = record { mark = omega arith; spare = omega arith }; tier = omega arith; deleted = omega arith; glue = omega arith }

  pub glue_plain : (g : ℕ) → Plain x (with_glue g x)
  glue_plain g = record { mark = omega arith; spare = omega arith }

  pub glue_tier : (g : ℕ) → tier_of (with_glue g x) ≡ tier_of x
  glue_tier g = omega arith

  pub glue_deleted : (g : ℕ) → deleted_of (with_glue g x) ≡ deleted_of x
  glue_deleted g = omega arith

-- word 1 of a new clause
module _ (t g : ℕ) (h : t < 4) where
  pub new_tier : tier_of (new_head t g) ≡ t
  new_tier = omega arith

  pub new_deleted : deleted_of (new_head t g) ≡ 0
  new_deleted = omega arith

  pub new_mark : mark_of (new_head t g) ≡ 0
  new_mark = omega arith

  pub new_spare : spare_of (new_head t g) ≡ 0
  new_spare = omega arith

  pub new_glue_lem : g ≡ 0 → glue_of (new_head t g) ≡ 0
  new_glue_lem e = omega arith
