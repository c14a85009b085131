-- Tiers, glue and the active flag: changes of word 1 that keep the deleted bit and the class. Assumes nothing.
use mathlib.Core.Path.{◌≡◌, refl, sym, ap, ◌∙◌}
use mathlib.Core.Bool.{Bool, true, false, cond}
use mathlib.Core.List.{List}
use Prim.Native.Nat.{ℕ, ◌<◌}
use native.Mathlib.Omega.{arith}
use lib.Dec.{eqb, leb}
use Rattle.laws.specs.Lists.{elem}
use Rattle.kinds.specs.Header.{tier_of, deleted_of, glue_of, with_tier, with_active, with_glue}
use Rattle.kinds.specs.Clauses.{head_at, tier_at, original_at, change_head, active_at}
use Rattle.kinds.specs.Held.{Held}
use Rattle.calls.specs.Adding.{moved_to, tier_set}
use Rattle.calls.specs.Bumping.{tier_for, activated, glue_stored}
use Rattle.calls.specs.Reducing.{mid_kept, mid_done}
use Rattle.account.specs.Weights.{Chained}
use Rattle.account.proofs.Heads.{Alike, head_alike, Unmoved, unmoved_refl}

-- ---- the fields that stay

tier_keeps_bit : (t x : ℕ) → t < 4 → deleted_of (with_tier t x) ≡ deleted_of x
tier_keeps_bit t x h = omega arith

tier_stored : (t x : ℕ) → t < 4 → tier_of (with_tier t x) ≡ t
tier_stored t x h = omega arith

active_keeps_bit : (b : Bool) (x : ℕ) → deleted_of (with_active b x) ≡ deleted_of x
active_keeps_bit b x = omega arith

active_keeps_tier : (b : Bool) (x : ℕ) → tier_of (with_active b x) ≡ tier_of x
active_keeps_tier b x = omega arith

pub active_keeps_glue : (b : Bool) (x : ℕ) → glue_of (with_active b x) ≡ glue_of x
active_keeps_glue true x = omega arith
active_keeps_glue false x = omega arith

glue_keeps_bit : (g x : ℕ) → deleted_of (with_glue g x) ≡ deleted_of x
glue_keeps_bit g x = omega arith

glue_keeps_tier : (g x : ℕ) → tier_of (with_glue g x) ≡ tier_of x
glue_keeps_tier g x = omega arith

-- the tier chosen by glue is never Irred
pub tier_for_range : (g : ℕ) → (0 < tier_for g) × (tier_for g < 4)
unfolding tier_for
tier_for_range g = go (leb g 2) (leb g 6)
  where
    go : (a b : Bool) → (0 < cond a 1 (cond b 2 3)) × (cond a 1 (cond b 2 3) < 4)
    go true b = (omega arith, omega arith)
    go false true = (omega arith, omega arith)
    go false false = (omega arith, omega arith)

-- ---- the steps

module _ (s : Held) (c : Chained s) (o : ℕ) (listed : elem o s.clauses ≡ true) where
  abbrev ws : List ℕ
  ws = s.words

  changed_alike : (f : ℕ → ℕ) → deleted_of (f (head_at ws o)) ≡ deleted_of (head_at ws o) → eqb (tier_of (f (head_at ws o))) 0 ≡ original_at ws o → Alike s.clauses ws (change_head f o ws)
  changed_alike f e k = head_alike s.used s.clauses ws c.chain c.room o listed f (ap (λ (x : ℕ). eqb x 1) e) k

  active_alike : (b : Bool) → Alike s.clauses ws (change_head (with_active b) o ws)
  active_alike b = changed_alike (with_active b) (active_keeps_bit b (head_at ws o)) (ap (λ (x : ℕ). eqb x 0) (active_keeps_tier b (head_at ws o)))

  pub activated_unmoved : Unmoved s (activated o s)
  unfolding activated
  activated_unmoved = record { used = refl; clauses = refl; rows = refl; rec = refl; alike = active_alike true }

  pub glue_unmoved : (g : ℕ) → Unmoved s (glue_stored g o s)
  unfolding glue_stored
  glue_unmoved g = record {
    used = refl;
    clauses = refl;
    rows = refl;
    rec = refl;
    alike = changed_alike (with_glue g) (glue_keeps_bit g (head_at ws o)) (ap (λ (x : ℕ). eqb x 0) (glue_keeps_tier g (head_at ws o)));
  }

  pub tier_unmoved : (t : ℕ) → t < 4 → (eqb (tier_at ws o) t ≡ false → eqb t 0 ≡ original_at ws o) → Unmoved s (tier_set t o s)
  unfolding tier_set moved_to
  tier_unmoved t h k = go (eqb (tier_at ws o) t) refl
    where
      go : (b : Bool) → eqb (tier_at ws o) t ≡ b → Unmoved s (cond b s (moved_to t o s))
      go true e = unmoved_refl s
      go false e = record {
        used = refl;
        clauses = refl;
        rows = refl;
        rec = refl;
        alike = changed_alike (with_tier t) (tier_keeps_bit t (head_at ws o) h) (ap (λ (x : ℕ). eqb x 0) (tier_stored t (head_at ws o) h) ∙ k e);
      }

  -- a Mid clause goes to Local, or stays with its flag cleared
  pub mid_unmoved : original_at ws o ≡ false → Unmoved s (mid_done s o)
  unfolding mid_done mid_kept
  mid_unmoved n = go (active_at ws o)
    where
      go : (b : Bool) → Unmoved s (cond b (mid_kept o s) (tier_set 3 o s))
      go true = record { used = refl; clauses = refl; rows = refl; rec = refl; alike = active_alike false }
      go false = tier_unmoved 3 (omega arith) (λ e. sym n)
