-- What simplifying leaves as it was: the tier lists and the host's side. So the parts that it is about can be told alone. Assumes nothing.
use mathlib.Core.Path.{◌≡◌, refl, ap, ◌∙◌, subst}
use mathlib.Core.Bool.{Bool, true}
use mathlib.Core.List.{List, [], ◌∷◌}
use Prim.Native.Nat.{ℕ, zero, suc, ◌≤◌, ◌<◌}
use native.Mathlib.Omega.{arith}
use lib.ListN.{length}
use Rattle.laws.specs.Fold.{all_below}
use Rattle.laws.specs.Lists.{list_at, take_each}
use Rattle.laws.proofs.Folds.{and_both}
use Rattle.kinds.specs.Lent.{Lent}
use Rattle.kinds.specs.Held.{Held}
use Rattle.kinds.specs.Layout.{view, side}
use Rattle.calls.specs.Simplifying.{binaries_cleaned, simplified}
use Rattle.simplify_lines.specs.Walk.{longs_done, values_only}
use Rattle.simplify_lines.proofs.Done.{Grows, state_last, state_zero}
use Rattle.simplify_steps.proofs.Recast.{recast, simplified_recast, simplified_long}
use Rattle.simplify_steps.proofs.Facts.{walk_of}

-- a test that holds of every index
pub all_yes : (f : ℕ → Bool) (n : ℕ) → ((c : ℕ) → c < n → f c ≡ true) → all_below f n ≡ true
unfolding all_below
all_yes f zero h = refl
all_yes f (suc n) h = and_both (all_below f n) (f n) (all_yes f n (λ c l. h c (omega arith))) (h n (omega arith))

-- the walk from what is held only adds to record and rows
pub long_grows : (h : Held) → Grows h (longs_done h)
long_grows h =
    let g = state_last h 0 in
    let e = state_zero h in
    record {
      rec = subst (λ (s : Held). length s.rec ≤ length (longs_done h).rec) e g.rec;
      size = subst (λ (s : Held). length (longs_done h).rows ≡ length s.rows) e g.size;
      row = subst (λ (s : Held). (c : ℕ) → length (list_at s.rows c) ≤ length (list_at (longs_done h).rows c)) e g.row;
      host = subst (λ (s : Held). (longs_done h).host ≡ s.host) e g.host;
      vars = subst (λ (s : Held). (longs_done h).vars ≡ s.vars) e g.vars;
      used = subst (λ (s : Held). (longs_done h).used ≡ s.used) e g.used;
      tiers = subst (λ (s : Held). (longs_done h).tiers ≡ s.tiers) e g.tiers;
      activity = subst (λ (s : Held). (longs_done h).activity ≡ s.activity) e g.activity;
    }

module _ (k : Lent) where
  values_same : (side (values_only k.host.values)).values ≡ (view k).host.values
  unfolding view side
  values_same = refl

  abbrev empties : List (List ℕ)
  empties = take_each k.state.tiers ([] ∷ [] ∷ [] ∷ [] ∷ [])

  view_walk : view (walk_of k) ≡ recast (take_each k.state.tiers ([] ∷ [] ∷ [] ∷ [] ∷ [])) (side (values_only k.host.values)) (view k)
  unfolding view side
  view_walk = refl

  pub done_walk : simplified (view (walk_of k)) ≡ recast (take_each k.state.tiers ([] ∷ [] ∷ [] ∷ [] ∷ [])) (side (values_only k.host.values)) (simplified (view k))
  done_walk = ap simplified view_walk ∙ simplified_recast empties (side (values_only k.host.values)) (view k) values_same

  tiers_first : (binaries_cleaned (view k)).tiers ≡ take_each k.state.tiers k.tiers
  unfolding binaries_cleaned view
  tiers_first = refl

  host_first : (binaries_cleaned (view k)).host ≡ side k.host
  unfolding binaries_cleaned view
  host_first = refl

  pub tiers_then : (simplified (view k)).tiers ≡ take_each k.state.tiers k.tiers
  tiers_then = ap (λ (h : Held). h.tiers) (simplified_long (view k)) ∙ (long_grows (binaries_cleaned (view k))).tiers ∙ tiers_first

  pub host_then : (simplified (view k)).host ≡ side k.host
  host_then = ap (λ (h : Held). h.host) (simplified_long (view k)) ∙ (long_grows (binaries_cleaned (view k))).host ∙ host_first
