-- Bumping keeps what passing says. Assumes nothing.
use mathlib.Core.Path.{◌≡◌, refl, sym, ◌∙◌, subst}
use mathlib.Core.Bool.{Bool, true, false, cond}
use mathlib.Core.List.{List}
use Prim.Native.Nat.{ℕ, ◌≤◌, ◌<◌}
use native.Mathlib.Decide.{ℕ_discrete}
use native.Mathlib.Omega.{arith}
use lib.ListN.{length, set}
use lib.Dec.{leb, ltb}
use lib.Ieee.{Float, binary32, mul, lt, to_bits}
use lib.Ieee.Fits.{mul-fits}
use borrow.Author.Tests.{ltb-true}
use Rattle.laws.specs.Lists.{at}
use Rattle.laws.proofs.Pushes.{at_other, at_same}
use Rattle.kinds.specs.Header.{with_glue, with_active}
use Rattle.kinds.specs.Clauses.{head_at, glue_at}
use Rattle.kinds.specs.Floats.{limit, factor, activity_ok}
use Rattle.kinds.specs.Held.{Held}
use Rattle.kinds.proofs.FloatRanges.{activity_bound, bound_activity, sum_range, sum_kept, bump_scaled}
use Rattle.calls.specs.Adding.{tier_set}
use Rattle.calls.specs.Bumping.{tier_for, rescaled, sum_for, activity_raised, activity_bumped, activated, glue_stored, glue_lowered, new_glue, bumped}
use Rattle.passing.proofs.Store.{Store, Live, chain_in}
use Rattle.passing.proofs.Good.{Whole, Quiet, Reasons}
use Rattle.passing.proofs.Heads.{active_alike, glue_plain, glue_tier, glue_deleted}
use Rattle.passing.proofs.Changes.{set_edit, quiet_frame, raised_store, raised_reasons, raised_live, head_store, head_quiet, head_reasons, still_live}
use Rattle.passing.proofs.Rescale.{Loud, raised_deleted, rescaled_store, rescaled_reasons, rescaled_live, rescaled_quiet, tuned_bump, retuned}
use Rattle.passing.proofs.OneClause.{alike_good, tier_set_whole}

-- ---- the activity: raised, and all rescaled if it is too high

module _ (h : Held) (p : List ℕ) (d : Whole h p) (o : ℕ) (a : Live h.words h.clauses o) where
  abbrev sum : Float
  sum = sum_for o h

  active : activity_ok (at h.words o) ≡ true
  active = bound_activity _ (d.quiet o a.0 a.1)

  abbrev w₁ : List ℕ
  w₁ = set h.words o (to_bits binary32 sum)

  S₁ : Store h.vars w₁ h.used h.clauses h.counts h.garbage h.tiers p
  S₁ = raised_store d.store o a.0 a.1 (to_bits binary32 sum)

  R₁ : Reasons w₁ h.clauses h.host
  R₁ = raised_reasons d.store o a.0 a.1 (to_bits binary32 sum) h.host d.reasons

  o_room : o < length h.words
  o_room = let e = (chain_in 0 h.used h.words h.clauses d.store.chain o a.0).1 in let z = d.store.room in omega arith

  loud₁ : Loud w₁ h.clauses
  loud₁ x m q = go (ℕ_discrete x o)
    where
      go : Dec (x ≡ o) → at w₁ x ≤ 0x7dff_ffff
      go (yes e) = subst (λ (z : ℕ). at w₁ z ≤ 0x7dff_ffff) (sym e) (rw (at_same h.words o (to_bits binary32 sum) o_room) (sum_range (at h.words o) h.activity.bump d.tuned.bump_fits active (tuned_bump d.tuned)))
      go (no e) =
          let z = d.quiet x m (sym (raised_deleted d.store o a.0 (to_bits binary32 sum) x m) ∙ q) in
          rw (at_other h.words o (to_bits binary32 sum) x e) (omega arith)

  quiet₁ : lt limit sum ≡ false → Quiet w₁ h.clauses
  quiet₁ e = quiet_frame d.store a.0 (set_edit h.words o o (to_bits binary32 sum) (omega arith) (omega arith))
      (λ q. rw (at_same h.words o (to_bits binary32 sum) o_room) (activity_bound _ (sum_kept (at h.words o) h.activity.bump d.tuned.bump_fits active (tuned_bump d.tuned) e))) d.quiet

  pub activity_good : Whole (activity_bumped o h) p × Live (activity_bumped o h).words (activity_bumped o h).clauses o
  unfolding activity_bumped rescaled
  activity_good = go (lt limit sum) refl
    where
      go : (b : Bool) → lt limit sum ≡ b → Whole (cond b (rescaled (activity_raised o h)) (activity_raised o h)) p × Live (cond b (rescaled (activity_raised o h)) (activity_raised o h)).words (cond b (rescaled (activity_raised o h)) (activity_raised o h)).clauses o
      go true e = (
        record {
          store = rescaled_store S₁ h.host R₁ loud₁;
          quiet = rescaled_quiet S₁ h.host R₁ loud₁;
          rows = d.rows;
          tuned = retuned d.tuned (mul binary32 h.activity.bump factor) (mul-fits binary32 h.activity.bump factor) (bump_scaled h.activity.bump d.tuned.bump_fits (tuned_bump d.tuned));
          sided = d.sided;
          reasons = rescaled_reasons S₁ h.host R₁ loud₁;
        },
        rescaled_live S₁ h.host R₁ loud₁ o (a.0, raised_live d.store o a.0 a.1 (to_bits binary32 sum)),
      )
      go false e = (record { store = S₁; quiet = quiet₁ e; rows = d.rows; tuned = d.tuned; sided = d.sided; reasons = R₁ }, (a.0, raised_live d.store o a.0 a.1 (to_bits binary32 sum)))

-- ---- a lower glue

tier_for_lem : (g : ℕ) → (tier_for g < 4) × (tier_for g ≡ 0 → ⊥)
unfolding tier_for
tier_for_lem g = go (leb g 2) (leb g 6)
  where
    go : (a b : Bool) → (cond a 1 (cond b 2 3) < 4) × (◌≡◌ {A = ℕ} (cond a 1 (cond b 2 3)) 0 → ⊥)
    go true b = (omega arith, (λ e. omega arith))
    go false true = (omega arith, (λ e. omega arith))
    go false false = (omega arith, (λ e. omega arith))

pub glue_good : (g o : ℕ) (h : Held) (p : List ℕ) → Whole h p → Live h.words h.clauses o → Whole (glue_lowered g o h) p
unfolding glue_lowered glue_stored
glue_good g o h p d a = go (ltb g (glue_at h.words o)) refl
  where
    stored : g < glue_at h.words o → Whole (glue_stored g o h) p × Live (glue_stored g o h).words (glue_stored g o h).clauses o
    stored k =
        let x = head_at h.words o in (
          record {
            store = head_store d.store o a.0 a.1 (with_glue g) (glue_plain x g) (glue_deleted x g) (glue_tier x g) (λ z. absurd (let q = (d.store.clause o a.0 a.1).glue z in omega arith));
            quiet = head_quiet d.store o a.0 a.1 (with_glue g) (glue_plain x g) (glue_deleted x g) d.quiet;
            rows = d.rows;
            tuned = d.tuned;
            sided = d.sided;
            reasons = head_reasons d.store o a.0 a.1 (with_glue g) (glue_plain x g) (glue_deleted x g) h.host d.reasons;
          },
          (a.0, still_live d.store o a.0 a.1 (with_glue g) (glue_plain x g) (glue_deleted x g)),
        )

    go : (b : Bool) → ltb g (glue_at h.words o) ≡ b → Whole (cond b (tier_set (tier_for g) o (glue_stored g o h)) h) p
    go true e =
        let r = stored (ltb-true g (glue_at h.words o) e) in
        tier_set_whole (glue_stored g o h) p r.0 o r.1 (tier_for g) (tier_for_lem g).0 (λ n z. absurd ((tier_for_lem g).1 z))
    go false e = d

activated_good : (o : ℕ) (h : Held) (p : List ℕ) → Whole h p → Live h.words h.clauses o → Whole (activated o h) p × Live (activated o h).words (activated o h).clauses o
unfolding activated
activated_good o h p d a =
    let e = active_alike (head_at h.words o) true in
    (alike_good h p d o a (with_active true) e, (a.0, still_live d.store o a.0 a.1 (with_active true) e.plain e.deleted))

pub bumped_good : (o : ℕ) (h : Held) (p : List ℕ) → Whole h p → Live h.words h.clauses o → Whole (bumped o h) p
unfolding bumped
bumped_good o h p d a =
    let r = activity_good h p d o a in
    let q = activated_good o (activity_bumped o h) p r.0 r.1 in
    glue_good (new_glue o h) o (activated o (activity_bumped o h)) p q.0 q.1
