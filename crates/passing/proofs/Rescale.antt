-- Rescaling keeps the store's rules, and quiets what was at most twice the limit. Assumes nothing.
use mathlib.Core.Path.{◌≡◌, refl, ap, ◌∙◌, subst}
use mathlib.Core.Bool.{true, false}
use mathlib.Core.Logic.{⊎_elim}
use mathlib.Core.List.{List, [], ◌∷◌}
use Prim.Native.Nat.{ℕ, ◌+◌, ◌≤◌, ◌<◌}
use native.Mathlib.Decide.{ℕ_discrete}
use native.Mathlib.Omega.{arith}
use lib.ListN.{length, set}
use lib.Dec.{eqb, T}
use lib.Ieee.{Float, binary32, fits}
use borrow.Author.Tests.{lt-ltb}
use Rattle.laws.specs.Fold.{fold_list}
use Rattle.laws.specs.Lists.{at}
use Rattle.laws.proofs.Folds.{and_both}
use Rattle.laws.proofs.Members.{In}
use Rattle.laws.proofs.Entries.{elem_here, elem_later, elem_index, elem_place}
use Rattle.laws.proofs.Pushes.{at_other}
use Rattle.kinds.specs.Header.{deleted_of}
use Rattle.kinds.specs.Clauses.{activity_at, deleted_at, undeleted}
use Rattle.kinds.specs.Floats.{limit_bits, scaled, bump_ok, inverse_ok}
use Rattle.kinds.specs.Held.{Side}
use Rattle.kinds.proofs.FloatRanges.{Under, listed_ok, activity_bound, bump_bound}
use Rattle.calls.specs.Bumping.{scaled_at}
use Rattle.passing.proofs.Store.{Store, Live, chain_in, chain_apart}
use Rattle.passing.proofs.Good.{Quiet, Tuned, Reasons}
use Rattle.passing.proofs.Changes.{raised_store, raised_reasons}
use Rattle.passing.proofs.Dropping.{drop_store, drop_reasons, all_dropped, undeleted_live, live_undeleted}

-- ---- activities of clauses that are at most twice the limit

abbrev pub Loud : List ℕ → List ℕ → Type 0
Loud w l = (o : ℕ) → In o l → deleted_at w o ≡ false → at w o ≤ 0x7dff_ffff

-- setting the activity of one clause leaves every clause's word 1
module _ {v : ℕ} {w : List ℕ} {used : ℕ} {l cs : List ℕ} {g : ℕ} {ts : List (List ℕ)} {p : List ℕ} (S : Store v w used l cs g ts p) (o : ℕ) (m : In o l) (x : ℕ) where
  pub raised_deleted : (y : ℕ) → In y l → deleted_at (set w o x) y ≡ deleted_at w y
  raised_deleted y n = ap (λ (k : ℕ). eqb (deleted_of k) 1) (at_other w o x (y + 1) (λ e. go e (ℕ_discrete y o)))
    where
      go : y + 1 ≡ o → Dec (y ≡ o) → ⊥
      go e (yes q) = absurd (omega arith)
      go e (no q) = ⊎_elim (λ z. absurd (omega arith)) (λ z. absurd (omega arith)) (chain_apart 0 used w l S.chain y o n m q)

-- each of some live clauses is rescaled
scaled_fold : {v used : ℕ} {cs : List ℕ} {g : ℕ} {ts : List (List ℕ)} {p : List ℕ} (l : List ℕ) (s : Side) (os : List ℕ) (w : List ℕ) → Store v w used l cs g ts p → Reasons w l s → ((x : ℕ) → In x os → Live w l x)
    → Store v (fold_list scaled_at w os) used l cs g ts p × Reasons (fold_list scaled_at w os) l s × ((x : ℕ) → In x l → deleted_at (fold_list scaled_at w os) x ≡ deleted_at w x)
unfolding fold_list scaled_at
scaled_fold l s [] w S R h = (S, R, (λ x m. refl))
scaled_fold l s (o ∷ os) w S R h =
    let a = h o (elem_here o os) in
    let x = scaled (activity_at w o) in
    let d = raised_deleted S o a.0 x in
    let r = scaled_fold l s os (set w o x) (raised_store S o a.0 a.1 x) (raised_reasons S o a.0 a.1 x s R) (λ y m. let b = h y (elem_later y o os m) in (b.0, d y b.0 ∙ b.1)) in
    (r.0, r.1, (λ y m. r.2 y m ∙ d y m))

module _ {v : ℕ} {w : List ℕ} {used : ℕ} {l cs : List ℕ} {g : ℕ} {ts : List (List ℕ)} {p : List ℕ} (S : Store v w used l cs g ts p) (s : Side) (R : Reasons w l s) (loud : Loud w l) where
  abbrev left : List ℕ
  left = undeleted w l

  left_live : (x : ℕ) → In x left → Live w left x
  left_live x m = (m, (undeleted_live w l x m).1)

  rescaled_fold : Store v (fold_list scaled_at w left) used left cs g ts p × Reasons (fold_list scaled_at w left) left s × ((x : ℕ) → In x left → deleted_at (fold_list scaled_at w left) x ≡ deleted_at w x)
  rescaled_fold =
      scaled_fold left s left w
      (all_dropped w (λ (k : List ℕ). Store v w used k cs g ts p) (λ a o b e. drop_store w a o b e) l S)
      (all_dropped w (λ (k : List ℕ). Reasons w k s) (λ a o b e. drop_reasons w a o b e s) l R) left_live

  pub rescaled_store : Store v (fold_list scaled_at w left) used left cs g ts p
  rescaled_store = rescaled_fold.0

  pub rescaled_reasons : Reasons (fold_list scaled_at w left) left s
  rescaled_reasons = rescaled_fold.1

  pub rescaled_live : (x : ℕ) → Live w l x → Live (fold_list scaled_at w left) left x
  rescaled_live x a = let m = live_undeleted w l x a in (m, rescaled_fold.2 x m ∙ a.1)

  pub rescaled_quiet : Quiet (fold_list scaled_at w left) left
  unfolding scaled_at
  rescaled_quiet x m d =
      let r = elem_place x left m in
      subst (λ (z : ℕ). at (fold_list scaled_at w left) z ≤ limit_bits) r.2 (activity_bound _ (listed_ok left w under r.0 r.1))
    where
      under : (k : ℕ) → k < length left → Under 0x7dff_ffff w (at left k)
      under k h =
          let a = undeleted_live w l (at left k) (elem_index left k h) in
          let e = (chain_in 0 used w l S.chain (at left k) a.0).1 in
          let z = S.room in
          (omega arith, loud (at left k) a.0 a.1)

-- ---- bump and inverse decay

pub tuned_bump : {b i : Float} → Tuned b i → bump_ok b ≡ true
unfolding bump_ok
tuned_bump t = lt-ltb _ _ t.bump

pub tuned_inverse : {b i : Float} → Tuned b i → inverse_ok i ≡ true
unfolding inverse_ok
tuned_inverse t = and_both _ _ (lt-ltb _ _ t.above) (lt-ltb _ _ t.below)

-- bump becomes c
pub retuned : {b i : Float} → Tuned b i → (c : Float) → T (fits binary32 c) → bump_ok c ≡ true → Tuned c i
retuned t c f e = record { bump = bump_bound c e; above = t.above; below = t.below; bump_fits = f; inverse_fits = t.inverse_fits }
