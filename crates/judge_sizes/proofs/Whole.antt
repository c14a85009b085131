-- The judging of the sizes and of the floats, for what is lent. Assumes nothing.
use mathlib.Core.Path.{◌≡◌, refl, ap, ◌∙◌}
use mathlib.Core.Bool.{Bool, ◌&&◌}
use mathlib.Core.List.{List, []}
use Prim.Native.Nat.{ℕ, ◌*◌, ◌^◌}
use lib.ListN.{length}
use lib.Dec.{eqb, leb}
use Rattle.laws.proofs.Folds.{all_same}
use Rattle.kinds.specs.declared.State.{State}
use Rattle.kinds.specs.Floats.{bump_ok, inverse_ok}
use Rattle.kinds.specs.Lent.{Lent, Host, lent, lent_five, lent_words, lent_rows, lent_record, no_host, levels_only}
use Rattle.kinds.specs.Setters.{with_used, with_listed, with_tier_lengths, with_recorded}
use Rattle.kinds.specs.Layout.{view}
use Rattle.calls.specs.Size.{words_sized, tier_sized, tiers_sized, row_sized, rows_sized, record_sized, levels_sized}
use Rattle.calls.specs.StorePasses.{floats_pass}
use Rattle.judge_sizes.specs.Blank.{of_vars}

-- k is what a call is lent
module _ (s : State) (words clauses irred core mid local rows counts rec : List ℕ) (host : Host) where
  abbrev whole : Lent
  whole = lent s words clauses irred core mid local rows counts rec host

  pub words_judged : {r : Bool} → r ≡ words_sized (lent_words (with_used s.words (with_listed s.clauses (of_vars 0))) words clauses [] no_host) → r ≡ words_sized whole
  unfolding words_sized
  words_judged p = p

  pub tiers_judged : {r : Bool} → r ≡ tiers_sized (lent_five (with_tier_lengths s.tiers (of_vars 0)) [] [] irred core mid local no_host) → r ≡ tiers_sized whole
  unfolding tiers_sized tier_sized
  tiers_judged p = p ∙ all_same (tier_sized (lent_five (with_tier_lengths s.tiers (of_vars 0)) [] [] irred core mid local no_host)) (tier_sized whole) 4 (λ t h. refl)

  pub rows_judged : {r : Bool} → r ≡ rows_sized (lent_rows (of_vars s.vars) rows counts) → r ≡ rows_sized whole
  unfolding rows_sized row_sized
  rows_judged p =
      p ∙ ap (λ (b : Bool). leb (length rows) (2 ^ 24) && (eqb (length counts) (2 * s.vars) && b))
      (all_same (row_sized (lent_rows (of_vars s.vars) rows counts)) (row_sized whole) (2 * s.vars) (λ c h. refl))

  pub record_judged : {r : Bool} → r ≡ record_sized (lent_record (with_recorded s.recorded (of_vars 0)) rec) → r ≡ record_sized whole
  unfolding record_sized
  record_judged p = p

-- the host's side
module _ (v : ℕ) (s : Host) where
  pub levels_judged : {r : Bool} → r ≡ levels_sized v (levels_only s.levels) → r ≡ levels_sized v s
  unfolding levels_sized
  levels_judged p = p

-- bump and inverse decay
pub floats_judged : (k : Lent) {r : Bool} → r ≡ bump_ok k.state.activity.bump && inverse_ok k.state.activity.inv_decay → r ≡ floats_pass (view k)
unfolding floats_pass view
floats_judged k p = p
