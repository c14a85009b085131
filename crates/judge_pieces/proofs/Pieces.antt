-- Each set of lent parts is judged by these pieces, and a piece sees only what it speaks of. Assumes nothing.
use native.Mathlib.Omega.{arith}
use mathlib.Core.Path.{◌≡◌, refl, ap}
use mathlib.Core.Bool.{Bool, true, ◌&&◌}
use mathlib.Core.List.{List, []}
use Prim.Native.Nat.{ℕ}
use Rattle.laws.proofs.Folds.{all_same}
use Rattle.laws.proofs.Tests.{and_true}
use Rattle.kinds.specs.Lent.{Lent, Host, lent, lent_five, no_host}
use Rattle.kinds.specs.Layout.{view}
use Rattle.kinds.specs.declared.State.{State}
use Rattle.calls.specs.Call.{words_and_list, five_lists, five_lists_levels, five_lists_host, five_lists_record_host, words_record_host, everything, only_rows, only_record, only_levels}
use Rattle.calls.specs.Size.{vars_in_range, words_sized, tier_sized, tiers_sized, rows_sized, record_sized, levels_sized, sizes_ok}
use Rattle.calls.specs.StorePasses.{words_pass, tier_ok, tiers_ok, rows_pass, floats_pass, store_passes}
use Rattle.calls.specs.HostPasses.{levels_in_range, host_passes}
use Rattle.judge_pieces.specs.Sides.{list_sized, five_sized, list_passes, five_pass, side_sized, host_passing}

-- ---- 1

module _ (k : Lent) where
  pub sizes_list : sizes_ok words_and_list k ≡ list_sized k
  unfolding sizes_ok list_sized
  sizes_list = grind arith

  pub sizes_list_record_host : sizes_ok words_record_host k ≡ list_sized k && (record_sized k && side_sized k)
  unfolding sizes_ok list_sized side_sized
  sizes_list_record_host = grind arith

  pub sizes_five : sizes_ok five_lists k ≡ five_sized k
  unfolding sizes_ok five_sized list_sized
  sizes_five = grind arith

  pub sizes_five_levels : sizes_ok five_lists_levels k ≡ five_sized k && levels_sized k.state.vars k.host
  unfolding sizes_ok five_sized list_sized
  sizes_five_levels = grind arith

  pub sizes_five_host : sizes_ok five_lists_host k ≡ five_sized k && side_sized k
  unfolding sizes_ok five_sized list_sized side_sized
  sizes_five_host = grind arith

  pub sizes_five_record_host : sizes_ok five_lists_record_host k ≡ five_sized k && (record_sized k && side_sized k)
  unfolding sizes_ok five_sized list_sized side_sized
  sizes_five_record_host = grind arith

  pub sizes_everything : sizes_ok everything k ≡ five_sized k && (rows_sized k && (record_sized k && side_sized k))
  unfolding sizes_ok five_sized list_sized side_sized
  sizes_everything = grind arith

  pub sizes_rows : sizes_ok only_rows k ≡ vars_in_range k.state.vars && rows_sized k
  unfolding sizes_ok
  sizes_rows = grind arith

  pub sizes_record : sizes_ok only_record k ≡ vars_in_range k.state.vars && record_sized k
  unfolding sizes_ok
  sizes_record = grind arith

  pub sizes_levels : sizes_ok only_levels k ≡ vars_in_range k.state.vars && levels_sized k.state.vars k.host
  unfolding sizes_ok
  sizes_levels = grind arith

  -- ---- 2 and 3

  pub store_list : store_passes words_and_list (view k) ≡ list_passes (view k)
  unfolding store_passes list_passes
  store_list = refl

  pub store_list_record_host : store_passes words_record_host (view k) ≡ list_passes (view k)
  unfolding store_passes list_passes
  store_list_record_host = refl

  pub store_five : store_passes five_lists (view k) ≡ five_pass (view k)
  unfolding store_passes five_pass
  store_five = refl

  pub store_five_levels : store_passes five_lists_levels (view k) ≡ five_pass (view k)
  unfolding store_passes five_pass
  store_five_levels = refl

  pub store_five_host : store_passes five_lists_host (view k) ≡ five_pass (view k)
  unfolding store_passes five_pass
  store_five_host = refl

  pub store_five_record_host : store_passes five_lists_record_host (view k) ≡ five_pass (view k)
  unfolding store_passes five_pass
  store_five_record_host = refl

  -- the rows are judged last
  pub store_everything : store_passes everything (view k) ≡ five_pass (view k) && rows_pass (view k)
  unfolding store_passes five_pass
  store_everything = grind arith

  pub store_rows : store_passes only_rows (view k) ≡ rows_pass (view k) && floats_pass (view k)
  unfolding store_passes
  store_rows = refl

  pub store_record : store_passes only_record (view k) ≡ floats_pass (view k)
  unfolding store_passes
  store_record = refl

  pub store_levels : store_passes only_levels (view k) ≡ true
  unfolding store_passes
  store_levels = refl

  pub host_none : (host_passes words_and_list (view k) ≡ true) × (host_passes five_lists (view k) ≡ true) × (host_passes only_rows (view k) ≡ true) × (host_passes only_record (view k) ≡ true)
  unfolding host_passes
  host_none = (refl, refl, refl, refl)

  pub host_five_levels : host_passes five_lists_levels (view k) ≡ levels_in_range (view k).vars (view k).host
  unfolding host_passes
  host_five_levels = and_true _

  pub host_levels : host_passes only_levels (view k) ≡ levels_in_range (view k).vars (view k).host
  unfolding host_passes
  host_levels = and_true _

  pub host_whole : (host_passes five_lists_host (view k) ≡ host_passing (view k)) × (host_passes five_lists_record_host (view k) ≡ host_passing (view k)) × (host_passes words_record_host (view k) ≡ host_passing (view k)) × (host_passes everything (view k) ≡ host_passing (view k))
  unfolding host_passes host_passing
  host_whole = (refl, refl, refl, refl)

-- ---- a piece sees only its own parts

module _ (s : State) (words clauses irred core mid local rows counts rec : List ℕ) (host : Host) where
  abbrev all : Lent
  all = lent s words clauses irred core mid local rows counts rec host

  abbrev five : Lent
  five = lent_five s words clauses irred core mid local no_host

  pub list_sized_same : list_sized all ≡ list_sized (lent_five s words clauses [] [] [] [] no_host)
  unfolding list_sized words_sized
  list_sized_same = refl

  pub five_sized_same : five_sized all ≡ five_sized five
  unfolding five_sized list_sized words_sized tiers_sized tier_sized
  five_sized_same = ap (λ (b : Bool). list_sized five && b) (all_same (tier_sized all) (tier_sized five) 4 (λ t h. refl))

  pub list_passes_same : list_passes (view all) ≡ list_passes (view (lent_five s words clauses [] [] [] [] no_host))
  unfolding list_passes words_pass floats_pass view
  list_passes_same = refl

  pub five_passes_same : five_pass (view all) ≡ five_pass (view five)
  unfolding five_pass words_pass tiers_ok tier_ok floats_pass view
  five_passes_same = ap (λ (b : Bool). words_pass (view five) && (b && floats_pass (view five))) (all_same (tier_ok (view all)) (tier_ok (view five)) 4 (λ t h. refl))
