-- The ways out of a judging: which tests hold, and the number that is given. Assumes nothing.
use mathlib.Core.Path.{◌≡◌, refl, sym, ap, ◌∙◌, subst}
use mathlib.Core.Bool.{Bool, true, false, ◌&&◌}
use mathlib.Core.List.{List, []}
use Prim.Native.Nat.{ℕ, ◌≤◌}
use lib.ListN.{length}
use Rattle.laws.specs.Fold.{all_below}
use Rattle.kinds.specs.Lent.{Lent, Host, Parts, lent, lent_five, lent_rows, lent_record, levels_only, no_host}
use Rattle.kinds.specs.Held.{with_binary}
use Rattle.kinds.specs.Setters.{with_recorded}
use Rattle.kinds.specs.Layout.{view, side}
use Rattle.kinds.specs.declared.State.{State}
use Rattle.calls.specs.Size.{vars_in_range, rows_sized, record_sized, levels_sized, host_sized, sizes_ok}
use Rattle.calls.specs.StorePasses.{words_pass, rows_pass, store_passes}
use Rattle.calls.specs.HostPasses.{at_most_at, levels_in_range, side_passes, long_reasons_ok, host_passes}
use Rattle.calls.specs.Outcome.{judged}
use Rattle.calls.proofs.Judged.{sizes_fail, store_fails, host_fails, all_judged}
use Rattle.laws.proofs.Folds.{and_left}
use Rattle.judge_sizes.specs.Blank.{of_vars}
use Rattle.judge_sizes.proofs.Whole.{rows_judged, record_judged, levels_judged as levels-sizes}
use Rattle.judge_rows.specs.Rows.{rows_in, RowsSized}
use Rattle.judge_rows.proofs.Whole.{rows_sized_lem, rows_judged as rows-answer}
use Rattle.judge_host.proofs.Whole.{levels_judged, levels_sized_lem}
use Rattle.judge_reasons.proofs.Live.{reasons_alone}
use Rattle.judge_pieces.specs.Sides.{list_sized, five_sized, list_passes, five_pass, side_sized, host_passing, Listed}
use Rattle.judge_pieces.proofs.Pieces.{list_sized_same, list_passes_same, five_sized_same, five_passes_same}

module _ (p : Parts) (k : Lent) where
  pub one : {A : Bool} → sizes_ok p k ≡ A → false ≡ A → 1 ≡ judged p k
  one a f = sizes_fail p k (a ∙ sym f)

  pub two : {A B : Bool} → sizes_ok p k ≡ A → true ≡ A → store_passes p (view k) ≡ B → false ≡ B → 2 ≡ judged p k
  two a t b f = store_fails p k (a ∙ sym t) (b ∙ sym f)

  pub three : {A B C : Bool} → sizes_ok p k ≡ A → true ≡ A → store_passes p (view k) ≡ B → true ≡ B → host_passes p (view k) ≡ C → false ≡ C → 3 ≡ judged p k
  three a t b u c f = host_fails p k (a ∙ sym t) (b ∙ sym u) (c ∙ sym f)

  pub none : {A B C : Bool} → sizes_ok p k ≡ A → true ≡ A → store_passes p (view k) ≡ B → true ≡ B → host_passes p (view k) ≡ C → true ≡ C → 0 ≡ judged p k
  none a t b u c v = all_judged p k (a ∙ sym t) (b ∙ sym u) (c ∙ sym v)

-- ---- what a piece answered, for all that is lent

module _ (s : State) (words clauses irred core mid local rows counts rec : List ℕ) (host : Host) where
  abbrev all : Lent
  all = lent s words clauses irred core mid local rows counts rec host

  abbrev five : Lent
  five = lent_five s words clauses irred core mid local no_host

  abbrev listed : Lent
  listed = lent_five s words clauses [] [] [] [] no_host

  abbrev beside : Lent
  beside = lent_five s words clauses [] [] [] [] host

  pub list_sizes : {r : Bool} → r ≡ list_sized listed → r ≡ list_sized all
  list_sizes e = e ∙ sym (list_sized_same s words clauses irred core mid local rows counts rec host)

  pub five_sizes : {r : Bool} → r ≡ five_sized five → r ≡ five_sized all
  five_sizes e = e ∙ sym (five_sized_same s words clauses irred core mid local rows counts rec host)

  pub list_store : {r : Bool} → r ≡ list_passes (view listed) → r ≡ list_passes (view all)
  list_store e = e ∙ sym (list_passes_same s words clauses irred core mid local rows counts rec host)

  pub five_store : {r : Bool} → r ≡ five_pass (view five) → r ≡ five_pass (view all)
  five_store e = e ∙ sym (five_passes_same s words clauses irred core mid local rows counts rec host)

  -- and back: what the next piece requires
  pub five_asked : five_sized all ≡ true → five_sized five ≡ true
  five_asked e = sym (five_sized_same s words clauses irred core mid local rows counts rec host) ∙ e

  pub list_asked : list_sized all ≡ true → list_sized listed ≡ true
  list_asked e = sym (list_sized_same s words clauses irred core mid local rows counts rec host) ∙ e

  reasons_same : long_reasons_ok (view all) ≡ long_reasons_ok (view beside)
  unfolding view side
  reasons_same = reasons_alone (view all) ∙ sym (reasons_alone (view beside))

  pub host_answer : {r : Bool} → r ≡ host_passing (view beside) → r ≡ host_passing (view all)
  unfolding host_passing view side
  host_answer e = e ∙ sym (ap (λ (b : Bool). levels_in_range s.vars (view beside).host && (side_passes s.vars (view beside).host && b)) reasons_same)

  host_listed : list_sized all ≡ true → side_sized all ≡ true → words_pass (view all) ≡ true → Listed beside
  unfolding side_sized words_pass view
  host_listed a b c = record { sized = beside_sized ∙ list_asked a; side = b; passes = c }
    where
      beside_sized : list_sized beside ≡ list_sized listed
      beside_sized = list_sized_same s words clauses [] [] [] [] [] [] [] host

  pub five_listed : five_sized all ≡ true → side_sized all ≡ true → five_pass (view all) ≡ true → Listed beside
  unfolding five_sized five_pass
  five_listed a b c = host_listed (and_left _ _ a) b (and_left _ _ c)

  pub list_listed : list_sized all ≡ true → side_sized all ≡ true → list_passes (view all) ≡ true → Listed beside
  unfolding list_passes
  list_listed a b c = host_listed a b (and_left _ _ c)

  -- ---- what the tests of sizes answered
  pub rows_size : {r : Bool} → r ≡ rows_sized (lent_rows (of_vars s.vars) rows counts) → r ≡ rows_sized all
  rows_size e = rows_judged s words clauses irred core mid local rows counts rec host e

  pub record_size : {r : Bool} → r ≡ record_sized (lent_record (with_recorded s.recorded (of_vars 0)) rec) → r ≡ record_sized all
  record_size e = record_judged s words clauses irred core mid local rows counts rec host e

  pub side_size : {r : Bool} → r ≡ levels_sized s.vars host && host_sized s.vars host → r ≡ side_sized all
  unfolding side_sized
  side_size e = e

  -- ---- the words after the marks were cleared
  pub moved_host : (ws : List ℕ) → ws ≡ words → {r : Bool} → r ≡ host_passing (view (lent_five s ws clauses [] [] [] [] host)) → r ≡ host_passing (view beside)
  moved_host ws e h = h ∙ ap (λ (w : List ℕ). host_passing (view (lent_five s w clauses [] [] [] [] host))) e

  pub moved_listed : (ws : List ℕ) → ws ≡ words → Listed beside → Listed (lent_five s ws clauses [] [] [] [] host)
  moved_listed ws e h = subst (λ (w : List ℕ). Listed (lent_five s w clauses [] [] [] [] host)) (sym e) h

pub levels_size : (v : ℕ) (host : Host) → {r : Bool} → r ≡ levels_sized v (levels_only host.levels) → r ≡ levels_sized v host
levels_size v host e = levels-sizes v host e

module _ (k : Lent) where
  pub rows_store : {r : Bool} → r ≡ rows_pass (with_binary k.state.binary (rows_in k.state.vars k.rows k.counts)) → r ≡ rows_pass (view k)
  rows_store e = rows-answer k e

  pub rows_asked : vars_in_range k.state.vars ≡ true → rows_sized k ≡ true → RowsSized k.state.vars k.rows k.counts
  rows_asked a b = rows_sized_lem k a b

  pub five_vars : five_sized k ≡ true → vars_in_range k.state.vars ≡ true
  unfolding five_sized list_sized
  five_vars e = and_left _ _ (and_left _ _ e)

  pub levels_answer : {r : Bool} → r ≡ all_below (at_most_at k.state.vars k.host.levels) k.state.vars → r ≡ levels_in_range (view k).vars (view k).host
  levels_answer e = levels_judged k e

  pub levels_asked : levels_sized k.state.vars k.host ≡ true → k.state.vars ≤ length k.host.levels
  levels_asked e = levels_sized_lem k e
