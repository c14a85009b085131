-- Cleaning, then the long clauses, on what is lent: the second half's ground, and what both come to. Assumes nothing.
use mathlib.Core.Path.{◌≡◌, refl, sym, ap, ap₂, ◌∙◌, subst}
use mathlib.Core.Bool.{true, false, true≢false}
use mathlib.Core.List.{List, [], ◌∷◌, ◌++◌}
use Prim.Native.Nat.{ℕ, ◌+◌, ◌*◌, ◌/◌, ◌≤◌, ◌<◌}
use native.Mathlib.Omega.{arith}
use native.Mathlib.Nat.{suc-mul}
use lib.ListN.{length, take, length-append}
use lib.Seq.{sets, length-sets, length-take-le}
use lib.Dec.{leb}
use borrow.Author.Tests.{le-leb}
use Rattle.laws.specs.Fold.{all_below}
use Rattle.laws.specs.Lists.{at, list_at, lengths, joined, fill, fill_each, take_each}
use Rattle.laws.proofs.Folds.{and_both}
use Rattle.laws.proofs.Fills.{fill_append, fill_same, fill_fill}
use Rattle.kinds.specs.Lines.{flat}
use Rattle.kinds.specs.Lent.{Lent, room_of}
use Rattle.kinds.specs.Setters.{state_of, with_recorded, with_binary_count}
use Rattle.kinds.specs.Held.{Held, Side}
use Rattle.kinds.specs.Layout.{rows_of, fill_rows, view, side, lay, lay_state, lay_host, fit, fit_row}
use Rattle.kinds.specs.declared.State.{State}
use Rattle.kinds.proofs.Layouts.{Sized, AllFit, Fitting, overlaid, view_lay, sized_of, all_fit_of, length_fill_rows}
use Rattle.kinds.proofs.RowLayout.{Growing, length_lengths, at_lengths, lengths_rows, length_rows, rows_again}
use Rattle.kinds.proofs.TierLayout.{Within, within_of, lengths_each, each_same}
use Rattle.calls.specs.Call.{unit_simplify, parts, everything}
use Rattle.calls.specs.Refusing.{own, any_lacking}
use Rattle.calls.specs.Simplifying.{rows_cleaned, rows_strikes, binaries_cleaned, simplified}
use Rattle.calls.specs.Outcome.{judged, refused_for, has_room, step, own_number}
use Rattle.calls.proofs.Laws.{not_refused, has_room_lem}
use Rattle.calls.proofs.Given.{first_not, others_not}
use Rattle.calls.proofs.Judged.{sizes_judged, vars_low, vars_high, words_sized_lem, clauses_sized, tier_sized_lem, rows_most, counts_long, record_sized_lem, host_sized_lem, words_fit, clauses_fit, row_fits, record_fits}
use Rattle.simplify_lines.specs.Walk.{Walkable, walk_parts, lent_walk, longs_done, values_only}
use Rattle.simplify_long.specs.Ready.{LongReady}
use Rattle.simplify_long.proofs.Laid.{growing_of}
use Rattle.simplify_room.proofs.Room.{cleaned_many, cleaned_rows}
use Rattle.simplify_steps.proofs.Recast.{recast, simplified_long}
use Rattle.simplify_steps.proofs.Parts.{all_yes, long_grows, done_walk, tiers_then, host_then}
use Rattle.simplify_steps.proofs.Facts.{walk_of, square, within, walk_ready}

-- all entries of rows that fit
joined_few : (m : ℕ) (rows : List (List ℕ)) → AllFit m rows → length (joined rows) ≤ length rows * m
unfolding joined
joined_few m [] f = omega arith
joined_few m (r ∷ rows) (h, f) = omega (arith, length-append r (joined rows), joined_few m rows f, suc-mul (length rows) m, h)

module _ (k : Lent) (j : judged everything k ≡ 0) (o : own_number unit_simplify k ≡ 0) where
  abbrev m : ℕ
  m = room_of k.state.vars k.rows

  abbrev a : List ℕ
  a = k.host.values

  abbrev rows₀ : List (List ℕ)
  rows₀ = rows_of (room_of k.state.vars k.rows) k.counts k.rows

  abbrev kept : List (List ℕ)
  kept = rows_cleaned k.host.values 0 (rows_of (room_of k.state.vars k.rows) k.counts k.rows)

  abbrev said : List ℕ
  said = flat (rows_strikes k.host.values 0 (rows_of (room_of k.state.vars k.rows) k.counts k.rows))

  abbrev H : Held
  H = binaries_cleaned (view (walk_of k))

  pub not_lacking : any_lacking (view k) ≡ false
  unfolding refused_for own
  not_lacking = first_not 10 _ _ (λ q. omega arith) (others_not 9 _ _ (λ q. omega arith) (not_refused unit_simplify k o))

  sized : Sized (room_of k.state.vars k.rows) k.counts k.rows
  sized = sized_of m k.counts k.rows (within k j) (square k j)

  kept_many : length kept ≡ length k.counts
  kept_many = cleaned_many a 0 rows₀ ∙ length_rows m k.counts k.rows

  kept_small : (c : ℕ) → c < length k.counts → length (list_at kept c) ≤ room_of k.state.vars k.rows
  kept_small c h = omega (arith, cleaned_rows a 0 rows₀ c, at_lengths rows₀ c, ap (λ (l : List ℕ). at l c) (lengths_rows m k.counts k.rows sized), within k j c h)

  kept_fit : AllFit (room_of k.state.vars k.rows) kept
  kept_fit = all_fit_of m kept (λ c h. kept_small c (omega (arith, kept_many)))

  listed : k.state.clauses ≤ length k.clauses
  listed = (clauses_sized everything k (sizes_judged everything k j) refl).used

  recorded : k.state.recorded ≤ length k.rec
  recorded = (record_sized_lem everything k (sizes_judged everything k j) refl).used

  -- ---- room
  room_then : fit everything k (simplified (view k)) ≡ true
  unfolding has_room step parts
  room_then = has_room_lem unit_simplify k o

  pub rec_room : length (simplified (view (walk_of k))).rec ≤ length k.rec
  rec_room = omega (arith, ap (λ (h : Held). length h.rec) (done_walk k), record_fits everything k (simplified (view k)) room_then refl)

  row_room : (c : ℕ) → c < length k.counts → length (list_at (simplified (view (walk_of k))).rows c) ≤ room_of k.state.vars k.rows
  row_room c h = omega (arith, ap (λ (x : Held). length (list_at x.rows c)) (done_walk k), row_fits everything k (simplified (view k)) room_then refl c (omega (arith, counts_long everything k (sizes_judged everything k j) refl)))

  rec_first : H.rec ≡ take k.state.recorded k.rec ++ said
  unfolding binaries_cleaned view side
  rec_first = refl

  rec_length : length H.rec ≡ k.state.recorded + length said
  rec_length = ap length rec_first ∙ length-append (take k.state.recorded k.rec) said ∙ ap (λ (n : ℕ). n + length said) (length-take-le k.state.recorded k.rec recorded)

  pub said_room : k.state.recorded + length (flat (rows_strikes k.host.values 0 (rows_of (room_of k.state.vars k.rows) k.counts k.rows))) ≤ length k.rec
  said_room = omega (arith, rec_length, (long_grows H).rec, ap (λ (h : Held). length h.rec) (simplified_long (view (walk_of k))), rec_room)

  rows_first : H.rows ≡ kept
  unfolding binaries_cleaned view side
  rows_first = refl

  row_grown : (c : ℕ) → length (list_at kept c) ≤ length (list_at (simplified (view (walk_of k))).rows c)
  row_grown c = omega (arith, (long_grows H).row c, ap (λ (h : Held). length (list_at h.rows c)) (simplified_long (view (walk_of k))), ap (λ (r : List (List ℕ)). length (list_at r c)) rows_first)

  -- ---- after the cleaning
  module _ {rows₁ counts₁ rec₁ : List ℕ} {entries recorded₁ : ℕ}
      (e : (rows₁ ≡ fill_rows (room_of k.state.vars k.rows) k.counts kept k.rows) × (counts₁ ≡ lengths kept) × (rec₁ ≡ sets k.rec k.state.recorded said)
      × (entries ≡ length (joined kept)) × (recorded₁ ≡ k.state.recorded + length said)) where
    abbrev st : State
    st = with_binary_count (entries / 2) (with_recorded recorded₁ k.state)

    abbrev k₁ : Lent
    k₁ = lent_walk (with_binary_count (entries / 2) (with_recorded recorded₁ k.state)) k.words k.clauses rows₁ counts₁ rec₁ k.host.values

    rec_is : rec₁ ≡ fill k.rec k.state.recorded H.rec
    rec_is = e.2 ∙ sym (fill_append k.rec k.state.recorded said said_room) ∙ ap (fill k.rec k.state.recorded) (sym rec_first)

    rows_size : length rows₁ ≡ length k.rows
    rows_size = ap length e.0 ∙ length_fill_rows m k.counts kept k.rows sized kept_fit

    fitting : Fitting walk_parts (walk_of k) H
    unfolding binaries_cleaned view side
    fitting = record { vars = refl; tiers = λ q. absurd (true≢false (sym q)); rows = λ q. (sized, kept_fit, kept_many) }

    first_laid : lent_walk (with_binary_count (entries / 2) (with_recorded recorded₁ k.state)) k.words k.clauses rows₁ counts₁ rec₁ k.host.values ≡ lay walk_parts (walk_of k) H
    unfolding lay lay_state lay_host binaries_cleaned view side
    first_laid =
        let n : recorded₁ ≡ length (take k.state.recorded k.rec ++ said) = e.4 ∙ sym rec_length in
        λ i. record {
          state = record { vars = k.state.vars; words = k.state.words; clauses = sym (length-take-le k.state.clauses k.clauses listed) i; tiers = k.state.tiers; recorded = n i; counts = k.state.counts; garbage = k.state.garbage; binary = ap (λ (x : ℕ). x / 2) e.3 i; activity = k.state.activity };
          words = k.words;
          clauses = sym (fill_same k.clauses k.state.clauses listed) i;
          tiers = [] ∷ [] ∷ [] ∷ [] ∷ [];
          rows = e.0 i;
          counts = e.1 i;
          rec = rec_is i;
          host = values_only k.host.values;
        }

    overlaid_is : overlaid walk_parts (view (walk_of k)) H ≡ H
    unfolding binaries_cleaned view side
    overlaid_is = refl

    view_first : view (lent_walk (with_binary_count (entries / 2) (with_recorded recorded₁ k.state)) k.words k.clauses rows₁ counts₁ rec₁ k.host.values) ≡ H
    view_first = ap view first_laid ∙ view_lay walk_parts (walk_of k) H fitting ∙ overlaid_is

    x_is : longs_done (view (lent_walk (with_binary_count (entries / 2) (with_recorded recorded₁ k.state)) k.words k.clauses rows₁ counts₁ rec₁ k.host.values)) ≡ simplified (view (walk_of k))
    x_is = ap longs_done view_first ∙ sym (simplified_long (view (walk_of k)))

    room₁ : room_of k.state.vars rows₁ ≡ room_of k.state.vars k.rows
    room₁ = ap (λ (n : ℕ). n / (2 * k.state.vars)) rows_size

    counts_size : length counts₁ ≡ length k.counts
    counts_size = ap length e.1 ∙ length_lengths kept ∙ kept_many

    fit_first : fit walk_parts (lent_walk (with_binary_count (entries / 2) (with_recorded recorded₁ k.state)) k.words k.clauses rows₁ counts₁ rec₁ k.host.values) (simplified (view (walk_of k))) ≡ true
    unfolding fit fit_row
    fit_first =
        let n = counts_long everything k (sizes_judged everything k j) refl in
        let u = words_fit everything k (simplified (view k)) room_then refl in
        let c = clauses_fit everything k (simplified (view k)) room_then refl in
        let x : leb (simplified (view (walk_of k))).used (length k.words) ≡ true = le-leb (simplified (view (walk_of k))).used (length k.words) (omega (arith, ap (λ (h : Held). h.used) (done_walk k), u)) in
        let y : leb (length (simplified (view (walk_of k))).clauses) (length k.clauses) ≡ true = le-leb (length (simplified (view (walk_of k))).clauses) (length k.clauses) (omega (arith, ap (λ (h : Held). length h.clauses) (done_walk k), c)) in
        let r : all_below (fit_row k₁ (simplified (view (walk_of k)))) (2 * k.state.vars) ≡ true =
        all_yes (fit_row k₁ (simplified (view (walk_of k)))) (2 * k.state.vars) (λ i h. le-leb (length (list_at (simplified (view (walk_of k))).rows i)) (room_of k.state.vars rows₁) (omega (arith, row_room i (omega (arith, n)), room₁))) in
        let l : leb (length (simplified (view (walk_of k))).rec) (length rec₁) ≡ true = le-leb (length (simplified (view (walk_of k))).rec) (length rec₁) (omega (arith, rec_room, ap length e.2, length-sets k.rec k.state.recorded said)) in
        and_both _ _ (and_both _ _ x y) (and_both _ _ r l)

    pub long_ready : LongReady (lent_walk (with_binary_count (entries / 2) (with_recorded recorded₁ k.state)) k.words k.clauses rows₁ counts₁ rec₁ k.host.values)
    long_ready =
        let s = sizes_judged everything k j in
        let n = counts_long everything k s refl in
        record {
          walk = subst Walkable (sym view_first) (walk_ready k j not_lacking);
          vars_low = vars_low everything k s refl;
          vars_high = vars_high everything k s refl;
          listed = listed;
          list_most = (clauses_sized everything k s refl).most;
          words_most = (words_sized_lem everything k s refl).most;
          rec_most = omega (arith, ap length e.2, length-sets k.rec k.state.recorded said, (record_sized_lem everything k s refl).most);
          recorded = omega (arith, e.4, said_room, ap length e.2, length-sets k.rec k.state.recorded said);
          rows_most = omega (arith, rows_size, rows_most everything k s refl);
          counts_long = counts_size ∙ n;
          counted = λ c h. omega (arith, ap (λ (l : List ℕ). at l c) e.1, at_lengths kept c, kept_small c (omega (arith, counts_size)), room₁);
          binary = omega (arith, e.3, joined_few m kept kept_fit, ap (λ (x : ℕ). x * m) kept_many, square k j, rows_most everything k s refl);
          room = subst (λ (h : Held). fit walk_parts k₁ h ≡ true) (sym x_is) fit_first;
        }

    -- ---- the end
    module _ {r : State} {words' clauses' rows' counts' rec' : List ℕ}
        (f : lent_walk r words' clauses' rows' counts' rec' k.host.values
        ≡ lay walk_parts (lent_walk (with_binary_count (entries / 2) (with_recorded recorded₁ k.state)) k.words k.clauses rows₁ counts₁ rec₁ k.host.values)
        (longs_done (view (lent_walk (with_binary_count (entries / 2) (with_recorded recorded₁ k.state)) k.words k.clauses rows₁ counts₁ rec₁ k.host.values)))) where
      laid : lent_walk r words' clauses' rows' counts' rec' k.host.values ≡ lay walk_parts k₁ (recast (take_each k.state.tiers ([] ∷ [] ∷ [] ∷ [] ∷ [])) (side (values_only k.host.values)) (simplified (view k)))
      laid = f ∙ ap (lay walk_parts k₁) (x_is ∙ (done_walk k))

      rows_then : rows' ≡ fill_rows (room_of k.state.vars k.rows) k.counts (simplified (view k)).rows k.rows
      unfolding lay
      rows_then =
          let n = counts_long everything k (sizes_judged everything k j) refl in
          let long = long_grows H in
          let same : (simplified (view (walk_of k))).rows ≡ (simplified (view k)).rows = ap (λ (h : Held). h.rows) (done_walk k) in
          let size : length (simplified (view k)).rows ≡ length k.counts = ap length (sym same) ∙ ap (λ (h : Held). length h.rows) (simplified_long (view (walk_of k))) ∙ long.size ∙ ap length rows_first ∙ kept_many in
          let grows : Growing kept (simplified (view k)).rows = growing_of kept (simplified (view k)).rows (kept_many ∙ sym size) (λ c. subst (λ (x : List (List ℕ)). length (list_at kept c) ≤ length (list_at x c)) same (row_grown c)) in
          let fits : AllFit (room_of k.state.vars k.rows) (simplified (view k)).rows = all_fit_of m (simplified (view k)).rows (λ c h. row_fits everything k (simplified (view k)) room_then refl c (omega (arith, n, size))) in
          ap (λ (x : Lent). x.rows) laid
          ∙ ap (λ (x : ℕ). fill_rows x counts₁ (simplified (view k)).rows rows₁) room₁
          ∙ ap₂ (λ (x y : List ℕ). fill_rows m x (simplified (view k)).rows y) e.1 e.0
          ∙ rows_again m k.counts kept (simplified (view k)).rows k.rows sized fits kept_many size grows

      rec_then : rec' ≡ fill k.rec k.state.recorded (simplified (view k)).rec
      unfolding lay
      rec_then =
          let same : length (simplified (view (walk_of k))).rec ≡ length (simplified (view k)).rec = ap (λ (h : Held). length h.rec) (done_walk k) in
          let more : length H.rec ≤ length (simplified (view k)).rec = omega (arith, same, (long_grows H).rec, ap (λ (h : Held). length h.rec) (simplified_long (view (walk_of k)))) in
          ap (λ (x : Lent). x.rec) laid
          ∙ ap₂ (λ (x : List ℕ) (n : ℕ). fill x n (simplified (view k)).rec) rec_is (e.4 ∙ sym rec_length)
          ∙ fill_fill k.rec k.state.recorded H.rec (simplified (view k)).rec recorded more (omega (arith, same, rec_room))

      pub whole_laid : length k.tiers ≡ 4 → length k.state.tiers ≡ 4
          → ◌≡◌ {A = Lent} (record { state = r; words = words'; clauses = clauses'; tiers = k.tiers; rows = rows'; counts = counts'; rec = rec'; host = k.host }) (lay everything k (simplified (view k)))
      unfolding lay lay_state lay_host side
      whole_laid four lens =
          let inside : Within k.state.tiers k.tiers = within_of k.state.tiers k.tiers (lens ∙ sym four) (λ t h. (tier_sized_lem everything k (sizes_judged everything k j) refl t (omega (arith, four))).used) in
          let state : r ≡ state_of (simplified (view k)).vars (simplified (view k)).used (length (simplified (view k)).clauses) (lengths (simplified (view k)).tiers) (length (simplified (view k)).rec) (simplified (view k)).counts (simplified (view k)).garbage (simplified (view k)).binary (simplified (view k)).activity =
          ap (λ (x : Lent). x.state) laid
          ∙ ap (λ (t : List ℕ). state_of (simplified (view k)).vars (simplified (view k)).used (length (simplified (view k)).clauses) t (length (simplified (view k)).rec) (simplified (view k)).counts (simplified (view k)).garbage (simplified (view k)).binary (simplified (view k)).activity)
          (sym (ap lengths (tiers_then k) ∙ lengths_each k.state.tiers k.tiers inside)) in
          let hs = host_sized_lem everything k (sizes_judged everything k j) refl in
          let trail : k.host.trail ≡ fill k.host.trail k.host.assigned (simplified (view k)).host.trail = sym (ap (λ (x : Side). fill k.host.trail k.host.assigned x.trail) (host_then k) ∙ fill_same k.host.trail k.host.assigned hs.assigned) in
          let assigned : k.host.assigned ≡ length (simplified (view k)).host.trail = sym (ap (λ (x : Side). length x.trail) (host_then k) ∙ length-take-le k.host.assigned k.host.trail hs.assigned) in
          λ i. record {
            state = state i;
            words = ap (λ (x : Lent). x.words) laid i;
            clauses = ap (λ (x : Lent). x.clauses) laid i;
            tiers = sym (ap (fill_each k.tiers k.state.tiers) (tiers_then k) ∙ each_same k.state.tiers k.tiers inside) i;
            rows = rows_then i;
            counts = ap (λ (x : Lent). x.counts) laid i;
            rec = rec_then i;
            host = record { values = ap (λ (x : Side). x.values) (sym (host_then k)) i; kinds = ap (λ (x : Side). x.kinds) (sym (host_then k)) i; reasons = ap (λ (x : Side). x.reasons) (sym (host_then k)) i; levels = ap (λ (x : Side). x.levels) (sym (host_then k)) i; trail = trail i; assigned = assigned i; level = ap (λ (x : Side). x.level) (sym (host_then k)) i };
          }
