-- The refusals 9 to 11 of `unit_simplify`, by the tests of the code. Assumes nothing.
use mathlib.Core.Path.{◌≡◌, refl, sym, ap, ap₂, ◌∙◌, subst}
use mathlib.Core.Bool.{Bool, true, false, cond, not, ◌&&◌, ◌||◌}
use mathlib.Core.List.{List, [], ◌∷◌}
use Prim.Native.Nat.{ℕ, zero, suc, ◌+◌, ◌-◌, ◌*◌, ◌/◌, ◌≤◌, ◌<◌}
use native.Mathlib.Omega.{arith}
use lib.ListN.{length, take}
use lib.Seq.{length-take-le, get_or-take}
use lib.Dec.{leb, ltb}
use borrow.Author.Tests.{lt-ltb, le-ltb, le-leb}
use Rattle.laws.specs.Fold.{all_below, any_below}
use Rattle.laws.specs.Lists.{at, list_at, lengths, take_each}
use Rattle.laws.proofs.Folds.{and_both, or_left, or_right, or_neither, any_same}
use Rattle.kinds.specs.Clauses.{len_at, lits_at, end_at, deleted_at, var_of}
use Rattle.kinds.specs.Lent.{Lent, room_of}
use Rattle.kinds.specs.Held.{Held}
use Rattle.kinds.specs.Layout.{rows_of, view, side, fit, fit_tier, fit_row}
use Rattle.kinds.proofs.RowLayout.{at_lengths, row_at}
use Rattle.kinds.proofs.TierLayout.{Within, within_of, lengths_each}
use Rattle.calls.specs.Call.{unit_simplify, parts, everything}
use Rattle.calls.specs.StorePasses.{live_at}
use Rattle.calls.specs.Refusing.{check, lowest, own, unready, lacking, long_lacking, pair_lacking, row_lacking, any_lacking}
use Rattle.calls.specs.Simplifying.{simplified}
use Rattle.calls.specs.Outcome.{judged, refused_for, has_room, step, own_number, or_else}
use Rattle.calls.proofs.Given.{gives, passes_on}
use Rattle.calls.proofs.Readings.{words_pass_lem, held_words, rows_pass_lem, rows_read}
use Rattle.calls.proofs.Judged.{sizes_judged, store_judged, words_sized_lem, clauses_sized, tier_sized_lem, counts_long, host_sized_lem}
use Rattle.lacking.specs.Lacks.{long_lacks, pair_lacks, row_lacks}
use Rattle.simplify_lines.specs.Walk.{walk_parts}
use Rattle.simplify_steps.proofs.Facts.{walk_of}
use Rattle.simplify_steps.proofs.Parts.{all_yes, done_walk, tiers_then}

module _ (k : Lent) (j : judged everything k ≡ 0) where
  entries : length (take k.state.clauses k.clauses) ≡ k.state.clauses
  entries = length-take-le k.state.clauses k.clauses (clauses_sized everything k (sizes_judged everything k j) refl).used

  entry : (i : ℕ) → i < k.state.clauses → at (take k.state.clauses k.clauses) i ≡ at k.clauses i
  entry i h = get_or-take k.state.clauses k.clauses i 0 h

  pub ends_at : (i : ℕ) → i < k.state.clauses → end_at k.words (at k.clauses i) ≤ length k.words
  unfolding view
  ends_at i h =
      let W = held_words (view k) (words_pass_lem everything (view k) (store_judged everything k j) refl) in
      subst (λ (o : ℕ). end_at k.words o ≤ length k.words) (entry i h) (omega (arith, W.ends i (omega (arith, entries)), (words_sized_lem everything k (sizes_judged everything k j) refl).used))

  pub vars_at : (i : ℕ) → i < k.state.clauses → deleted_at k.words (at k.clauses i) ≡ false → (p : ℕ) → p < len_at k.words (at k.clauses i) → var_of (at k.words (at k.clauses i + 3 + p)) < length k.host.values
  unfolding view
  vars_at i h =
      let W = held_words (view k) (words_pass_lem everything (view k) (store_judged everything k j) refl) in
      let v = (host_sized_lem everything k (sizes_judged everything k j) refl).values in
      subst (λ (o : ℕ). deleted_at k.words o ≡ false → (p : ℕ) → p < len_at k.words o → var_of (at k.words (o + 3 + p)) < length k.host.values) (entry i h) (λ d p l. omega (arith, (W.clause i (omega (arith, entries)) d).lits.below p l, v))

  pub rows_at : (c p : ℕ) → c < length k.counts → p < length (list_at (rows_of (room_of k.state.vars k.rows) k.counts k.rows) c) → var_of (at (list_at (rows_of (room_of k.state.vars k.rows) k.counts k.rows) c) p) < length k.host.values
  unfolding view
  rows_at c p h l =
      let n = counts_long everything k (sizes_judged everything k j) refl in
      let v = (host_sized_lem everything k (sizes_judged everything k j) refl).values in
      omega (arith, (rows_read (view k) (rows_pass_lem everything (view k) (store_judged everything k j) refl)).below c p (omega (arith, n)) l, v)

  -- ---- 9
  lowest_is : own_number unit_simplify k ≡ or_else (lowest (check 9 (unready (view k)) ∷ check 10 (any_lacking (view k)) ∷ [])) (cond (fit everything k (simplified (view k))) 0 11)
  unfolding own_number refused_for own has_room step parts
  lowest_is = refl

  nine : unready (view k) ≡ true → 9 ≡ own_number unit_simplify k
  nine e = sym (lowest_is ∙ ap (λ (n : ℕ). or_else n (cond (fit everything k (simplified (view k))) 0 11)) (gives 9 (unready (view k)) (check 10 (any_lacking (view k)) ∷ []) e))

  pub nine_level : 0 < k.host.level → 9 ≡ own_number unit_simplify k
  unfolding unready view side
  nine_level h = nine (or_left (ltb 0 k.host.level) _ (lt-ltb 0 k.host.level h))

  trail_many : length (take k.host.assigned k.host.trail) ≡ k.host.assigned
  trail_many = length-take-le k.host.assigned k.host.trail (host_sized_lem everything k (sizes_judged everything k j) refl).assigned

  pub nine_trail : 0 < k.host.assigned → 9 ≡ own_number unit_simplify k
  unfolding unready view side
  nine_trail h = nine (or_right (ltb 0 k.host.level) (ltb 0 (length (take k.host.assigned k.host.trail))) (lt-ltb 0 (length (take k.host.assigned k.host.trail)) (omega (arith, trail_many))))

  module _ (l : k.host.level ≤ 0) (t : k.host.assigned ≤ 0) where
    ready : unready (view k) ≡ false
    unfolding unready view side
    ready = or_neither (ltb 0 k.host.level) _ (le-ltb 0 k.host.level l) (le-ltb 0 (length (take k.host.assigned k.host.trail)) (omega (arith, trail_many)))

    past_nine : own_number unit_simplify k ≡ or_else (lowest (check 10 (any_lacking (view k)) ∷ [])) (cond (fit everything k (simplified (view k))) 0 11)
    past_nine = lowest_is ∙ ap (λ (n : ℕ). or_else n (cond (fit everything k (simplified (view k))) 0 11)) (passes_on 9 (unready (view k)) (check 10 (any_lacking (view k)) ∷ []) ready)

    -- ---- 10
    long_same : any_below (long_lacking (view k)) (length (view k).clauses) ≡ any_below (long_lacks k.host.values k.words k.clauses) k.state.clauses
    unfolding view side long_lacking long_lacks live_at
    long_same =
        ap (any_below (long_lacking (view k))) entries
        ∙ any_same (long_lacking (view k)) (long_lacks k.host.values k.words k.clauses) k.state.clauses
        (λ i h. ap (λ (o : ℕ). not (deleted_at k.words o) && lacking k.host.values (lits_at k.words o)) (entry i h))

    rows_same : any_below (row_lacking (view k)) (2 * (view k).vars) ≡ any_below (row_lacks k.host.values (rows_of (room_of k.state.vars k.rows) k.counts k.rows)) (length k.counts)
    unfolding view side row_lacking pair_lacking row_lacks pair_lacks
    rows_same = sym (ap (any_below (row_lacks k.host.values (rows_of (room_of k.state.vars k.rows) k.counts k.rows))) (counts_long everything k (sizes_judged everything k j) refl))

    ten : any_lacking (view k) ≡ true → 10 ≡ own_number unit_simplify k
    ten e = sym (past_nine ∙ ap (λ (n : ℕ). or_else n (cond (fit everything k (simplified (view k))) 0 11)) (gives 10 (any_lacking (view k)) [] e))

    pub ten_long : {b : Bool} → b ≡ any_below (long_lacks k.host.values k.words k.clauses) k.state.clauses → b ≡ true → 10 ≡ own_number unit_simplify k
    unfolding any_lacking
    ten_long e f = ten (or_left _ _ (long_same ∙ sym e ∙ f))

    pub ten_rows : {b : Bool} → b ≡ any_below (row_lacks k.host.values (rows_of (room_of k.state.vars k.rows) k.counts k.rows)) (length k.counts) → b ≡ true → 10 ≡ own_number unit_simplify k
    unfolding any_lacking
    ten_rows e f = ten (or_right (any_below (long_lacking (view k)) (length (view k).clauses)) _ (rows_same ∙ sym e ∙ f))

    module _ {b c : Bool} (e : b ≡ any_below (long_lacks k.host.values k.words k.clauses) k.state.clauses) (f : b ≡ false)
        (g : c ≡ any_below (row_lacks k.host.values (rows_of (room_of k.state.vars k.rows) k.counts k.rows)) (length k.counts)) (h : c ≡ false) where
      pub none_lacks : any_lacking (view k) ≡ false
      unfolding any_lacking
      none_lacks = or_neither _ _ (long_same ∙ sym e ∙ f) (rows_same ∙ sym g ∙ h)

      past_ten : own_number unit_simplify k ≡ cond (fit everything k (simplified (view k))) 0 11
      unfolding lowest
      past_ten = past_nine ∙ ap (λ (n : ℕ). or_else n (cond (fit everything k (simplified (view k))) 0 11)) (passes_on 10 (any_lacking (view k)) [] none_lacks)

      -- ---- 11
      module _ (four : length k.tiers ≡ 4) (lens : length k.state.tiers ≡ 4) where
        tiers_fit : all_below (fit_tier k (simplified (view k))) 4 ≡ true
        unfolding fit_tier
        tiers_fit =
            let inside : Within k.state.tiers k.tiers = within_of k.state.tiers k.tiers (lens ∙ sym four) (λ i q. (tier_sized_lem everything k (sizes_judged everything k j) refl i (omega (arith, four))).used) in
            all_yes (fit_tier k (simplified (view k))) 4 (λ i q. le-leb (length (list_at (simplified (view k)).tiers i)) (length (list_at k.tiers i))
            (omega (arith, ap (λ (x : List (List ℕ)). length (list_at x i)) (tiers_then k), at_lengths (take_each k.state.tiers k.tiers) i, ap (λ (x : List ℕ). at x i) (lengths_each k.state.tiers k.tiers inside), (tier_sized_lem everything k (sizes_judged everything k j) refl i q).used)))

        fit_same : fit walk_parts (walk_of k) (simplified (view (walk_of k))) ≡ fit everything k (simplified (view k))
        unfolding fit fit_row
        fit_same =
            ap (fit walk_parts (walk_of k)) (done_walk k)
            ∙ ap (λ (x : Bool). (leb (simplified (view k)).used (length k.words) && leb (length (simplified (view k)).clauses) (length k.clauses)) && (x && (all_below (fit_row k (simplified (view k))) (2 * k.state.vars) && leb (length (simplified (view k)).rec) (length k.rec)))) (sym tiers_fit)

        pub number_is : {r : Bool} → r ≡ fit walk_parts (walk_of k) (simplified (view (walk_of k))) → (x : Bool) → r ≡ x → cond x 0 11 ≡ own_number unit_simplify k
        number_is q x y = sym (past_ten ∙ ap (λ (z : Bool). cond z 0 11) (sym fit_same ∙ sym q ∙ y))
