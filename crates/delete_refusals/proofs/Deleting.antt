-- The refusals of deletion, on what is lent. Assumes nothing.
use mathlib.Core.Path.{◌≡◌, refl, sym, ap, ap₂, ◌∙◌, subst}
use mathlib.Core.Bool.{Bool, true, cond, not, ◌&&◌}
use mathlib.Core.List.{List, [], ◌++◌}
use Prim.Native.Nat.{ℕ, ◌+◌, ◌*◌, ◌≤◌, ◌<◌}
use native.Mathlib.Omega.{arith}
use lib.ListN.{length, take, length-append}
use lib.Seq.{length-take-le, get_or-take}
use lib.Dec.{leb}
use borrow.Author.Tests.{le-leb}
use Rattle.laws.specs.Fold.{all_below}
use Rattle.laws.specs.Lists.{at, list_at, take_each}
use Rattle.laws.proofs.Folds.{and_left, and_both, all_of}
use Rattle.laws.proofs.Reading.{length_read}
use Rattle.kinds.specs.Clauses.{len_at, first_at, end_at, lits_at, original_at, is_live, var_of}
use Rattle.kinds.specs.Lines.{line, line_words, strike_kind}
use Rattle.kinds.specs.Lent.{Lent, Host, lent}
use Rattle.kinds.specs.Held.{asserting}
use Rattle.kinds.specs.Layout.{view, side, fit, fit_tier}
use Rattle.kinds.specs.declared.State.{State}
use Rattle.kinds.proofs.RowLayout.{at_lengths}
use Rattle.kinds.proofs.TierLayout.{lengths_each}
use Rattle.calls.specs.Size.{sizes_ok}
use Rattle.calls.specs.Call.{delete, parts, five_lists_record_host}
use Rattle.calls.specs.StorePasses.{placed, words_pass}
use Rattle.calls.specs.Adding.{removed, strike_noted, struck, deleted}
use Rattle.calls.specs.Refusing.{own, lowest, not_live}
use Rattle.calls.specs.Outcome.{judged, refused_for, has_room, step, or_else, own_number}
use Rattle.calls.proofs.Readings.{words_pass_lem}
use Rattle.calls.proofs.Judged.{sizes_judged, store_judged, words_sized_lem, clauses_sized, tier_sized_lem, record_sized_lem, levels_long, host_sized_lem}
use Rattle.calls.proofs.Live.{live_there}
use Rattle.calls.proofs.Unchanged.{tiers_within}
use Rattle.judge_words.proofs.Whole.{placed_same}
use Rattle.asserting.specs.Reads.{asserting_in}
use Rattle.asserting.proofs.Cases.{asserting_held}

-- the number by the four tests: not live, an original, asserting, room
abbrev pub number_by : Bool → Bool → Bool → Bool → ℕ
number_by dead original asserts room = or_else (cond dead 6 (cond original 7 (cond asserts 8 0))) (cond room 0 11)

-- the line that strikes the clause
abbrev strike_line : List ℕ → ℕ → List ℕ
strike_line words o = line_words (line (strike_kind (original_at words o) 4) (lits_at words o))

module _ (s : State) (words clauses irred core mid local rec : List ℕ) (host : Host) (o : ℕ) where
  abbrev k : Lent
  k = lent s words clauses irred core mid local [] [] rec host

  by_tests : own_number (delete o) k ≡ number_by (not (is_live words (take s.clauses clauses) o)) (original_at words o) (asserting_in words host.values host.kinds host.reasons o) (has_room (delete o) k)
  unfolding own_number refused_for own lowest not_live view side
  by_tests = ap (λ (b : Bool). number_by (not (is_live words (take s.clauses clauses) o)) (original_at words o) b (has_room (delete o) k)) (sym (asserting_held (view k) o))

  -- what the tests gave, and so what is answered
  pub by_given : (live original asserts room : Bool) → is_live words (take s.clauses clauses) o ≡ live → original_at words o ≡ original → asserting_in words host.values host.kinds host.reasons o ≡ asserts
      → has_room (delete o) k ≡ room → number_by (not live) original asserts room ≡ own_number (delete o) k
  by_given live original asserts room a b c d = sym (by_tests ∙ (λ i. number_by (not (a i)) (b i) (c i) (d i)))

  module _ (four : length s.tiers ≡ 4) (j : judged five_lists_record_host k ≡ 0) where
    sized : sizes_ok five_lists_record_host k ≡ true
    sized = sizes_judged five_lists_record_host k j

    -- ---- what the search for the clause stands on

    pub words_used : s.words ≤ length words
    words_used = (words_sized_lem five_lists_record_host k sized refl).used

    pub clauses_used : s.clauses ≤ length clauses
    clauses_used = (clauses_sized five_lists_record_host k sized refl).used

    pub record_used : s.recorded ≤ length rec
    record_used = (record_sized_lem five_lists_record_host k sized refl).used

    passing : words_pass (view k) ≡ true
    passing = words_pass_lem five_lists_record_host (view k) (store_judged five_lists_record_host k j) refl

    pub clauses_placed : placed words s.words clauses s.clauses ≡ true
    unfolding view words_pass
    clauses_placed =
        sym (placed_same words (take s.clauses clauses) clauses s.clauses (λ i q. get_or-take s.clauses clauses i 0 q) s.words)
        ∙ subst (λ (m : ℕ). placed words s.words (take s.clauses clauses) m ≡ true) (length-take-le s.clauses clauses clauses_used) (and_left _ _ passing)

    -- ---- a live clause: what the test of asserting stands on

    pub record LiveReady : Type 0 where
      pub within : o + 3 < length words
      pub values : var_of (first_at words o) < length host.values
      pub kinds : var_of (first_at words o) < length host.kinds
      pub reasons : var_of (first_at words o) < length host.reasons
      pub levels : var_of (first_at words o) < length host.levels

    pub live_ready : is_live words (take s.clauses clauses) o ≡ true → LiveReady
    unfolding view
    live_ready live =
        let there = live_there (view k) o passing live in
        let ends : end_at words o ≤ s.words = there.ends in
        let three : 3 ≤ len_at words o = there.clause.three in
        let below : at words (o + 3 + 0) < 2 * s.vars = there.clause.lits.below 0 (omega arith) in
        let first : first_at words o < 2 * s.vars = subst (λ (x : ℕ). at words x < 2 * s.vars) (plain (o + 3)) below in
        let used = words_used in
        let side = host_sized_lem five_lists_record_host k sized refl in
        let v : length host.values ≡ s.vars = side.values in
        let c : length host.kinds ≡ s.vars = side.kinds in
        let r : length host.reasons ≡ s.vars = side.reasons in
        let l : length host.levels ≡ s.vars = levels_long five_lists_record_host k sized refl in
        record { within = omega arith; values = omega arith; kinds = omega arith; reasons = omega arith; levels = omega arith }
      where
        plain : (x : ℕ) → x + 0 ≡ x
        plain x = omega arith

    -- ---- 11: the line alone needs room

    line_length : length (strike_line words o) ≡ len_at words o + 2
    line_length = let e = length_read words (o + 3) (len_at words o) in omega arith

    list_length : (t : ℕ) → length (list_at (take_each s.tiers k.tiers) t) ≡ at s.tiers t
    list_length t = sym (at_lengths (take_each s.tiers k.tiers) t) ∙ ap (λ (l : List ℕ). at l t) (lengths_each s.tiers k.tiers (tiers_within five_lists_record_host k sized refl four refl))

    tiers_fit : all_below (fit_tier k (deleted o (view k))) 4 ≡ true
    unfolding fit_tier view struck removed strike_noted
    tiers_fit = all_of (fit_tier k (deleted o (view k))) 4
        (λ t q. let e = list_length t in let u = (tier_sized_lem five_lists_record_host k sized refl t q).used in le-leb (length (list_at (take_each s.tiers k.tiers) t)) (length (list_at k.tiers t)) (omega arith))

    lists_fit : leb s.words (length words) && leb (length (take s.clauses clauses)) (length clauses) ≡ true
    lists_fit = let l = length-take-le s.clauses clauses clauses_used in let u = clauses_used in and_both _ _ (le-leb s.words (length words) words_used) (le-leb _ (length clauses) (omega arith))

    recorded_length : length (take s.recorded rec ++ strike_line words o) ≡ s.recorded + (len_at words o + 2)
    recorded_length = length-append (take s.recorded rec) (strike_line words o) ∙ ap₂ (λ (x y : ℕ). x + y) (length-take-le s.recorded rec record_used) line_length

    pub room_by : has_room (delete o) k ≡ leb (s.recorded + (len_at words o + 2)) (length rec)
    unfolding has_room step parts fit view struck removed strike_noted
    room_by = ap₂ (λ (a b : Bool). a && (b && leb (length (take s.recorded rec ++ strike_line words o)) (length rec))) lists_fit tiers_fit ∙ ap (λ (n : ℕ). leb n (length rec)) recorded_length
