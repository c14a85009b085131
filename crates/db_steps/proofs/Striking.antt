-- Deleting a clause, on what is lent. Assumes nothing.
use mathlib.Core.Path.{◌≡◌, refl, sym, ap₂, ◌∙◌}
use mathlib.Core.Bool.{true}
use mathlib.Core.List.{List, [], ◌++◌}
use Prim.Native.Nat.{ℕ, ◌+◌, ◌^◌, ◌≤◌, ◌<◌}
use native.Mathlib.Omega.{arith}
use lib.ListN.{length, set, take, length-append}
use lib.Seq.{sets, length-take-le}
use Rattle.laws.specs.Lists.{at, less}
use Rattle.laws.proofs.Fills.{fill_same, fill_append}
use Rattle.laws.proofs.Reading.{length_read}
use Rattle.kinds.specs.Header.{with_deleted}
use Rattle.kinds.specs.Clauses.{head_at, len_at, tier_at, end_at, lits_at, original_at}
use Rattle.kinds.specs.Lines.{line, line_words, strike_kind}
use Rattle.kinds.specs.Lent.{Lent, Host, lent}
use Rattle.kinds.specs.Layout.{view, side, lay, lay_state, lay_host}
use Rattle.kinds.specs.Setters.{state_of}
use Rattle.kinds.specs.declared.State.{State}
use Rattle.kinds.proofs.TierLayout.{Within, lengths_each, each_same}
use Rattle.calls.specs.Call.{delete, parts, five_lists_record_host}
use Rattle.calls.specs.Adding.{removed, strike_noted, struck, deleted}
use Rattle.calls.specs.Refusing.{own}
use Rattle.calls.specs.Outcome.{judged, refused_for, has_room, step, own_number}
use Rattle.calls.proofs.Laws.{not_refused, has_room_lem}
use Rattle.calls.proofs.Readings.{words_pass_lem, held_words}
use Rattle.calls.proofs.Judged.{sizes_judged, store_judged, words_sized_lem, clauses_sized, record_sized_lem, host_sized_lem, record_fits}
use Rattle.calls.proofs.Given.{first_not, live_right}
use Rattle.calls.proofs.Live.{live_there}
use Rattle.calls.proofs.Unchanged.{tiers_within}

-- the line that is written, and its length
abbrev strike_line : List ℕ → ℕ → List ℕ
strike_line words o = line_words (line (strike_kind (original_at words o) 4) (lits_at words o))

line_length : (words : List ℕ) (o : ℕ) → length (strike_line words o) ≡ len_at words o + 2
line_length words o = let e = length_read words (o + 3) (len_at words o) in omega arith

pub record StrikeReady (s : State) (words clauses rec : List ℕ) (bufs : List (List ℕ)) (host : Host) (o : ℕ) : Type 0 where
  pub ends : end_at words o ≤ length words
  pub room : s.recorded + (len_at words o + 2) ≤ length rec
  pub counted : 0 < at s.counts (tier_at words o)
  pub garbage : s.garbage + (len_at words o + 3) ≤ 2 ^ 26
  pub listed : s.clauses ≤ length clauses
  pub tiers : Within s.tiers bufs
  pub trail : host.assigned ≤ length host.trail

module _ (s : State) (words clauses irred core mid local rec : List ℕ) (host : Host) (o : ℕ) (four : length s.tiers ≡ 4) where
  abbrev k : Lent
  k = lent s words clauses irred core mid local [] [] rec host

  pub strike_ready : judged five_lists_record_host k ≡ 0 → own_number (delete o) k ≡ 0 → StrikeReady s words clauses rec k.tiers host o
  unfolding view refused_for own has_room step parts struck removed strike_noted
  strike_ready j q =
      let z = sizes_judged five_lists_record_host k j in
      let n = not_refused (delete o) k q in
      let w = words_sized_lem five_lists_record_host k z refl in
      let l = clauses_sized five_lists_record_host k z refl in
      let rs = record_sized_lem five_lists_record_host k z refl in
      let live = live_right (view k) o (first_not 6 _ _ (λ e. omega arith) n) in
      let pass = words_pass_lem five_lists_record_host (view k) (store_judged five_lists_record_host k j) refl in
      let there = live_there (view k) o pass live in
      let p = held_words (view k) pass in
      let ends : end_at words o ≤ s.words = there.ends in
      let in_words : s.words ≤ length words = w.used in
      let most : length words ≤ 2 ^ 24 = w.most in
      let gb : s.garbage ≤ s.words = let g = p.garbage in omega arith in
      let f : length (take s.recorded rec ++ strike_line words o) ≤ length rec = record_fits five_lists_record_host k (deleted o (view k)) (has_room_lem (delete o) k q) refl in
      let la = length-append (take s.recorded rec) (strike_line words o) in
      let ln = line_length words o in
      let lt = length-take-le s.recorded rec rs.used in
      record {
        ends = omega arith;
        room = omega arith;
        counted = there.counted;
        garbage = omega arith;
        listed = l.used;
        tiers = tiers_within five_lists_record_host k z refl four refl;
        trail = (host_sized_lem five_lists_record_host k z refl).assigned;
      }

  module _ (r : StrikeReady s words clauses rec k.tiers host o) (tier len recorded₁ : ℕ) (words₁ rec₁ : List ℕ) (et : tier ≡ tier_at words o) (el : len ≡ len_at words o)
      (w : words₁ ≡ set words (o + 1) (with_deleted true (head_at words o)))
      (e : (recorded₁ ≡ s.recorded + (len_at words o + 2)) × (rec₁ ≡ sets rec s.recorded (strike_line words o))) where
    in_record : s.recorded ≤ length rec
    in_record = let h = r.room in omega arith

    recorded_length : s.recorded + (len_at words o + 2) ≡ length (take s.recorded rec ++ strike_line words o)
    recorded_length = sym (length-append (take s.recorded rec) (strike_line words o) ∙ ap₂ (λ (x y : ℕ). x + y) (length-take-le s.recorded rec in_record) (line_length words o))

    pub strike_laid : lent (state_of s.vars s.words s.clauses s.tiers recorded₁ (less tier s.counts) (s.garbage + (len + 3)) s.binary s.activity) words₁ clauses irred core mid local [] [] rec₁ host
        ≡ lay five_lists_record_host k (deleted o (view k))
    unfolding lay lay_state lay_host view side struck removed strike_noted
    strike_laid = λ i. record {
      state = record {
        vars = s.vars;
        words = s.words;
        clauses = sym (length-take-le s.clauses clauses r.listed) i;
        tiers = sym (lengths_each s.tiers k.tiers r.tiers) i;
        recorded = (e.0 ∙ recorded_length) i;
        counts = less (et i) s.counts;
        garbage = s.garbage + (el i + 3);
        binary = s.binary;
        activity = s.activity;
      };
      words = w i;
      clauses = sym (fill_same clauses s.clauses r.listed) i;
      tiers = sym (each_same s.tiers k.tiers r.tiers) i;
      rows = [];
      counts = [];
      rec = (e.1 ∙ sym (fill_append rec s.recorded (strike_line words o) (let n = line_length words o in let h = r.room in omega arith))) i;
      host = record {
        values = host.values;
        kinds = host.kinds;
        reasons = host.reasons;
        levels = host.levels;
        trail = sym (fill_same host.trail host.assigned r.trail) i;
        assigned = sym (length-take-le host.assigned host.trail r.trail) i;
        level = host.level;
      };
    }
