-- Adding a long clause, on what is lent: what the code may take for granted, and what its writes come to. Assumes nothing.
use mathlib.Core.Path.{◌≡◌, refl, sym, ap, ◌∙◌}
use mathlib.Core.List.{List, [], ◌∷◌}
use Prim.Native.Nat.{ℕ, ◌+◌, ◌^◌, ◌≤◌, ◌<◌}
use native.Mathlib.Omega.{arith}
use lib.ListN.{length, set, take, length-append}
use lib.Seq.{sets, length-take-le, get_or-set_same}
use Rattle.laws.specs.Lists.{at, list_at, snoc, more, push, lengths, take_each, fill_each}
use Rattle.laws.proofs.Folds.{count_le}
use Rattle.laws.proofs.Fills.{fill_push}
use Rattle.kinds.specs.Lent.{Lent, lent_five, no_host, with_tier_buffers}
use Rattle.kinds.specs.Layout.{view, side, lay, lay_state, lay_host}
use Rattle.kinds.specs.Setters.{state_of}
use Rattle.kinds.specs.declared.State.{State}
use Rattle.kinds.proofs.RowLayout.{at_lengths}
use Rattle.kinds.proofs.TierLayout.{Within, lengths_each_push, within_of}
use Rattle.calls.specs.Call.{add_clause, parts, five_lists}
use Rattle.calls.specs.StorePasses.{live_in}
use Rattle.calls.specs.Adding.{new_words, added_long}
use Rattle.calls.specs.Refusing.{own, tier_wrong}
use Rattle.calls.specs.Outcome.{judged, refused_for, has_room, step, own_number}
use Rattle.calls.proofs.Laws.{not_refused, has_room_lem}
use Rattle.calls.proofs.Readings.{words_pass_lem, held_words}
use Rattle.calls.proofs.Judged.{sizes_judged, store_judged, words_sized_lem, clauses_sized, tier_sized_lem, vars_high, words_fit, clauses_fit, tier_fits}
use Rattle.calls.proofs.Given.{first_not, others_not, neither_left, clause_right, tier_right}

-- what the code stands on
pub record LongReady (s : State) (words clauses irred core mid local : List ℕ) (t : ℕ) (ls : List ℕ) : Type 0 where
  pub tier : t < 4
  pub few : length ls ≤ 65536
  pub room : s.words + (length ls + 3) ≤ length words
  pub words_most : length words ≤ 2 ^ 24
  pub listed : s.clauses < length clauses
  pub clauses_most : length clauses ≤ 2 ^ 22
  pub used : (u : ℕ) → u < 4 → at s.tiers u ≤ length (list_at (irred ∷ core ∷ mid ∷ local ∷ []) u)
  pub tier_room : at s.tiers t < length (list_at (irred ∷ core ∷ mid ∷ local ∷ []) t)
  pub count : at s.counts t ≤ 2 ^ 22

-- a tier's list grows by one
module _ (s : State) (words clauses irred core mid local : List ℕ) (four : length s.tiers ≡ 4) (u x : ℕ) (h : u < 4)
    (used : (v : ℕ) → v < 4 → at s.tiers v ≤ length (list_at (lent_five s words clauses irred core mid local no_host).tiers v)) where
  abbrev bufs : List (List ℕ)
  bufs = (lent_five s words clauses irred core mid local no_host).tiers

  within : Within s.tiers bufs
  within = within_of s.tiers bufs four used

  pub grown : length (list_at (push u x (take_each s.tiers bufs)) u) ≡ at s.tiers u + 1
  grown =
      sym (at_lengths (push u x (take_each s.tiers bufs)) u)
      ∙ ap (λ (l : List ℕ). at l u) (sym (lengths_each_push s.tiers bufs u x within))
      ∙ get_or-set_same s.tiers u (at s.tiers u + 1) 0 (omega arith)

module _ (s : State) (words clauses irred core mid local : List ℕ) (t g : ℕ) (ls : List ℕ) (four : length s.tiers ≡ 4) where
  abbrev k : Lent
  k = lent_five s words clauses irred core mid local no_host

  pub long_ready : judged five_lists k ≡ 0 → own_number (add_clause t g ls) k ≡ 0 → LongReady s words clauses irred core mid local t ls
  unfolding has_room step parts added_long view refused_for own
  long_ready j o =
      let z = sizes_judged five_lists k j in
      let r = has_room_lem (add_clause t g ls) k o in
      let n = not_refused (add_clause t g ls) k o in
      let w = words_sized_lem five_lists k z refl in
      let l = clauses_sized five_lists k z refl in
      let c = clause_right s.vars 3 s.vars ls (first_not 4 _ _ (λ q. omega arith) n) in
      let v = vars_high five_lists k z refl in
      let u = neither_left (tier_wrong t) _ (first_not 5 _ _ (λ q. omega arith) (others_not 4 _ _ (λ q. omega arith) n)) in
      let tier = tier_right t u in
      let used : (u : ℕ) → u < 4 → at s.tiers u ≤ length (list_at k.tiers u) = λ u h. (tier_sized_lem five_lists k z refl u h).used in
      let cf : length (snoc (take s.clauses clauses) s.words) ≤ length clauses = clauses_fit five_lists k (added_long t g ls (view k)) r refl in
      let tf : length (list_at (push t s.words (take_each s.tiers k.tiers)) t) ≤ length (list_at k.tiers t) = tier_fits five_lists k (added_long t g ls (view k)) r refl t tier in
      let p = held_words (view k) (words_pass_lem five_lists (view k) (store_judged five_lists k j) refl) in
      let len : length (take s.clauses clauses) ≡ s.clauses = length-take-le s.clauses clauses l.used in
      let more : length (snoc (take s.clauses clauses) s.words) ≡ length (take s.clauses clauses) + 1 = length-append (take s.clauses clauses) (s.words ∷ []) in
      let longer = grown s words clauses irred core mid local four t s.words tier used in
      let ct = p.counts t tier in
      let most = count_le (live_in words (take s.clauses clauses) t) (length (take s.clauses clauses)) in
      let lm = l.most in
      record {
        tier = tier;
        few = omega (arith, c.high);
        room = words_fit five_lists k (added_long t g ls (view k)) r refl;
        words_most = w.most;
        listed = omega arith;
        clauses_most = l.most;
        used = used;
        tier_room = omega arith;
        count = omega (arith, ct, most, len, l.used, lm);
      }

  -- ---- the writes, put together
  module _ (r : LongReady s words clauses irred core mid local t ls) (words₁ clauses₁ : List ℕ) (tiers₁ : List (List ℕ)) (lens₁ : List ℕ)
      (w : words₁ ≡ sets words s.words (new_words t g ls)) (c : clauses₁ ≡ set clauses s.clauses s.words)
      (b : tiers₁ ≡ fill_each k.tiers s.tiers (push t s.words (take_each s.tiers k.tiers))) (n : lens₁ ≡ lengths (push t s.words (take_each s.tiers k.tiers))) where
    listed_length : s.clauses + 1 ≡ length (snoc (take s.clauses clauses) s.words)
    listed_length =
        let l = r.listed in
        sym (length-append (take s.clauses clauses) (s.words ∷ []) ∙ ap (λ (x : ℕ). x + 1) (length-take-le s.clauses clauses (omega arith)))

    pub long_laid : with_tier_buffers tiers₁ (lent_five (state_of s.vars (s.words + (length ls + 3)) (s.clauses + 1) lens₁ s.recorded (more t s.counts) s.garbage s.binary s.activity) words₁ clauses₁ [] [] [] [] no_host)
        ≡ lay five_lists k (added_long t g ls (view k))
    unfolding lay lay_state lay_host view side added_long
    long_laid = λ i. record {
      state = record { vars = s.vars; words = s.words + (length ls + 3); clauses = listed_length i; tiers = n i; recorded = s.recorded; counts = more t s.counts; garbage = s.garbage; binary = s.binary; activity = s.activity };
      words = w i;
      clauses = (c ∙ sym (fill_push clauses s.clauses s.words r.listed)) i;
      tiers = b i;
      rows = [];
      counts = [];
      rec = [];
      host = no_host;
    }
