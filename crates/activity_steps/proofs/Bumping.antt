-- Bumping, on what is lent. Assumes nothing.
use mathlib.Core.Path.{◌≡◌, refl, sym, ap, ap₂, ◌∙◌, subst}
use mathlib.Core.Bool.{Bool, true, false, cond, not, ◌&&◌}
use mathlib.Core.List.{List, [], ◌∷◌, ◌++◌}
use Prim.Native.Nat.{ℕ, zero, suc, ◌+◌, ◌-◌, ◌*◌, ◌^◌, ◌≤◌, ◌<◌, max}
use native.Mathlib.Decide.{ℕ_discrete, dec_le}
use native.Mathlib.Omega.{arith}
use lib.ListN.{length, set, take, drop, replicate, length-append, length-set}
use lib.Seq.{length-take-le, get_or-take, get_or-set_other}
use lib.Ieee.{lt, to_bits, binary32}
use borrow.Author.Tests.{eq-eqb, ne_eqb, lt-ltb, le-ltb, le-leb, lt-leb}
use Rattle.laws.specs.Fold.{fold_list, all_below}
use Rattle.laws.specs.Lists.{at, list_at, snoc, more, less, push, lengths, take_each, fill, fill_each}
use Rattle.laws.proofs.Folds.{and_left, count_le, all_of, all_fails}
use Rattle.laws.proofs.Tests.{and_true}
use Rattle.laws.proofs.Filling.{take_fill}
use Rattle.laws.proofs.Fills.{fill_same}
use Rattle.laws.proofs.Pushes.{at_other, at_same}
use Rattle.laws.proofs.Reading.{length_read, at_read}
use Rattle.kinds.specs.Header.{tier_of, glue_of, with_tier, with_active, with_glue}
use Rattle.kinds.specs.Clauses.{head_at, len_at, glue_at, tier_at, end_at, lits_at, is_live, undeleted, change_head}
use Rattle.kinds.specs.Floats.{limit, limit_bits, activity_ok, bump_ok, scaled}
use Rattle.kinds.specs.Lent.{Lent, Parts, lent_five, levels_only, with_tier_buffers, with_word_buffer}
use Rattle.kinds.specs.Held.{Held, with_words, with_counts, with_tiers}
use Rattle.kinds.specs.Layout.{view, side, lay, lay_state, lay_host, fit, fit_tier}
use Rattle.kinds.specs.Setters.{state_of, with_tier_lengths, with_tier_counts}
use Rattle.kinds.specs.declared.State.{State}
use Rattle.kinds.specs.declared.ClauseActivity.{ClauseActivity}
use Rattle.kinds.proofs.RowLayout.{at_lengths}
use Rattle.kinds.proofs.TierLayout.{Within, lengths_each, each_same}
use Rattle.calls.specs.Call.{bump, parts, five_lists_levels}
use Rattle.calls.specs.StorePasses.{placed, words_pass, live_in}
use Rattle.calls.specs.Adding.{moved_to, tier_set}
use Rattle.calls.specs.Bumping.{glue_for, tier_for, scaled_at, rescaled, sum_for, activity_raised, activity_bumped, activated, glue_stored, glue_lowered, new_glue, bumped}
use Rattle.calls.specs.Refusing.{own, lowest, not_live}
use Rattle.calls.specs.Outcome.{judged, refused_for, has_room, step, or_else, own_number}
use Rattle.calls.proofs.Laws.{not_refused, has_room_lem}
use Rattle.calls.proofs.Readings.{words_pass_lem, held_words, levels_pass, rising_read}
use Rattle.calls.proofs.Judged.{sizes_judged, store_judged, host_judged, vars_high, words_sized_lem, clauses_sized, tier_sized_lem, levels_long, tier_fits}
use Rattle.calls.proofs.Given.{first_not, gives, passes_on, live_right}
use Rattle.calls.proofs.Live.{live_there}
use Rattle.calls.proofs.Unchanged.{tiers_within}
use Rattle.activity.specs.Stored.{Stored, Bounded, Away, stored}
use Rattle.activity.proofs.Ready.{bounded, floats_ok, reference_within, reference_activity, reference_away}
use Rattle.activity.proofs.Scaling.{each_undeleted}
use Rattle.activity.proofs.Whole.{lent_with, held_parts, put_parts, view_bumped, lay_on}
use Rattle.judge_words.proofs.Whole.{placed_same}
use Rattle.db_steps.proofs.Long.{grown}
use Rattle.activity_steps.proofs.Decaying.{undeleted_fewer}
use Rattle.assess.specs.Levelled.{Levelled}
use Rattle.assess.proofs.Ready.{levelled}

glue_tier : (g x : ℕ) → tier_of (with_glue g x) ≡ tier_of x
glue_tier g x = omega arith

active_glue : (x : ℕ) → glue_of (with_active true x) ≡ glue_of x
active_glue x = omega arith

active_tier : (x : ℕ) → tier_of (with_active true x) ≡ tier_of x
active_tier x = omega arith

-- ---- what a bump leaves of a clause's word 1

scaled_off : (l ws : List ℕ) (p : ℕ) → ((i : ℕ) → i < length l → at l i ≡ p → ⊥) → at (fold_list scaled_at ws l) p ≡ at ws p
unfolding fold_list scaled_at
scaled_off [] ws p h = refl
scaled_off (o ∷ l) ws p h = scaled_off l (scaled_at ws o) p (λ i k. h (suc i) (omega arith)) ∙ at_other ws o (scaled (at ws o)) p (λ e. h zero (omega arith) (sym e))

scaled_long : (l ws : List ℕ) → length (fold_list scaled_at ws l) ≡ length ws
unfolding fold_list scaled_at
scaled_long [] ws = refl
scaled_long (o ∷ l) ws = scaled_long l (scaled_at ws o) ∙ length-set ws o (scaled (at ws o))

module _ (words list : List ℕ) (o : ℕ) (a : ClauseActivity) (h : Held) (w : h.words ≡ words) (c : h.clauses ≡ list) (apart : (i : ℕ) → i < length list → at list i ≡ o + 1 → ⊥) where
  raised_head : head_at (activity_raised o h).words o ≡ head_at words o
  raised_head = at_other h.words o (to_bits binary32 (sum_for o h)) (o + 1) (λ e. omega arith) ∙ ap (λ (l : List ℕ). at l (o + 1)) w

  pub bumped_head : head_at (activity_bumped o h).words o ≡ head_at words o
  unfolding activity_bumped rescaled
  bumped_head = go (lt limit (sum_for o h))
    where
      far : (i : ℕ) → i < length (undeleted (activity_raised o h).words list) → at (undeleted (activity_raised o h).words list) i ≡ o + 1 → ⊥
      far = each_undeleted (activity_raised o h).words (λ (x : ℕ). x ≡ o + 1 → ⊥) list (λ i q d. apart i q)

      go : (b : Bool) → head_at (cond b (rescaled (activity_raised o h)) (activity_raised o h)).words o ≡ head_at words o
      go true =
          ap (λ (l : List ℕ). at (fold_list scaled_at (activity_raised o h).words (undeleted (activity_raised o h).words l)) (o + 1)) c
          ∙ scaled_off (undeleted (activity_raised o h).words list) (activity_raised o h).words (o + 1) far ∙ raised_head
      go false = raised_head

  pub bumped_length : length (activity_bumped o h).words ≡ length words
  unfolding activity_bumped rescaled
  bumped_length = go (lt limit (sum_for o h))
    where
      raised : length (activity_raised o h).words ≡ length words
      raised = length-set h.words o (to_bits binary32 (sum_for o h)) ∙ ap length w

      go : (b : Bool) → length (cond b (rescaled (activity_raised o h)) (activity_raised o h)).words ≡ length words
      go true = scaled_long (undeleted (activity_raised o h).words h.clauses) (activity_raised o h).words ∙ raised
      go false = raised

  pub bumped_fewer : length (activity_bumped o h).clauses ≤ length list
  unfolding activity_bumped rescaled
  bumped_fewer = go (lt limit (sum_for o h))
    where
      go : (b : Bool) → length (cond b (rescaled (activity_raised o h)) (activity_raised o h)).clauses ≤ length list
      go true = let e = undeleted_fewer (activity_raised o h).words h.clauses in let f : length h.clauses ≡ length list = ap length c in omega arith
      go false = let f : length h.clauses ≡ length list = ap length c in omega arith

-- ---- laying, where the words alone change, or a tier's list besides

module _ (k : Lent) (d : Bool) where
  abbrev p : Parts
  p = record { vars = true; state = true; words = true; tiers = true; rows = false; rec = false; levels = d; host = false }

  pub lay_words : k.state.clauses ≤ length k.clauses → Within k.state.tiers k.tiers → (ws : List ℕ) → with_word_buffer ws k ≡ lay p k (with_words ws (view k))
  unfolding lay lay_state lay_host view side
  lay_words u t ws = λ i. record {
    state = record { vars = k.state.vars; words = k.state.words; clauses = sym (length-take-le k.state.clauses k.clauses u) i; tiers = sym (lengths_each k.state.tiers k.tiers t) i; recorded = k.state.recorded; counts = k.state.counts; garbage = k.state.garbage; binary = k.state.binary; activity = k.state.activity };
    words = ws;
    clauses = sym (fill_same k.clauses k.state.clauses u) i;
    tiers = sym (each_same k.state.tiers k.tiers t) i;
    rows = k.rows;
    counts = k.counts;
    rec = k.rec;
    host = k.host;
  }

  pub lay_tiers : k.state.clauses ≤ length k.clauses → (ws cs : List ℕ) (ts : List (List ℕ)) (lens₁ : List ℕ) (tiers₁ : List (List ℕ)) → lens₁ ≡ lengths ts → tiers₁ ≡ fill_each k.tiers k.state.tiers ts
      → with_tier_buffers tiers₁ (with_word_buffer ws (record { state = with_tier_lengths lens₁ (with_tier_counts cs k.state); words = k.words; clauses = k.clauses; tiers = k.tiers; rows = k.rows; counts = k.counts; rec = k.rec; host = k.host }))
      ≡ lay p k (with_words ws (with_counts cs (with_tiers ts (view k))))
  unfolding lay lay_state lay_host view side
  lay_tiers u ws cs ts lens₁ tiers₁ l b = λ i. record {
    state = record { vars = k.state.vars; words = k.state.words; clauses = sym (length-take-le k.state.clauses k.clauses u) i; tiers = l i; recorded = k.state.recorded; counts = cs; garbage = k.state.garbage; binary = k.state.binary; activity = k.state.activity };
    words = ws;
    clauses = sym (fill_same k.clauses k.state.clauses u) i;
    tiers = b i;
    rows = k.rows;
    counts = k.counts;
    rec = k.rec;
    host = k.host;
  }

module _ (s : State) (words clauses irred core mid local levels : List ℕ) (o : ℕ) (four : length s.tiers ≡ 4) where
  abbrev k : Lent
  k = lent_five s words clauses irred core mid local (levels_only levels)

  abbrev n : ℕ
  n = s.clauses

  abbrev h : Held
  h = view k

  -- what the code stands on
  pub record BumpReady : Type 0 where
    pub live : is_live words (take n clauses) o ≡ true
    pub ends : end_at words o ≤ length words
    pub most : length words ≤ 2 ^ 24
    pub levelled : Levelled levels (lits_at words o)
    pub bounded : Bounded limit_bits words clauses n
    pub inside : o < length words
    pub activity : activity_ok (at words o) ≡ true
    pub away : Away clauses n o
    pub bump : bump_ok s.activity.bump ≡ true
    pub apart : (i : ℕ) → i < length (take n clauses) → at (take n clauses) i ≡ o + 1 → ⊥
    pub used : (u : ℕ) → u < 4 → at s.tiers u ≤ length (list_at k.tiers u)
    pub within : Within s.tiers k.tiers
    pub tier : tier_at words o < 4
    pub counted : 0 < at s.counts (tier_at words o)
    pub count : (t : ℕ) → t < 4 → at s.counts t ≤ 2 ^ 22

  -- from the judging, for a live clause
  pub bump_ready : judged five_lists_levels k ≡ 0 → is_live words (take n clauses) o ≡ true → BumpReady
  unfolding view side words_pass is_live
  bump_ready j live =
      let p = five_lists_levels in
      let z = sizes_judged p k j in
      let sp = store_judged p k j in
      let w = words_sized_lem p k z refl in
      let l = clauses_sized p k z refl in
      let pass = words_pass_lem p h sp refl in
      let there = live_there h o pass live in
      let held = held_words h pass in
      let len : length (take n clauses) ≡ n = length-take-le n clauses l.used in
      let ends : end_at words o ≤ s.words = there.ends in
      let in_words : s.words ≤ length words = w.used in
      let most : length words ≤ 2 ^ 24 = w.most in
      let lm : length clauses ≤ 2 ^ 22 = l.most in
      let lu : n ≤ length clauses = l.used in
      let rising = rising_read words s.words (take n clauses) (length (take n clauses)) (and_left _ _ pass) in
      let pl = there.place in
      record {
        live = live;
        ends = omega arith;
        most = most;
        levelled = levelled s.vars levels (lits_at words o) (vars_high p k z refl) (levels_long p k z refl) (levels_pass p h (host_judged p k j) refl)
            (λ i q. let r = length_read words (o + 3) (len_at words o) in subst (λ (x : ℕ). x < 2 * s.vars) (sym (at_read words (o + 3) (len_at words o) i (omega arith))) (there.clause.lits.below i (omega arith)));
        bounded = bounded p k z sp refl;
        inside = reference_within p k z sp refl o live;
        activity = reference_activity p k z sp refl o live;
        away = reference_away p k z sp refl o live;
        bump = (floats_ok p k z sp refl).0;
        apart = λ i q e.
            let here : at (take n clauses) pl ≡ o = there.there in
            near (ℕ_discrete i pl) (dec_le i pl)
            (λ a. let r = rising i pl a there.listed in omega arith)
            (λ a. let r = rising pl i a q in omega arith)
            (λ a. let r : at (take n clauses) i ≡ at (take n clauses) pl = ap (at (take n clauses)) a in omega arith);
        used = λ u q. (tier_sized_lem p k z refl u q).used;
        within = tiers_within p k z refl four refl;
        tier = there.tier;
        counted = there.counted;
        count = λ t q. let ct = held.counts t q in let m = count_le (live_in words (take n clauses) t) (length (take n clauses)) in omega arith;
      }
    where
      near : {a b : ℕ} → Dec (a ≡ b) → Dec (a ≤ b) → (a < b → ⊥) → (b < a → ⊥) → (a ≡ b → ⊥) → ⊥
      near (yes e) y f g i = i e
      near (no e) (yes y) f g i = f (omega arith)
      near (no e) (no y) f g i = g (omega arith)

  -- what the search for the clause stands on
  pub record ListsReady : Type 0 where
    pub used : s.words ≤ length words
    pub listed : n ≤ length clauses
    pub placed : placed words s.words clauses n ≡ true

  pub lists_ready : judged five_lists_levels k ≡ 0 → ListsReady
  unfolding view words_pass
  lists_ready j =
      let p = five_lists_levels in
      let z = sizes_judged p k j in
      let l = clauses_sized p k z refl in
      let len : length (take n clauses) ≡ n = length-take-le n clauses l.used in
      let pass = and_left _ _ (words_pass_lem p h (store_judged p k j) refl) in
      record {
        used = (words_sized_lem p k z refl).used;
        listed = l.used;
        placed = sym (placed_same words (take n clauses) clauses n (λ i q. get_or-take n clauses i 0 q) s.words) ∙ subst (λ (m : ℕ). placed words s.words (take n clauses) m ≡ true) len pass;
      }

  abbrev G : Held
  G = activity_bumped o (held_parts k)

  abbrev k₁ : Lent
  k₁ = put_parts k G

  abbrev active : List ℕ
  active = change_head (with_active true) o G.words

  unfoldable glued : ℕ → List ℕ
  glued g = change_head (with_glue g) o active

  listed_fits : k₁.state.clauses ≤ length k₁.clauses
  unfolding fill
  listed_fits = let e = length-append G.clauses (replicate (n - length G.clauses) 0 ++ drop (max n (length G.clauses)) clauses) in omega arith

  list_same : (view k₁).clauses ≡ G.clauses
  unfolding view
  list_same = take_fill clauses n G.clauses

  -- what is laid into the buffers as they are after the bump
  from_there : (x : Held) → x.clauses ≡ (view k₁).clauses → x ≡ bumped o h → {y : Lent} → y ≡ lay five_lists_levels k₁ x → y ≡ lay five_lists_levels k (bumped o h)
  from_there x c e q = q ∙ lay_on k true G x (c ∙ list_same) ∙ ap (lay five_lists_levels k) e

  module _ (g : ℕ) (eg : g ≡ glue_for levels (lits_at words o)) where
    bumped_is : glue_lowered g o (activated o (view k₁)) ≡ bumped o h
    unfolding bumped new_glue view side
    bumped_is = ap₂ (λ (x : ℕ) (y : Held). glue_lowered x o (activated o y)) eg (view_bumped k o)

    -- the glue is no lower
    kept_is : glue_at active o ≤ g → activated o (view k₁) ≡ bumped o h
    unfolding glue_lowered activated view
    kept_is q = ap (λ (b : Bool). cond b (tier_set (tier_for g) o (glue_stored g o (activated o (view k₁)))) (activated o (view k₁))) (sym (le-ltb g (glue_at active o) q)) ∙ bumped_is

    lowered_is : g < glue_at active o → tier_set (tier_for g) o (glue_stored g o (activated o (view k₁))) ≡ bumped o h
    unfolding glue_lowered activated view
    lowered_is q = ap (λ (b : Bool). cond b (tier_set (tier_for g) o (glue_stored g o (activated o (view k₁)))) (activated o (view k₁))) (sym (lt-ltb g (glue_at active o) q)) ∙ bumped_is

    module _ (q : g < glue_at active o) where
      same_tier_is : tier_at (glued g) o ≡ tier_for g → glue_stored g o (activated o (view k₁)) ≡ bumped o h
      unfolding tier_set glue_stored activated glued view
      same_tier_is e = ap (λ (b : Bool). cond b (glue_stored g o (activated o (view k₁))) (moved_to (tier_for g) o (glue_stored g o (activated o (view k₁))))) (sym (eq-eqb (tier_at (glued g) o) (tier_for g) e)) ∙ lowered_is q

      other_tier_is : (tier_at (glued g) o ≡ tier_for g → ⊥) → moved_to (tier_for g) o (glue_stored g o (activated o (view k₁))) ≡ bumped o h
      unfolding tier_set glue_stored activated glued view
      other_tier_is e = ap (λ (b : Bool). cond b (glue_stored g o (activated o (view k₁))) (moved_to (tier_for g) o (glue_stored g o (activated o (view k₁))))) (sym (ne_eqb (tier_at (glued g) o) (tier_for g) e)) ∙ lowered_is q

  -- ---- 6 and 11

  pub refused_dead : is_live words (take n clauses) o ≡ false → 6 ≡ own_number (bump o) k
  unfolding own_number refused_for own not_live view
  refused_dead e = sym (ap (λ (x : ℕ). or_else x (cond (has_room (bump o) k) 0 11)) (gives 6 (not (is_live words (take n clauses) o)) [] (ap not e)))

  module _ (r : BumpReady) where
    -- what is left is the room
    own_room : (x : Held) → x ≡ bumped o h → (b : Bool) → fit five_lists_levels k x ≡ b → cond b 0 11 ≡ own_number (bump o) k
    unfolding own_number refused_for own lowest not_live view has_room step parts
    own_room x e b f =
        sym
        (ap₂ (λ (y : ℕ) (z : Bool). or_else y (cond z 0 11)) (passes_on 6 (not (is_live words (take n clauses) o)) [] (ap not r.live))
        (ap (fit five_lists_levels k) (sym e) ∙ f))

    active_head : head_at active o ≡ with_active true (head_at words o)
    active_head =
        let l = bumped_length words (take n clauses) o s.activity (held_parts k) refl refl r.apart in
        let f = r.ends in
        at_same G.words (o + 1) (with_active true (head_at G.words o)) (omega arith) ∙ ap (with_active true) (bumped_head words (take n clauses) o s.activity (held_parts k) refl refl r.apart)

    active_glue_is : glue_at active o ≡ glue_at words o
    active_glue_is = ap glue_of active_head ∙ active_glue (head_at words o)

    glued_tier_is : (g : ℕ) → tier_at (glued g) o ≡ tier_at words o
    unfolding glued
    glued_tier_is g =
        let l = bumped_length words (take n clauses) o s.activity (held_parts k) refl refl r.apart in
        let m : length active ≡ length G.words = length-set G.words (o + 1) (with_active true (head_at G.words o)) in
        let f = r.ends in
        ap tier_of (at_same active (o + 1) (with_glue g (head_at active o)) (omega arith)) ∙ glue_tier g (head_at active o) ∙ ap tier_of active_head ∙ active_tier (head_at words o)

    clauses_fit : n ≤ length clauses → length (view k₁).clauses ≤ length clauses
    clauses_fit q =
        let e : length (view k₁).clauses ≡ length G.clauses = ap length list_same in
        let f = bumped_fewer words (take n clauses) o s.activity (held_parts k) refl refl r.apart in
        let t = length-take-le n clauses q in
        omega arith

    module _ (used : s.words ≤ length words) (fits : n ≤ length clauses) where
      fit_by : (x : Held) → x.used ≡ s.words → x.clauses ≡ (view k₁).clauses → fit five_lists_levels k x ≡ all_below (fit_tier k x) 4
      unfolding fit
      fit_by x u c =
          let e : length x.clauses ≡ length (view k₁).clauses = ap length c in
          let f = clauses_fit fits in
          ap₂ (λ (a b : Bool). (a && b) && (all_below (fit_tier k x) 4 && true)) (le-leb x.used (length words) (omega arith)) (le-leb (length x.clauses) (length clauses) (omega arith)) ∙ and_true (all_below (fit_tier k x) 4)

      list_length : (t : ℕ) → length (list_at (take_each s.tiers k.tiers) t) ≡ at s.tiers t
      list_length t = sym (at_lengths (take_each s.tiers k.tiers) t) ∙ ap (λ (l : List ℕ). at l t) (lengths_each s.tiers k.tiers r.within)

      kept_fits : (x : Held) → x.tiers ≡ take_each s.tiers k.tiers → all_below (fit_tier k x) 4 ≡ true
      unfolding fit_tier
      kept_fits x t = all_of (fit_tier k x) 4
          (λ i q. let e : length (list_at x.tiers i) ≡ at s.tiers i = ap (λ (ts : List (List ℕ)). length (list_at ts i)) t ∙ list_length i in let f = r.used i q in le-leb (length (list_at x.tiers i)) (length (list_at k.tiers i)) (omega arith))

      module _ (t : ℕ) (t-low : t < 4) (x : Held) (tx : x.tiers ≡ push t o (take_each s.tiers k.tiers)) where
        here_long : length (list_at x.tiers t) ≡ at s.tiers t + 1
        here_long = ap (λ (ts : List (List ℕ)). length (list_at ts t)) tx ∙ grown s words clauses irred core mid local four t o t-low r.used

        moved_fits : at s.tiers t < length (list_at k.tiers t) → all_below (fit_tier k x) 4 ≡ true
        unfolding fit_tier
        moved_fits q = all_of (fit_tier k x) 4 (λ i z. le-leb (length (list_at x.tiers i)) (length (list_at k.tiers i)) (go i z (ℕ_discrete i t)))
          where
            go : (i : ℕ) → i < 4 → Dec (i ≡ t) → length (list_at x.tiers i) ≤ length (list_at k.tiers i)
            go i z (yes e) = subst (λ (y : ℕ). length (list_at x.tiers y) ≤ length (list_at k.tiers y)) (sym e) (let f = here_long in omega arith)
            go i z (no e) =
                let f : length (list_at x.tiers i) ≡ length (list_at (take_each s.tiers k.tiers) i) = ap (λ (ts : List (List ℕ)). length (list_at ts i)) tx ∙ ap length (get_or-set_other (take_each s.tiers k.tiers) t i (snoc (list_at (take_each s.tiers k.tiers) t) o) [] e) in
                let g = list_length i in
                let u = r.used i z in
                omega arith

        moved_lacks : length (list_at k.tiers t) ≤ at s.tiers t → all_below (fit_tier k x) 4 ≡ false
        unfolding fit_tier
        moved_lacks q = all_fails (fit_tier k x) t 4 t-low (lt-leb (length (list_at x.tiers t)) (length (list_at k.tiers t)) (let f = here_long in omega arith))

      -- ---- each way: b the stored glue, g the new one, t the tier chosen, old the clause's
      module _ (g : ℕ) (eg : g ≡ glue_for levels (lits_at words o)) (b : ℕ) (eb : b ≡ glue_at words o) where
        pub refused_kept : b ≤ g → 0 ≡ own_number (bump o) k
        unfolding activated view
        refused_kept q =
            let x : Held = activated o (view k₁) in
            let e = active_glue_is in
            own_room x (kept_is g eg (omega arith)) true (fit_by x refl refl ∙ kept_fits x refl)

        module _ (q : g < b) (t : ℕ) (et : t ≡ tier_for g) (t-low : t < 4) (old : ℕ) (eo : old ≡ tier_at words o) where
          lower : g < glue_at active o
          lower = let e = active_glue_is in omega arith

          pub refused_same : old ≡ t → 0 ≡ own_number (bump o) k
          unfolding activated glue_stored view
          refused_same f =
              let x : Held = glue_stored g o (activated o (view k₁)) in
              own_room x (same_tier_is g eg lower (glued_tier_is g ∙ sym eo ∙ f ∙ et)) true (fit_by x refl refl ∙ kept_fits x refl)

          module _ (f : old ≡ t → ⊥) where
            there : moved_to t o (glue_stored g o (activated o (view k₁))) ≡ bumped o h
            there = ap (λ (y : ℕ). moved_to y o (glue_stored g o (activated o (view k₁)))) et ∙ other_tier_is g eg lower (λ z. f (eo ∙ sym (glued_tier_is g) ∙ z ∙ sym et))

            pub refused_room : at s.tiers t < length (list_at k.tiers t) → 0 ≡ own_number (bump o) k
            unfolding moved_to activated glue_stored view
            refused_room z =
                let x : Held = moved_to t o (glue_stored g o (activated o (view k₁))) in
                own_room x there true (fit_by x refl refl ∙ moved_fits t t-low x refl z)

            pub refused_full : length (list_at k.tiers t) ≤ at s.tiers t → 11 ≡ own_number (bump o) k
            unfolding moved_to activated glue_stored view
            refused_full z =
                let x : Held = moved_to t o (glue_stored g o (activated o (view k₁))) in
                own_room x there false (fit_by x refl refl ∙ moved_lacks t t-low x refl z)

  -- from the refusals: the reference is a live clause
  pub bump_live : own_number (bump o) k ≡ 0 → is_live words (take n clauses) o ≡ true
  unfolding view refused_for own
  bump_live q = live_right h o (first_not 6 _ _ (λ e. omega arith) (not_refused (bump o) k q))

  -- ---- the code: st is what the activity's bump left, words₂ the words with the active flag
  module _ (r : BumpReady) (st : Stored) (e : st ≡ stored clauses n G) (words₂ : List ℕ) (w₂ : words₂ ≡ change_head (with_active true) o st.words) (g : ℕ) (eg : g ≡ glue_for levels (lits_at words o)) (b : ℕ) (eb : b ≡ glue_at words₂ o) where
    active_is : words₂ ≡ active
    active_is = w₂ ∙ ap (λ (x : Stored). change_head (with_active true) o x.words) e

    glue_is : b ≡ glue_at active o
    glue_is = eb ∙ ap (λ (x : List ℕ). glue_at x o) active_is

    pub bump_kept : b ≤ g → with_word_buffer words₂ (lent_with st k) ≡ lay five_lists_levels k (bumped o h)
    unfolding activated view activity_bumped
    bump_kept q =
        let z = glue_is in
        (λ i. with_word_buffer (active_is i) (lent_with (e i) k))
        ∙ from_there (activated o (view k₁)) refl (kept_is g eg (omega arith)) (lay_words k₁ true listed_fits r.within active)

    module _ (q : g < b) (words₃ : List ℕ) (w₃ : words₃ ≡ change_head (with_glue g) o words₂) (t : ℕ) (et : t ≡ tier_for g) (old : ℕ) (eo : old ≡ tier_at words₃ o) where
      low : g < glue_at active o
      low = let z = glue_is in omega arith

      glued_is : words₃ ≡ glued g
      unfolding glued
      glued_is = w₃ ∙ ap (change_head (with_glue g) o) active_is

      old_is : old ≡ tier_at (glued g) o
      old_is = eo ∙ ap (λ (x : List ℕ). tier_at x o) glued_is

      -- the tier is the clause's
      pub old_tier : length st.words ≡ length words → old ≡ tier_at words o
      old_tier l =
          let f = r.ends in
          let m : head_at st.words o ≡ head_at words o = ap (λ (x : Stored). head_at x.words o) e ∙ bumped_head words (take n clauses) o s.activity (held_parts k) refl refl r.apart in
          let a : head_at words₂ o ≡ with_active true (head_at words o) = ap (λ (x : List ℕ). at x (o + 1)) w₂ ∙ at_same st.words (o + 1) (with_active true (head_at st.words o)) (omega arith) ∙ ap (with_active true) m in
          let l₂ : length words₂ ≡ length st.words = ap length w₂ ∙ length-set st.words (o + 1) (with_active true (head_at st.words o)) in
          let c : head_at words₃ o ≡ with_glue g (head_at words₂ o) = ap (λ (x : List ℕ). at x (o + 1)) w₃ ∙ at_same words₂ (o + 1) (with_glue g (head_at words₂ o)) (omega arith) in
          eo ∙ ap tier_of (c ∙ ap (with_glue g) a) ∙ glue_tier g (with_active true (head_at words o)) ∙ active_tier (head_at words o)

      pub bump_same : old ≡ t → with_word_buffer words₃ (lent_with st k) ≡ lay five_lists_levels k (bumped o h)
      unfolding activated glue_stored glued view activity_bumped
      bump_same f =
          (λ i. with_word_buffer (glued_is i) (lent_with (e i) k))
          ∙ from_there (glue_stored g o (activated o (view k₁))) refl (same_tier_is g eg low (sym old_is ∙ f ∙ et)) (lay_words k₁ true listed_fits r.within (glued g))

      module _ (f : old ≡ t → ⊥) where
        moved_is : moved_to t o (glue_stored g o (activated o (view k₁))) ≡ bumped o h
        moved_is = ap (λ (x : ℕ). moved_to x o (glue_stored g o (activated o (view k₁)))) et ∙ other_tier_is g eg low (λ z. f (old_is ∙ z ∙ sym et))

        pub bump_room : own_number (bump o) k ≡ 0 → t < 4 → at s.tiers t < length (list_at k.tiers t)
        unfolding has_room step parts view moved_to glue_stored activated
        bump_room z y =
            let a : length (list_at (push t o (take_each s.tiers k.tiers)) t) ≤ length (list_at k.tiers t) =
            subst (λ (x : Held). length (list_at x.tiers t) ≤ length (list_at k.tiers t)) (sym moved_is) (tier_fits five_lists_levels k (bumped o h) (has_room_lem (bump o) k z) refl t y) in
            let c = grown s words clauses irred core mid local four t o y r.used in
            omega arith

        pub bump_moved : (words₄ : List ℕ) (x : ℕ) → x ≡ with_tier t (head_at words₃ o) → words₄ ≡ set words₃ (o + 1) x → (tiers₁ : List (List ℕ)) (lens₁ : List ℕ)
            → tiers₁ ≡ fill_each k.tiers s.tiers (push t o (take_each s.tiers k.tiers)) → lens₁ ≡ lengths (push t o (take_each s.tiers k.tiers))
            → with_tier_buffers tiers₁ (lent_five (state_of s.vars s.words st.listed lens₁ s.recorded (more t (less old s.counts)) s.garbage s.binary st.activity) words₄ st.clauses [] [] [] [] (levels_only levels))
            ≡ lay five_lists_levels k (bumped o h)
        unfolding moved_to glue_stored activated glued view
        bump_moved words₄ x ex w₄ tiers₁ lens₁ bt bl =
            let w : words₄ ≡ change_head (with_tier t) o (glued g) = w₄ ∙ ap (set words₃ (o + 1)) ex ∙ ap (change_head (with_tier t) o) glued_is in
            (λ i. with_tier_buffers tiers₁ (lent_five (state_of s.vars s.words (e i).listed lens₁ s.recorded (more t (less (old_is i) s.counts)) s.garbage s.binary (e i).activity) (w i) (e i).clauses [] [] [] [] (levels_only levels)))
            ∙ from_there (moved_to t o (glue_stored g o (activated o (view k₁)))) refl moved_is
            (lay_tiers k₁ true listed_fits (change_head (with_tier t) o (glued g)) (more t (less (tier_at (glued g) o) s.counts)) (push t o (take_each s.tiers k.tiers)) lens₁ tiers₁ bl bt)
