-- Collecting, on what is lent: what the judging establishes, that there is always room, and what the writes come to. Assumes nothing.
use mathlib.Core.Path.{◌≡◌, refl, sym, ap, ap₂, ◌∙◌, subst}
use mathlib.Core.Bool.{Bool, true, false, cond}
use mathlib.Core.List.{List, []}
use Prim.Native.Nat.{ℕ, zero, suc, ◌+◌, ◌*◌, ◌^◌, ◌≤◌, ◌<◌}
use native.Mathlib.Omega.{arith}
use lib.ListN.{length, take}
use lib.Seq.{length-take-le}
use borrow.Author.Tests.{le-leb, le-ltb, lt-ltb}
use Rattle.laws.specs.Fold.{fold_list}
use Rattle.laws.specs.Lists.{at, list_at, joined, starts, lengths, take_each, fill, fill_each}
use Rattle.laws.proofs.Folds.{and_left, and_right, and_both, all_of}
use Rattle.laws.proofs.Filling.{take_fill}
use Rattle.laws.proofs.Fills.{fill_same, length_fill, at_fill_in}
use Rattle.kinds.specs.Clauses.{undeleted}
use Rattle.kinds.specs.Held.{Held}
use Rattle.kinds.specs.Lent.{Lent, Host, lent_five, host_of, with_tier_buffers}
use Rattle.kinds.specs.Layout.{view, side, lay, lay_state, lay_host, fit, fit_tier}
use Rattle.kinds.specs.Setters.{state_of}
use Rattle.kinds.specs.declared.State.{State}
use Rattle.kinds.proofs.RowLayout.{at_lengths}
use Rattle.kinds.proofs.TierLayout.{Within, lengths_each}
use Rattle.calls.specs.Call.{collect, parts, five_lists_host}
use Rattle.calls.specs.StorePasses.{placed, clauses_ok, words_pass}
use Rattle.calls.specs.Refusing.{own, lowest}
use Rattle.calls.specs.Outcome.{judged, refused_for, has_room, step, own_number}
use Rattle.calls.specs.Collecting.{due, blocks, of_tier, by_tier, followed, host_followed, closed_up, collected}
use Rattle.calls.proofs.Readings.{words_pass_lem, tiers_pass, held_words, held_tier, side_pass, reasons_pass}
use Rattle.calls.proofs.Judged.{sizes_judged, store_judged, host_judged, words_sized_lem, clauses_sized, tier_sized_lem, levels_long, host_sized_lem}
use Rattle.calls.proofs.Unchanged.{tiers_within, unchanged}
use Rattle.close_up.specs.Reasons.{redirected_all}
use Rattle.close_up.proofs.Laying.{Laid, laid_placed}
use Rattle.gc_steps.proofs.Following.{reasons_follow}
use Rattle.gc_steps.proofs.Fewer.{closed_tier, closed_used, closed_listed, closed_inside}

by_tier_lem : (u os : List ℕ) (t : ℕ) → t < 4 → list_at (by_tier u os) t ≡ of_tier u t os
unfolding by_tier
by_tier_lem u os zero h = refl
by_tier_lem u os (suc zero) h = refl
by_tier_lem u os (suc (suc zero)) h = refl
by_tier_lem u os (suc (suc (suc zero))) h = refl
by_tier_lem u os (suc (suc (suc (suc t)))) h = absurd (omega arith)

module _ (s : State) (words clauses irred core mid local : List ℕ) (host : Host) (four : length s.tiers ≡ 4) where
  abbrev k : Lent
  k = lent_five s words clauses irred core mid local host

  abbrev n : ℕ
  n = s.clauses

  -- what the code stands on
  pub record CollectReady : Type 0 where
    pub used : s.words ≤ length words
    pub most : length words ≤ 2 ^ 24
    pub listed : n ≤ length clauses
    pub placed : placed words s.words (take n clauses) n ≡ true
    pub clauses_ok_lem : clauses_ok words s.vars (take n clauses) n ≡ true
    pub garbage : s.garbage ≤ s.words
    pub values : length host.values ≡ s.vars
    pub kinds : length host.kinds ≡ s.vars
    pub reasons : length host.reasons ≡ s.vars
    pub levels : length host.levels ≡ s.vars
    pub trail : host.assigned ≤ length host.trail
    pub tiers : (t : ℕ) → t < 4 → at s.tiers t ≤ length (list_at k.tiers t)
    pub within : Within s.tiers k.tiers
    pub laid : Laid words s.words 0 (take n clauses)

  module _ (j : judged five_lists_host k ≡ 0) where
    pub collect_ready : CollectReady
    unfolding view words_pass
    collect_ready =
        let z = sizes_judged five_lists_host k j in
        let w = words_sized_lem five_lists_host k z refl in
        let l = clauses_sized five_lists_host k z refl in
        let p = words_pass_lem five_lists_host (view k) (store_judged five_lists_host k j) refl in
        let g = (held_words (view k) p).garbage in
        let hs = host_sized_lem five_lists_host k z refl in
        let e : length (take n clauses) ≡ n = length-take-le n clauses l.used in
        let pl : placed words s.words (take n clauses) n ≡ true = subst (λ (m : ℕ). placed words s.words (take n clauses) m ≡ true) e (and_left _ _ p) in
        record {
          used = w.used;
          most = w.most;
          listed = l.used;
          placed = pl;
          clauses_ok_lem = subst (λ (m : ℕ). clauses_ok words s.vars (take n clauses) m ≡ true) e (and_left _ _ (and_right (placed words s.words (take n clauses) (length (take n clauses))) _ p));
          garbage = omega arith;
          values = hs.values;
          kinds = hs.kinds;
          reasons = hs.reasons;
          levels = levels_long five_lists_host k z refl;
          trail = hs.assigned;
          tiers = λ t h. (tier_sized_lem five_lists_host k z refl t h).used;
          within = tiers_within five_lists_host k z refl four refl;
          laid = laid_placed words s.words (take n clauses) n e pl;
        }

    -- the list of a tier, as it was, is as long as the state says
    list_length : (t : ℕ) → length (list_at (take_each s.tiers k.tiers) t) ≡ at s.tiers t
    list_length t = sym (at_lengths (take_each s.tiers k.tiers) t) ∙ ap (λ (l : List ℕ). at l t) (lengths_each s.tiers k.tiers collect_ready.within)

    abbrev h : Held
    h = view k

    abbrev all : List ℕ
    all = joined (blocks words (undeleted words (take n clauses)))

    abbrev new : List ℕ
    new = starts 0 (blocks words (undeleted words (take n clauses)))

    abbrev u : List ℕ
    u = fill words s.words all

    pub tier_few : (t : ℕ) → t < 4 → length (of_tier u t new) ≤ at s.tiers t
    unfolding view
    tier_few t q =
        let f = closed_tier h collect_ready.laid t (held_tier h (tiers_pass five_lists_host h (store_judged five_lists_host k j) refl) t q) in
        let e = list_length t in
        omega arith

    pub used_fewer : length all ≤ s.words
    unfolding view
    used_fewer = closed_used h collect_ready.laid

    pub new_fewer : length new ≤ n
    unfolding view
    new_fewer =
        let e : length (take n clauses) ≡ n = length-take-le n clauses collect_ready.listed in
        let f : length new ≤ length (take n clauses) = closed_listed h collect_ready.laid in
        omega arith

    pub new_within : (i : ℕ) → i < length new → at new i + 3 ≤ length all
    unfolding view
    new_within = closed_inside h collect_ready.laid

    -- ---- there is always room

    fits_of : (x : Held) → x.used ≤ length words → length x.clauses ≤ length clauses → ((t : ℕ) → t < 4 → length (list_at x.tiers t) ≤ length (list_at k.tiers t)) → fit five_lists_host k x ≡ true
    unfolding fit fit_tier
    fits_of x a b c = and_both _ _ (and_both _ _ (le-leb x.used (length words) a) (le-leb (length x.clauses) (length clauses) b))
        (and_both _ _ (all_of (fit_tier k x) 4 (λ t q. le-leb (length (list_at x.tiers t)) (length (list_at k.tiers t)) (c t q))) refl)

    kept_fit : fit five_lists_host k h ≡ true
    unfolding view
    kept_fit =
        let r = collect_ready in
        fits_of h r.used (let e : length (take n clauses) ≡ n = length-take-le n clauses r.listed in let f = r.listed in omega arith)
        (λ t q. let e = list_length t in let f = r.tiers t q in omega arith)

    closed_fit : fit five_lists_host k (closed_up h) ≡ true
    unfolding view closed_up
    closed_fit =
        let r = collect_ready in
        fits_of (closed_up h) (let e = used_fewer in omega arith) (let e = new_fewer in omega arith)
        (λ t q. let e : length (list_at (by_tier u new) t) ≡ length (of_tier u t new) = ap length (by_tier_lem u new t q) in let f = tier_few t q in let g = r.tiers t q in omega arith)

    pub collect_allowed : own_number collect k ≡ 0
    unfolding own_number refused_for own lowest has_room step parts collected
    collect_allowed = ap (λ (b : Bool). cond {A = ℕ} b 0 11) (go (due h))
      where
        go : (b : Bool) → fit five_lists_host k (cond b (closed_up h) h) ≡ true
        go true = closed_fit
        go false = kept_fit

    -- ---- "Collects if garbage times 2 exceeds the used length."

    pub not_due : s.garbage * 2 ≤ s.words → false ≡ due h
    unfolding due view
    not_due q = sym (le-ltb s.words (s.garbage * 2) q)

    pub is_due : s.words < s.garbage * 2 → true ≡ due h
    unfolding due view
    is_due q = sym (lt-ltb s.words (s.garbage * 2) q)

    pub kept_laid : s.garbage * 2 ≤ s.words → k ≡ lay five_lists_host k (collected h)
    unfolding collected
    kept_laid q = sym (unchanged five_lists_host k refl four (sizes_judged five_lists_host k j)) ∙ ap (λ (b : Bool). lay five_lists_host k (cond b (closed_up h) h)) (not_due q)

    -- ---- the clauses have closed up: what rebuilding stands on
    module _ (words₁ clauses₁ : List ℕ) (n₁ : ℕ) (w : words₁ ≡ u) (c : clauses₁ ≡ fill clauses n new) (y : n₁ ≡ length new) where
      pub places : take n₁ clauses₁ ≡ new
      places = ap₂ (λ (z : ℕ) (l : List ℕ). take z l) y c ∙ take_fill clauses n new

      pub places_fit : n₁ ≤ length clauses₁
      places_fit =
          let r = collect_ready in
          let a = r.listed in
          let b = new_fewer in
          let e : length clauses₁ ≡ length clauses = ap length c ∙ length_fill clauses n new a (omega arith) in
          omega arith

      pub places_inside : (i : ℕ) → i < n₁ → at clauses₁ i + 1 < length words₁
      places_inside i q =
          let r = collect_ready in
          let a = r.used in
          let b = used_fewer in
          let e : length words₁ ≡ length words = ap length w ∙ length_fill words s.words all a (omega arith) in
          let f : at clauses₁ i ≡ at new i = ap (λ (l : List ℕ). at l i) c ∙ at_fill_in clauses n new i (omega arith) in
          let g = new_within i (omega arith) in
          omega arith

      pub tiers_few : (t : ℕ) → t < 4 → length (of_tier words₁ t (take n₁ clauses₁)) ≤ at s.tiers t
      tiers_few t q = rw (w, places) (tier_few t q)

    -- ---- the writes, put together
    module _ (q : s.words < s.garbage * 2) (words₁ clauses₁ reasons₁ : List ℕ) (tiers₁ : List (List ℕ)) (used₁ n₁ : ℕ) (lens₁ : List ℕ)
        (w : words₁ ≡ u) (c : clauses₁ ≡ fill clauses n new) (x : used₁ ≡ length all) (y : n₁ ≡ length new)
        (r : reasons₁ ≡ redirected_all words host.values host.kinds 0 (take n clauses) host.reasons)
        (b : tiers₁ ≡ fill_each k.tiers s.tiers (by_tier words₁ (take n₁ clauses₁))) (m : lens₁ ≡ lengths (by_tier words₁ (take n₁ clauses₁))) where
      tiers_are : by_tier words₁ (take n₁ clauses₁) ≡ by_tier u new
      tiers_are = ap₂ by_tier w (places words₁ clauses₁ n₁ w c y)

      reasons_are : reasons₁ ≡ fold_list (followed (side host) (undeleted words (take n clauses)) new) host.reasons (take host.assigned host.trail)
      unfolding view side
      reasons_are =
          let z = collect_ready in
          let hp = host_judged five_lists_host k j in
          r ∙ reasons_follow h z.laid (side_pass five_lists_host h hp refl) (reasons_pass five_lists_host h hp refl) z.values z.reasons

      closed_laid : with_tier_buffers tiers₁ (lent_five (state_of s.vars used₁ n₁ lens₁ s.recorded s.counts 0 s.binary s.activity) words₁ clauses₁ [] [] [] [] (host_of host.values host.kinds reasons₁ host.levels host.trail host.assigned host.level))
          ≡ lay five_lists_host k (closed_up h)
      unfolding lay lay_state lay_host view side closed_up host_followed
      closed_laid = λ i. record {
        state = record { vars = s.vars; words = x i; clauses = y i; tiers = (m ∙ ap lengths tiers_are) i; recorded = s.recorded; counts = s.counts; garbage = 0; binary = s.binary; activity = s.activity };
        words = w i;
        clauses = c i;
        tiers = (b ∙ ap (fill_each k.tiers s.tiers) tiers_are) i;
        rows = [];
        counts = [];
        rec = [];
        host = record {
          values = host.values;
          kinds = host.kinds;
          reasons = reasons_are i;
          levels = host.levels;
          trail = sym (fill_same host.trail host.assigned collect_ready.trail) i;
          assigned = sym (length-take-le host.assigned host.trail collect_ready.trail) i;
          level = host.level;
        };
      }

      pub collect_laid : with_tier_buffers tiers₁ (lent_five (state_of s.vars used₁ n₁ lens₁ s.recorded s.counts 0 s.binary s.activity) words₁ clauses₁ [] [] [] [] (host_of host.values host.kinds reasons₁ host.levels host.trail host.assigned host.level))
          ≡ lay five_lists_host k (collected h)
      unfolding collected
      collect_laid = closed_laid ∙ ap (λ (a : Bool). lay five_lists_host k (cond a (closed_up h) h)) (is_due q)
