-- Reducing locals, on what is lent. Assumes nothing.
use mathlib.Core.Path.{◌≡◌, refl, sym, ap, ap₂, ◌∙◌, subst}
use mathlib.Core.Bool.{not}
use mathlib.Core.List.{List, [], ◌∷◌, ◌++◌}
use Prim.Native.Nat.{ℕ, ◌-◌, ◌/◌, ◌^◌, ◌≤◌}
use native.Mathlib.Omega.{arith}
use lib.ListN.{length, get_or, set, take, drop, replicate, length-append}
use lib.Seq.{sets, length-take-le, take_at, drop_at}
use lib.Dec.{eqb}
use Rattle.laws.specs.Fold.{fold_list}
use Rattle.laws.specs.Lists.{at, list_at, lengths, take_each, fill, fill_each, sort_by}
use Rattle.laws.proofs.Fills.{fill_same}
use Rattle.laws.proofs.Walks.{drop_more}
use Rattle.laws.proofs.SortLengths.{length_sort}
use Rattle.laws.proofs.Entries.{elem_index}
use Rattle.laws.proofs.Distinct.{sort_in, distinct_sort}
use Rattle.kinds.specs.Lent.{Lent, Host, lent, with_tier_buffers}
use Rattle.kinds.specs.Layout.{view, side, lay, lay_state, lay_host}
use Rattle.kinds.specs.Setters.{state_of}
use Rattle.kinds.specs.declared.State.{State}
use Rattle.kinds.proofs.TierLayout.{Within}
use Rattle.calls.specs.Call.{reduce_locals, parts, five_lists_record_host}
use Rattle.calls.specs.Reducing.{kept_first, cleaned_tier, sort_key, sorted_locals, Round, to_strike, locals_round, locals_reduced, locals_struck}
use Rattle.calls.specs.Outcome.{judged, has_room, step, own_number}
use Rattle.calls.proofs.Laws.{has_room_lem}
use Rattle.calls.proofs.Judged.{HostSized, sizes_judged, words_sized_lem, clauses_sized, tier_sized_lem, record_sized_lem, host_sized_lem, levels_long, record_fits}
use Rattle.calls.proofs.Unchanged.{tiers_within}
use Rattle.passing.proofs.Store.{Store}
use Rattle.passing.proofs.Reduce.{Ready}
use Rattle.sort.specs.Refs.{Refs}
use Rattle.dedup.specs.Marks.{Entries, Kept}
use Rattle.reduce_steps.proofs.Fours.{used_part, local_fills, local_lengths, fill_kept, fill_grown}
use Rattle.reduce_steps.proofs.Cleaned.{kept_ready, kept_distinct, entries, live_ends}
use Rattle.reduce_steps.proofs.Passing.{store_lent}
use Rattle.reduce_steps.proofs.Purging.{locals_now, round_now, Purge, Begun, purge_start, purge_end}

-- what the code stands on
pub record LocalsReady (s : State) (words clauses irred core mid local rec : List ℕ) (host : Host) : Type 0 where
  pub words_most : length words ≤ 2 ^ 24
  pub words_used : s.words ≤ length words
  pub listed : s.clauses ≤ length clauses
  pub local_used : at s.tiers 3 ≤ length local
  pub local_most : length local ≤ 2 ^ 22
  pub rec_used : s.recorded ≤ length rec
  pub rec_most : length rec ≤ 2 ^ 24
  pub tiers : Within s.tiers (irred ∷ core ∷ mid ∷ local ∷ [])
  pub entries : Entries words 3 (take (at s.tiers 3) local)
  pub sides : HostSized s.vars host
  pub levels : length host.levels ≡ s.vars
  pub room : length (locals_round (view (lent s words clauses irred core mid local [] [] rec host))).held.rec ≤ length rec

pub same_words : (s : State) (words clauses irred core mid local rec : List ℕ) (host : Host) → length (view (lent s words clauses irred core mid local [] [] rec host)).words ≡ length words
unfolding view
same_words s words clauses irred core mid local rec host = refl

pub same_vars : (s : State) (words clauses irred core mid local rec : List ℕ) (host : Host) → (view (lent s words clauses irred core mid local [] [] rec host)).vars ≡ s.vars
unfolding view
same_vars s words clauses irred core mid local rec host = refl

pub same_used : (s : State) (words clauses irred core mid local rec : List ℕ) (host : Host) → (view (lent s words clauses irred core mid local [] [] rec host)).used ≡ s.words
unfolding view
same_used s words clauses irred core mid local rec host = refl

lay_locals : (s : State) (words clauses irred core mid local rec : List ℕ) (host : Host) (words₁ counts₁ : List ℕ) (garbage recorded : ℕ) (rec₁ l lens r : List ℕ) (bufs : List (List ℕ)) → s.clauses ≤ length clauses → host.assigned ≤ length host.trail
    → lens ≡ lengths (list_at (take_each s.tiers (irred ∷ core ∷ mid ∷ local ∷ [])) 0 ∷ list_at (take_each s.tiers (irred ∷ core ∷ mid ∷ local ∷ [])) 1 ∷ list_at (take_each s.tiers (irred ∷ core ∷ mid ∷ local ∷ [])) 2 ∷ l ∷ [])
    → bufs ≡ fill_each (irred ∷ core ∷ mid ∷ local ∷ []) s.tiers (list_at (take_each s.tiers (irred ∷ core ∷ mid ∷ local ∷ [])) 0 ∷ list_at (take_each s.tiers (irred ∷ core ∷ mid ∷ local ∷ [])) 1 ∷ list_at (take_each s.tiers (irred ∷ core ∷ mid ∷ local ∷ [])) 2 ∷ l ∷ [])
    → recorded ≡ length r → rec₁ ≡ fill rec s.recorded r
    → with_tier_buffers bufs (lent (state_of s.vars s.words s.clauses lens recorded counts₁ garbage s.binary s.activity) words₁ clauses [] [] [] [] [] [] rec₁ host)
    ≡ lay five_lists_record_host (lent s words clauses irred core mid local [] [] rec host) (locals_now (view (lent s words clauses irred core mid local [] [] rec host)) words₁ counts₁ garbage r l)
unfolding lay lay_state lay_host view side
lay_locals s words clauses irred core mid local rec host words₁ counts₁ garbage recorded rec₁ l lens r bufs b t n e p q = λ i. record {
  state = record { vars = s.vars; words = s.words; clauses = sym (length-take-le s.clauses clauses b) i; tiers = n i; recorded = p i; counts = counts₁; garbage = garbage; binary = s.binary; activity = s.activity };
  words = words₁;
  clauses = sym (fill_same clauses s.clauses b) i;
  tiers = e i;
  rows = [];
  counts = [];
  rec = q i;
  host = record {
    values = host.values;
    kinds = host.kinds;
    reasons = host.reasons;
    levels = host.levels;
    trail = sym (fill_same host.trail host.assigned t) i;
    assigned = sym (length-take-le host.assigned host.trail t) i;
    level = host.level;
  };
}

module _ (s : State) (words clauses irred core mid local rec : List ℕ) (host : Host) (four : length s.tiers ≡ 4) (counts : length s.counts ≡ 4) where
  abbrev k : Lent
  k = lent s words clauses irred core mid local [] [] rec host

  module _ (j : judged five_lists_record_host k ≡ 0) where
    within : Within s.tiers k.tiers
    within = tiers_within five_lists_record_host k (sizes_judged five_lists_record_host k j) refl four refl

    store : Store (view k).vars (view k).words (view k).used (view k).clauses (view k).counts (view k).garbage (view k).tiers []
    store = store_lent five_lists_record_host k refl four counts refl refl j

    local_part : list_at (view k).tiers 3 ≡ take (at s.tiers 3) local
    unfolding view
    local_part = used_part s.tiers k.tiers within 3 (omega arith)

    pub locals_ready : own_number reduce_locals k ≡ 0 → LocalsReady s words clauses irred core mid local rec host
    unfolding has_room step parts view
    locals_ready q =
        let z = sizes_judged five_lists_record_host k j in
        let w = words_sized_lem five_lists_record_host k z refl in
        let l = clauses_sized five_lists_record_host k z refl in
        let n = tier_sized_lem five_lists_record_host k z refl 3 (omega arith) in
        let r = record_sized_lem five_lists_record_host k z refl in
        record {
          words_most = w.most;
          words_used = w.used;
          listed = l.used;
          local_used = n.used;
          local_most = n.most;
          rec_used = r.used;
          rec_most = r.most;
          tiers = within;
          entries = subst (λ (x : List ℕ). Entries words 3 x) local_part (entries store 3 (omega arith));
          sides = host_sized_lem five_lists_record_host k z refl;
          levels = levels_long five_lists_record_host k z refl;
          room = record_fits five_lists_record_host k (locals_reduced (view k)) (has_room_lem reduce_locals k q) refl;
        }

    -- stale and repeated entries are dropped: local₁ holds the n that stay, words₁ are the words
    module _ {local₁ words₁ : List ℕ} {n : ℕ} (e : Kept words 3 (at s.tiers 3) local local₁ n) (same : words₁ ≡ words) (long : length local₁ ≡ length local) (used : at s.tiers 3 ≤ length local) where
      fits : n ≤ length local₁
      fits = omega arith

      cleaned : take n local₁ ≡ cleaned_tier 3 (view k)
      unfolding view cleaned_tier
      cleaned = e.kept ∙ ap (fold_list (kept_first words 3) []) (sym local_part)

      ready : Ready words (view k).clauses 3 (take n local₁)
      unfolding view cleaned_tier
      ready = subst (λ (os : List ℕ). Ready words (view k).clauses 3 os) (sym cleaned) (kept_ready store 3 (omega arith))

      pub references : Refs words₁ (take n local₁)
      unfolding view
      references i h = let a = ready (get_or (take n local₁) i 0) (elem_index (take n local₁) i h) in let b = live_ends store (get_or (take n local₁) i 0) a.0 in let z = ap length same in omega arith

      -- sorted
      module _ {local₂ : List ℕ} (f : local₂ ≡ sort_by (sort_key words₁) (take n local₁) ++ drop n local₁) where
        sorted_length : length (sort_by (sort_key words₁) (take n local₁)) ≡ n
        sorted_length = length_sort (sort_key words₁) (take n local₁) ∙ length-take-le n local₁ fits

        sorted : take n local₂ ≡ sorted_locals (view k)
        unfolding sorted_locals view
        sorted =
            ap (take n) f
            ∙ take_at (sort_by (sort_key words₁) (take n local₁)) (drop n local₁) n sorted_length
            ∙ ap₂ (λ (w os : List ℕ). sort_by (sort_key w) os) same cleaned

        pub rest_kept : drop (at s.tiers 3) local₂ ≡ drop (at s.tiers 3) local
        rest_kept = drop_more n (at s.tiers 3) local₂ local₁ e.few (ap (drop n) f ∙ drop_at (sort_by (sort_key words₁) (take n local₁)) (drop n local₁) n sorted_length) ∙ e.rest

        pub half : to_strike (view k) ≡ n / 2
        unfolding to_strike
        half = ap (λ (x : ℕ). x / 2) (ap length (sym sorted) ∙ length-take-le n local₂ long₂)
          where
            long₂ : n ≤ length local₂
            long₂ = let a = ap length f in let b = length-append (sort_by (sort_key words₁) (take n local₁)) (drop n local₁) in let c = sorted_length in omega arith

        pub locals_begin : length local₂ ≡ length local₁ → s.recorded ≤ length rec → length (locals_round (view k)).held.rec ≤ length rec → Begun (view k) n local₂ rec words₁ s.counts s.recorded s.garbage (n / 2) host.values host.kinds host.reasons
        unfolding view side sorted_locals cleaned_tier
        locals_begin b r room = record {
          begins = subst (λ (w : List ℕ). Purge (view k) n local₂ rec w local₂ rec s.counts 0 0 s.recorded s.garbage (n / 2)) (sym same)
              (purge_start (view k) n local₂ rec store sorted
              (λ x m. kept_ready store 3 (omega arith) x (sort_in (sort_key words) x (cleaned_tier 3 (view k)) m))
              (distinct_sort (sort_key words) (cleaned_tier 3 (view k)) (kept_distinct store 3 (omega arith)))
              s.recorded r refl half);
          fit = let a = fits in omega arith;
          room = room;
          values_held = refl;
          kinds_held = refl;
          reasons_held = refl;
        }

  -- ---- the writes, put together
  module _ (r : LocalsReady s words clauses irred core mid local rec host) {n : ℕ} {local₂ words₁ local₃ rec₁ counts₁ : List ℕ} {i kept recorded garbage left : ℕ}
      (few : n ≤ at s.tiers 3) (long : length local₂ ≡ length local) (behind : drop (at s.tiers 3) local₂ ≡ drop (at s.tiers 3) local)
      (I : Purge (view k) n local₂ rec words₁ local₃ rec₁ counts₁ i kept recorded garbage left) (end : n ≤ i)
      {local₄ : List ℕ} (cleared : local₄ ≡ sets local₃ kept (replicate (at s.tiers 3 - kept) 0)) where
    abbrev l : List ℕ
    l = take kept local₃

    kept_few : kept ≤ at s.tiers 3
    kept_few = omega arith

    l_length : length l ≡ kept
    l_length = let b = kept_few in length-take-le kept local₃ (omega arith)

    local_filled : local₄ ≡ fill local (at s.tiers 3) l
    local_filled =
        cleared ∙ fill_kept local local₃ (at s.tiers 3) kept kept_few (omega arith) (drop_more i (at s.tiers 3) local₃ local₂ (omega arith) I.ahead ∙ behind)

    rec_long : recorded ≡ length (take recorded rec₁)
    rec_long = sym (length-take-le recorded rec₁ (omega arith))

    rec_filled : rec₁ ≡ fill rec s.recorded (take recorded rec₁)
    unfolding view
    rec_filled =
        let c : length (take s.recorded rec) ≤ recorded = I.rec_from in
        let d = length-take-le s.recorded rec r.rec_used in
        fill_grown rec rec₁ s.recorded recorded (omega arith) (omega arith) I.behind

    ended : round_now (view k) left words₁ counts₁ garbage (take recorded rec₁) l ≡ locals_round (view k)
    ended = purge_end (omega arith) I end

    pub locals_laid : lent (state_of s.vars s.words s.clauses (set s.tiers 3 kept) recorded counts₁ garbage s.binary s.activity) words₁ clauses irred core mid local₄ [] [] rec₁ host
        ≡ lay five_lists_record_host k (locals_reduced (view k))
    locals_laid =
        lay_locals s words clauses irred core mid local rec host words₁ counts₁ garbage recorded rec₁ l (set s.tiers 3 kept) (take recorded rec₁) (irred ∷ core ∷ mid ∷ local₄ ∷ []) r.listed r.sides.assigned
        (ap (λ (x : ℕ). set s.tiers 3 x) (sym l_length) ∙ local_lengths s.tiers irred core mid local l r.tiers)
        (ap (λ (x : List ℕ). irred ∷ core ∷ mid ∷ x ∷ []) local_filled ∙ local_fills s.tiers irred core mid local l r.tiers)
        rec_long rec_filled
        ∙ ap (λ (x : Round). lay five_lists_record_host k x.held) ended

    pub locals_flag : {m : ℕ} → to_strike (view k) ≡ m → not (eqb left m) ≡ locals_struck (view k)
    unfolding locals_struck
    locals_flag e = ap₂ (λ (x : ℕ) (y : ℕ). not (eqb x y)) (ap (λ (x : Round). x.left) ended) (sym e)
