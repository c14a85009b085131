-- Reducing mids, on what is lent. Assumes nothing.
use mathlib.Core.Path.{◌≡◌, refl, sym, ap, ap₂, ◌∙◌, subst}
use mathlib.Core.List.{List, [], ◌∷◌}
use Prim.Native.Nat.{ℕ, ◌-◌, ◌^◌, ◌≤◌, ◌<◌}
use native.Mathlib.Omega.{arith}
use lib.ListN.{length, set, take, drop, replicate}
use lib.Seq.{sets, length-take-le}
use Rattle.laws.specs.Fold.{fold_list}
use Rattle.laws.specs.Lists.{at, list_at, lengths, take_each, fill, fill_each}
use Rattle.laws.proofs.Fills.{fill_same}
use Rattle.laws.proofs.Walks.{drop_more}
use Rattle.kinds.specs.Lent.{Lent, lent_five, no_host, with_tier_buffers}
use Rattle.kinds.specs.Layout.{view, side, lay, lay_state, lay_host}
use Rattle.kinds.specs.Setters.{state_of}
use Rattle.kinds.specs.declared.State.{State}
use Rattle.kinds.proofs.TierLayout.{Within}
use Rattle.calls.specs.Call.{reduce_mids, parts, five_lists}
use Rattle.calls.specs.Reducing.{kept_first, cleaned_tier, mids_reduced}
use Rattle.calls.specs.Outcome.{judged, has_room, step, own_number}
use Rattle.calls.proofs.Laws.{has_room_lem}
use Rattle.calls.proofs.Judged.{sizes_judged, words_sized_lem, clauses_sized, tier_sized_lem, tier_fits}
use Rattle.calls.proofs.Unchanged.{tiers_within}
use Rattle.passing.proofs.Store.{Store}
use Rattle.dedup.specs.Marks.{Entries, Kept}
use Rattle.reduce_steps.proofs.Fours.{used_part, four_fills, four_lengths, fill_kept, fill_grown}
use Rattle.reduce_steps.proofs.Cleaned.{kept_ready, kept_distinct, entries, counts_most}
use Rattle.reduce_steps.proofs.Passing.{store_lent}
use Rattle.reduce_steps.proofs.Sweeping.{mids_now, Sweep, sweep_start, sweep_end}

-- what the code stands on
pub record MidsReady (s : State) (words clauses irred core mid local : List ℕ) : Type 0 where
  pub words_most : length words ≤ 2 ^ 24
  pub listed : s.clauses ≤ length clauses
  pub clauses_most : length clauses ≤ 2 ^ 22
  pub mid_used : at s.tiers 2 ≤ length mid
  pub mid_most : length mid ≤ 2 ^ 22
  pub local_used : at s.tiers 3 ≤ length local
  pub local_most : length local ≤ 2 ^ 22
  pub tiers : Within s.tiers (irred ∷ core ∷ mid ∷ local ∷ [])
  pub entries : Entries words 2 (take (at s.tiers 2) mid)
  pub room : length (list_at (mids_reduced (view (lent_five s words clauses irred core mid local no_host))).tiers 3) ≤ length local

pub same_words : (s : State) (words clauses irred core mid local : List ℕ) → length (view (lent_five s words clauses irred core mid local no_host)).words ≡ length words
unfolding view
same_words s words clauses irred core mid local = refl

lay_mids : (s : State) (words clauses irred core mid local words₁ counts₁ m l lens : List ℕ) (bufs : List (List ℕ)) → s.clauses ≤ length clauses
    → lens ≡ lengths (list_at (take_each s.tiers (irred ∷ core ∷ mid ∷ local ∷ [])) 0 ∷ list_at (take_each s.tiers (irred ∷ core ∷ mid ∷ local ∷ [])) 1 ∷ m ∷ l ∷ [])
    → bufs ≡ fill_each (irred ∷ core ∷ mid ∷ local ∷ []) s.tiers (list_at (take_each s.tiers (irred ∷ core ∷ mid ∷ local ∷ [])) 0 ∷ list_at (take_each s.tiers (irred ∷ core ∷ mid ∷ local ∷ [])) 1 ∷ m ∷ l ∷ [])
    → with_tier_buffers bufs (lent_five (state_of s.vars s.words s.clauses lens s.recorded counts₁ s.garbage s.binary s.activity) words₁ clauses [] [] [] [] no_host)
    ≡ lay five_lists (lent_five s words clauses irred core mid local no_host) (mids_now (view (lent_five s words clauses irred core mid local no_host)) words₁ counts₁ m l)
unfolding lay lay_state lay_host view side
lay_mids s words clauses irred core mid local words₁ counts₁ m l lens bufs b n e = λ i. record {
  state = record { vars = s.vars; words = s.words; clauses = sym (length-take-le s.clauses clauses b) i; tiers = n i; recorded = s.recorded; counts = counts₁; garbage = s.garbage; binary = s.binary; activity = s.activity };
  words = words₁;
  clauses = sym (fill_same clauses s.clauses b) i;
  tiers = e i;
  rows = [];
  counts = [];
  rec = [];
  host = no_host;
}

module _ (s : State) (words clauses irred core mid local : List ℕ) (four : length s.tiers ≡ 4) (counts : length s.counts ≡ 4) where
  abbrev k : Lent
  k = lent_five s words clauses irred core mid local no_host

  module _ (j : judged five_lists k ≡ 0) where
    within : Within s.tiers k.tiers
    within = tiers_within five_lists k (sizes_judged five_lists k j) refl four refl

    store : Store (view k).vars (view k).words (view k).used (view k).clauses (view k).counts (view k).garbage (view k).tiers []
    store = store_lent five_lists k refl four counts refl refl j

    mid_part : list_at (view k).tiers 2 ≡ take (at s.tiers 2) mid
    unfolding view
    mid_part = used_part s.tiers k.tiers within 2 (omega arith)

    local_part : list_at (view k).tiers 3 ≡ take (at s.tiers 3) local
    unfolding view
    local_part = used_part s.tiers k.tiers within 3 (omega arith)

    pub mids_ready : own_number reduce_mids k ≡ 0 → MidsReady s words clauses irred core mid local
    unfolding has_room step parts view
    mids_ready q =
        let z = sizes_judged five_lists k j in
        let w = words_sized_lem five_lists k z refl in
        let l = clauses_sized five_lists k z refl in
        let m = tier_sized_lem five_lists k z refl 2 (omega arith) in
        let n = tier_sized_lem five_lists k z refl 3 (omega arith) in
        record {
          words_most = w.most;
          listed = l.used;
          clauses_most = l.most;
          mid_used = m.used;
          mid_most = m.most;
          local_used = n.used;
          local_most = n.most;
          tiers = within;
          entries = subst (λ (x : List ℕ). Entries words 2 x) mid_part (entries store 2 (omega arith));
          room = tier_fits five_lists k (mids_reduced (view k)) (has_room_lem reduce_mids k q) refl 3 (omega arith);
        }

    -- stale and repeated entries are dropped: mid₁ holds the n that stay, words₁ are the words
    pub mids_begin : {mid₁ words₁ : List ℕ} {n : ℕ} → Kept words 2 (at s.tiers 2) mid mid₁ n → words₁ ≡ words → at s.tiers 3 ≤ length local → Sweep (view k) n mid₁ local words₁ mid₁ local s.counts 0 0 (at s.tiers 3)
    unfolding view cleaned_tier
    mids_begin {mid₁} {words₁} {n} e q b =
        subst (λ (w : List ℕ). Sweep (view k) n mid₁ local w mid₁ local s.counts 0 0 (at s.tiers 3)) (sym q)
        (sweep_start (view k) n mid₁ local store (e.kept ∙ ap (fold_list (kept_first words 2) []) (sym mid_part)) (kept_ready store 2 (omega arith)) (kept_distinct store 2 (omega arith)) (at s.tiers 3) b local_part)

    pub counts_few : {mid₁ words₁ mid₂ local₁ counts₁ : List ℕ} {n i kept locals : ℕ} → Sweep (view k) n mid₁ local words₁ mid₂ local₁ counts₁ i kept locals → s.clauses ≤ length clauses → (t : ℕ) → t < 4 → at counts₁ t ≤ s.clauses
    unfolding view
    counts_few I b t h = let a = counts_most I.store t h in let c = length-take-le s.clauses clauses b in omega arith

  -- ---- the writes, put together
  module _ (r : MidsReady s words clauses irred core mid local) {n : ℕ} {mid₁ words₁ mid₂ local₁ counts₁ : List ℕ} {i kept locals : ℕ}
      (e : Kept words 2 (at s.tiers 2) mid mid₁ n) (long : length mid₁ ≡ length mid) (I : Sweep (view k) n mid₁ local words₁ mid₂ local₁ counts₁ i kept locals) (end : n ≤ i)
      {mid₃ : List ℕ} (cleared : mid₃ ≡ sets mid₂ kept (replicate (at s.tiers 2 - kept) 0)) where
    abbrev m : List ℕ
    m = take kept mid₂

    abbrev l : List ℕ
    l = take locals local₁

    kept_few : kept ≤ at s.tiers 2
    kept_few = omega arith

    m_length : length m ≡ kept
    m_length = let b = kept_few in length-take-le kept mid₂ (omega arith)

    l_length : length l ≡ locals
    l_length = length-take-le locals local₁ (omega arith)

    mid_filled : mid₃ ≡ fill mid (at s.tiers 2) m
    mid_filled =
        cleared ∙ fill_kept mid mid₂ (at s.tiers 2) kept kept_few (omega arith)
        (beyond e.few I.i_le I.ahead ∙ e.rest)
      where
        beyond : n ≤ at s.tiers 2 → i ≤ n → drop i mid₂ ≡ drop i mid₁ → drop (at s.tiers 2) mid₂ ≡ drop (at s.tiers 2) mid₁
        beyond p q z = drop_more i (at s.tiers 2) mid₂ mid₁ (omega arith) z

    local_filled : list_at (view k).tiers 3 ≡ take (at s.tiers 3) local → local₁ ≡ fill local (at s.tiers 3) l
    local_filled part =
        let d = ap length part in
        let f = length-take-le (at s.tiers 3) local r.local_used in
        fill_grown local local₁ (at s.tiers 3) locals (omega arith) (omega arith) I.behind

    pub mids_laid : judged five_lists k ≡ 0
        → lent_five (state_of s.vars s.words s.clauses (set (set s.tiers 2 kept) 3 locals) s.recorded counts₁ s.garbage s.binary s.activity) words₁ clauses irred core mid₃ local₁ no_host
        ≡ lay five_lists k (mids_reduced (view k))
    mids_laid j = laid ∙ ap (lay five_lists k) (sweep_end (omega arith) I end)
      where
        lens : set (set s.tiers 2 kept) 3 locals ≡ lengths (list_at (take_each s.tiers k.tiers) 0 ∷ list_at (take_each s.tiers k.tiers) 1 ∷ m ∷ l ∷ [])
        lens = ap₂ (λ (x y : ℕ). set (set s.tiers 2 x) 3 y) (sym m_length) (sym l_length) ∙ four_lengths s.tiers irred core mid local m l r.tiers

        bufs : irred ∷ core ∷ mid₃ ∷ local₁ ∷ [] ≡ fill_each k.tiers s.tiers (list_at (take_each s.tiers k.tiers) 0 ∷ list_at (take_each s.tiers k.tiers) 1 ∷ m ∷ l ∷ [])
        bufs = ap₂ (λ (x y : List ℕ). irred ∷ core ∷ x ∷ y ∷ []) mid_filled (local_filled (local_part j)) ∙ four_fills s.tiers irred core mid local m l r.tiers

        laid : lent_five (state_of s.vars s.words s.clauses (set (set s.tiers 2 kept) 3 locals) s.recorded counts₁ s.garbage s.binary s.activity) words₁ clauses irred core mid₃ local₁ no_host
            ≡ lay five_lists k (mids_now (view k) words₁ counts₁ m l)
        laid = lay_mids s words clauses irred core mid local words₁ counts₁ m l (set (set s.tiers 2 kept) 3 locals) (irred ∷ core ∷ mid₃ ∷ local₁ ∷ []) r.listed lens bufs
