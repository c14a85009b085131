-- Setting a clause's tier, on what is lent. Assumes nothing.
use mathlib.Core.Path.{◌≡◌, refl, sym, ap, ◌∙◌, subst}
use mathlib.Core.Bool.{Bool, true, cond}
use mathlib.Core.List.{List, [], ◌∷◌}
use Prim.Native.Nat.{ℕ, ◌+◌, ◌-◌, ◌^◌, ◌≤◌, ◌<◌}
use native.Mathlib.Omega.{arith}
use lib.ListN.{length, set, take}
use lib.Seq.{length-take-le, get_or-set_other}
use borrow.Author.Tests.{eq-eqb, ne_eqb}
use Rattle.laws.specs.Lists.{at, list_at, more, less, push, lengths, take_each, fill_each}
use Rattle.laws.proofs.Folds.{count_le}
use Rattle.laws.proofs.Fills.{fill_same}
use Rattle.kinds.specs.Header.{with_tier}
use Rattle.kinds.specs.Clauses.{head_at, tier_at, end_at}
use Rattle.kinds.specs.Lent.{Lent, lent_five, no_host, with_tier_buffers}
use Rattle.kinds.specs.Held.{Held}
use Rattle.kinds.specs.Layout.{view, side, lay, lay_state, lay_host}
use Rattle.kinds.specs.Setters.{state_of}
use Rattle.kinds.specs.declared.State.{State}
use Rattle.calls.specs.Call.{set_tier, parts, five_lists}
use Rattle.calls.specs.StorePasses.{live_in}
use Rattle.calls.specs.Adding.{moved_to, tier_set}
use Rattle.calls.specs.Refusing.{own}
use Rattle.calls.specs.Outcome.{judged, refused_for, has_room, step, own_number}
use Rattle.calls.proofs.Laws.{not_refused, has_room_lem}
use Rattle.calls.proofs.Readings.{words_pass_lem, held_words}
use Rattle.calls.proofs.Judged.{sizes_judged, store_judged, words_sized_lem, clauses_sized, tier_sized_lem, tier_fits}
use Rattle.calls.proofs.Given.{first_not, others_not, tier_right, live_right}
use Rattle.calls.proofs.Live.{live_there}
use Rattle.calls.proofs.Unchanged.{unchanged}
use Rattle.db_steps.proofs.Long.{grown}

pub record TierReady (s : State) (words clauses irred core mid local : List ℕ) (o t : ℕ) : Type 0 where
  pub tier : t < 4
  pub inside : o + 3 ≤ length words
  pub used : (u : ℕ) → u < 4 → at s.tiers u ≤ length (list_at (irred ∷ core ∷ mid ∷ local ∷ []) u)
  pub room : (tier_at words o ≡ t → ⊥) → at s.tiers t < length (list_at (irred ∷ core ∷ mid ∷ local ∷ []) t)
  pub counted : 0 < at s.counts (tier_at words o)
  pub count : at s.counts t ≤ 2 ^ 22
  pub listed : s.clauses ≤ length clauses

pub set_same : (t o : ℕ) (h : Held) → tier_at h.words o ≡ t → tier_set t o h ≡ h
unfolding tier_set
set_same t o h e = ap (λ (b : Bool). cond b h (moved_to t o h)) (eq-eqb _ _ e)

pub set_other : (t o : ℕ) (h : Held) → (tier_at h.words o ≡ t → ⊥) → tier_set t o h ≡ moved_to t o h
unfolding tier_set
set_other t o h e = ap (λ (b : Bool). cond b h (moved_to t o h)) (ne_eqb _ _ e)

module _ (s : State) (words clauses irred core mid local : List ℕ) (o t : ℕ) (four : length s.tiers ≡ 4) where
  abbrev k : Lent
  k = lent_five s words clauses irred core mid local no_host

  room_there : has_room (set_tier o t) k ≡ true → t < 4 → ((u : ℕ) → u < 4 → at s.tiers u ≤ length (list_at k.tiers u)) → (tier_at words o ≡ t → ⊥) → at s.tiers t < length (list_at k.tiers t)
  unfolding has_room step parts view moved_to
  room_there r h used n =
      let f : length (list_at (push t o (take_each s.tiers k.tiers)) t) ≤ length (list_at k.tiers t) =
      subst (λ (x : Held). length (list_at x.tiers t) ≤ length (list_at k.tiers t)) (set_other t o (view k) n) (tier_fits five_lists k (tier_set t o (view k)) r refl t h) in
      let g = grown s words clauses irred core mid local four t o h used in
      omega arith

  pub tier_ready : judged five_lists k ≡ 0 → own_number (set_tier o t) k ≡ 0 → TierReady s words clauses irred core mid local o t
  unfolding view refused_for own
  tier_ready j q =
      let z = sizes_judged five_lists k j in
      let n = not_refused (set_tier o t) k q in
      let w = words_sized_lem five_lists k z refl in
      let l = clauses_sized five_lists k z refl in
      let tier = tier_right t (first_not 5 _ _ (λ e. omega arith) n) in
      let live = live_right (view k) o (first_not 6 _ _ (λ e. omega arith) (others_not 5 _ _ (λ e. omega arith) n)) in
      let pass = words_pass_lem five_lists (view k) (store_judged five_lists k j) refl in
      let there = live_there (view k) o pass live in
      let p = held_words (view k) pass in
      let used : (u : ℕ) → u < 4 → at s.tiers u ≤ length (list_at k.tiers u) = λ u h. (tier_sized_lem five_lists k z refl u h).used in
      let ends : end_at words o ≤ s.words = there.ends in
      let in_words : s.words ≤ length words = w.used in
      let ct : at s.counts t ≡ _ = p.counts t tier in
      let most = count_le (live_in words (take s.clauses clauses) t) (length (take s.clauses clauses)) in
      let len : length (take s.clauses clauses) ≡ s.clauses = length-take-le s.clauses clauses l.used in
      let lm : length clauses ≤ 2 ^ 22 = l.most in
      let lu : s.clauses ≤ length clauses = l.used in
      record {
        tier = tier;
        inside = omega arith;
        used = used;
        room = room_there (has_room_lem (set_tier o t) k q) tier used;
        counted = there.counted;
        count = omega arith;
        listed = l.used;
      }

  -- an equal tier
  pub tier_kept : judged five_lists k ≡ 0 → tier_at words o ≡ t → k ≡ lay five_lists k (tier_set t o (view k))
  unfolding view
  tier_kept j e = sym (unchanged five_lists k refl four (sizes_judged five_lists k j)) ∙ ap (lay five_lists k) (sym (set_same t o (view k) e))

  -- another one: old is the tier that was read
  module _ (r : TierReady s words clauses irred core mid local o t) (old : ℕ) (eo : old ≡ tier_at words o) (n : old ≡ t → ⊥) (words₁ : List ℕ) (tiers₁ : List (List ℕ)) (lens₁ : List ℕ)
      (w : words₁ ≡ set words (o + 1) (with_tier t (head_at words o)))
      (b : tiers₁ ≡ fill_each k.tiers s.tiers (push t o (take_each s.tiers k.tiers))) (l : lens₁ ≡ lengths (push t o (take_each s.tiers k.tiers))) where
    moved_laid : with_tier_buffers tiers₁ (lent_five (state_of s.vars s.words s.clauses lens₁ s.recorded (more t (less old s.counts)) s.garbage s.binary s.activity) words₁ clauses [] [] [] [] no_host)
        ≡ lay five_lists k (moved_to t o (view k))
    unfolding lay lay_state lay_host view side moved_to
    moved_laid = λ i. record {
      state = record { vars = s.vars; words = s.words; clauses = sym (length-take-le s.clauses clauses r.listed) i; tiers = l i; recorded = s.recorded; counts = more t (less (eo i) s.counts); garbage = s.garbage; binary = s.binary; activity = s.activity };
      words = w i;
      clauses = sym (fill_same clauses s.clauses r.listed) i;
      tiers = b i;
      rows = [];
      counts = [];
      rec = [];
      host = no_host;
    }

    pub tier_laid : with_tier_buffers tiers₁ (lent_five (state_of s.vars s.words s.clauses lens₁ s.recorded (more t (less old s.counts)) s.garbage s.binary s.activity) words₁ clauses [] [] [] [] no_host)
        ≡ lay five_lists k (tier_set t o (view k))
    unfolding view
    tier_laid = moved_laid ∙ ap (lay five_lists k) (sym (set_other t o (view k) (λ e. n (eo ∙ e))))

-- the count of another tier stays while one is taken from the old
pub other_count : (counts : List ℕ) (old t m : ℕ) → (old ≡ t → ⊥) → at counts t ≤ m → at (less old counts) t ≤ m
other_count counts old t m n h = subst (λ (x : ℕ). x ≤ m) (sym (get_or-set_other counts old t (at counts old - 1) 0 (λ e. n (sym e)))) h
