-- Decay, on what is lent. Assumes nothing.
use mathlib.Core.Path.{◌≡◌, refl, sym, ap, ◌∙◌}
use mathlib.Core.Bool.{Bool, true, false, cond}
use mathlib.Core.List.{List, [], ◌∷◌}
use Prim.Native.Nat.{ℕ, ◌≤◌}
use native.Mathlib.Omega.{arith}
use lib.ListN.{length, take}
use lib.Seq.{length-take-le}
use lib.Ieee.{le}
use borrow.Author.Tests.{le-leb}
use Rattle.laws.specs.Lists.{at, list_at, take_each}
use Rattle.laws.proofs.Folds.{and_both, all_of}
use Rattle.kinds.specs.Clauses.{deleted_at, undeleted}
use Rattle.kinds.specs.Floats.{limit, limit_bits}
use Rattle.kinds.specs.Lent.{Lent, lent_five, no_host}
use Rattle.kinds.specs.Held.{Held}
use Rattle.kinds.specs.Layout.{view, lay, fit, fit_tier}
use Rattle.kinds.specs.declared.State.{State}
use Rattle.kinds.proofs.RowLayout.{at_lengths}
use Rattle.kinds.proofs.TierLayout.{lengths_each}
use Rattle.calls.specs.Call.{decay, parts, five_lists}
use Rattle.calls.specs.Bumping.{rescaled, bump_grown, decayed}
use Rattle.calls.specs.Refusing.{own, lowest}
use Rattle.calls.specs.Outcome.{judged, refused_for, has_room, step, own_number}
use Rattle.calls.proofs.Judged.{sizes_judged, store_judged, words_sized_lem, clauses_sized, tier_sized_lem}
use Rattle.calls.proofs.Unchanged as unchanged
use Rattle.activity.specs.Stored.{Stored, Bounded, holding, stored}
use Rattle.activity.proofs.Ready.{tiers_within, bounded}
use Rattle.activity.proofs.Whole.{lent_with, laid_decayed}

pub undeleted_fewer : (w os : List ℕ) → length (undeleted w os) ≤ length os
unfolding undeleted
undeleted_fewer w [] = omega arith
undeleted_fewer w (o ∷ os) = go (deleted_at w o) (undeleted_fewer w os)
  where
    go : (b : Bool) → length (undeleted w os) ≤ length os → length (cond b (undeleted w os) (o ∷ undeleted w os)) ≤ length (o ∷ os)
    go true h = omega arith
    go false h = omega arith

module _ (s : State) (words clauses irred core mid local : List ℕ) (four : length s.tiers ≡ 4) where
  abbrev k : Lent
  k = lent_five s words clauses irred core mid local no_host

  module _ (j : judged five_lists k ≡ 0) where
    pub decay_ready : Bounded limit_bits words clauses s.clauses
    decay_ready = bounded five_lists k (sizes_judged five_lists k j) (store_judged five_lists k j) refl

    pub decay_laid : (st : Stored) → st ≡ stored clauses s.clauses (decayed (holding words clauses s.clauses s.activity)) → lent_with st k ≡ lay five_lists k (decayed (view k))
    decay_laid st e = ap (λ (x : Stored). lent_with x k) e ∙ laid_decayed k false (tiers_within five_lists k (sizes_judged five_lists k j) refl four refl)

    -- ---- there is always room

    list_length : (t : ℕ) → length (list_at (take_each s.tiers k.tiers) t) ≡ at s.tiers t
    list_length t = sym (at_lengths (take_each s.tiers k.tiers) t) ∙ ap (λ (l : List ℕ). at l t) (lengths_each s.tiers k.tiers (unchanged.tiers_within five_lists k (sizes_judged five_lists k j) refl four refl))

    fits : (l : List ℕ) → length l ≤ length (take s.clauses clauses) → (x : Held) → x.used ≡ s.words → x.clauses ≡ l → x.tiers ≡ take_each s.tiers k.tiers → fit five_lists k x ≡ true
    unfolding fit fit_tier
    fits l h x u c t =
        let z = sizes_judged five_lists k j in
        let w : s.words ≤ length words = (words_sized_lem five_lists k z refl).used in
        let lu : s.clauses ≤ length clauses = (clauses_sized five_lists k z refl).used in
        let lt = length-take-le s.clauses clauses lu in
        let lc : length x.clauses ≡ length l = ap length c in
        and_both _ _ (and_both _ _ (le-leb x.used (length words) (omega arith)) (le-leb (length x.clauses) (length clauses) (omega arith)))
        (and_both _ _
        (all_of (fit_tier k x) 4
        (λ i q.
        let e : length (list_at x.tiers i) ≡ at s.tiers i = ap (λ (ts : List (List ℕ)). length (list_at ts i)) t ∙ list_length i in
        let f = (tier_sized_lem five_lists k z refl i q).used in
        le-leb (length (list_at x.tiers i)) (length (list_at k.tiers i)) (omega arith)))
        refl)

    pub decay_allowed : own_number decay k ≡ 0
    unfolding own_number refused_for own lowest has_room step parts decayed rescaled view
    decay_allowed = ap (λ (b : Bool). cond {A = ℕ} b 0 11) (go (le limit (bump_grown (view k)).activity.bump))
      where
        go : (b : Bool) → fit five_lists k (cond b (rescaled (bump_grown (view k))) (bump_grown (view k))) ≡ true
        go true = fits (undeleted words (take s.clauses clauses)) (undeleted_fewer words (take s.clauses clauses)) (rescaled (bump_grown (view k))) refl refl refl
        go false = fits (take s.clauses clauses) (omega arith) (bump_grown (view k)) refl refl refl
