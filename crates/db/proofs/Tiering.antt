-- Setting a tier: each way through the call. Assumes nothing.
use mathlib.Core.Path.{◌≡◌, refl, sym, ap, ap₂, ◌∙◌, subst}
use mathlib.Core.Bool.{Bool, true, false, cond, not, ◌&&◌, ◌||◌}
use mathlib.Core.List.{List, [], ◌∷◌}
use Prim.Native.Nat.{ℕ, ◌+◌, ◌≤◌, ◌<◌}
use native.Mathlib.Omega.{arith}
use native.Mathlib.Decide.{ℕ_discrete}
use lib.ListN.{length, take}
use lib.Seq.{length-take-le, get_or-set_other}
use lib.Dec.{eqb, leb, ltb}
use borrow.Author.Tests.{le-leb, lt-leb, lt-ltb, le-ltb, eq-eqb, ne_eqb, not-true, not-false}
use Rattle.laws.specs.Fold.{all_below}
use Rattle.laws.specs.Lists.{at, list_at, snoc, push, take_each}
use Rattle.laws.proofs.Folds.{all_fails, all_of, and_both}
use Rattle.kinds.specs.Clauses.{tier_at, end_at, is_live}
use Rattle.kinds.specs.Lent.{Lent, lent_five, no_host}
use Rattle.kinds.specs.Held.{Held}
use Rattle.kinds.specs.Layout.{view, lay, fit, fit_tier}
use Rattle.kinds.specs.declared.State.{State}
use Rattle.kinds.proofs.RowLayout.{at_lengths}
use Rattle.kinds.proofs.TierLayout.{within_of, lengths_each}
use Rattle.calls.specs.Call.{Command, set_tier, parts, five_lists}
use Rattle.calls.specs.StorePasses.{placed}
use Rattle.calls.specs.Adding.{moved_to, tier_set}
use Rattle.calls.specs.Refusing.{own, lowest, tier_wrong, not_live, irred_change}
use Rattle.calls.specs.Outcome.{judged, refused_for, has_room, step, answer, or_else, own_number, done, refused, accepted, nothing}
use Rattle.calls.proofs.Judged.{sizes_judged, store_judged, words_sized_lem, clauses_sized, tier_sized_lem}
use Rattle.calls.proofs.Readings.{words_pass_lem}
use Rattle.calls.proofs.Live.{live_there}
use Rattle.judge_words.proofs.Whole.{WordsSized}
use Rattle.judge_tiers.specs.Marking.{Ready}
use Rattle.judge_tiers.proofs.Whole.{ready_of}
use Rattle.db_steps.proofs.Long.{grown}
use Rattle.db_steps.proofs.Tiering.{set_same, set_other}
use Rattle.replies.proofs.Ways.{own_way, step_way}

-- ---- 7

module _ (old t : ℕ) where
  pub equal : old ≡ t → false ≡ not (eqb old t) && (eqb t 0 || eqb old 0)
  equal e = sym (ap (λ (b : Bool). not b && (eqb t 0 || eqb old 0)) (eq-eqb old t e))

  pub into : (old ≡ t → ⊥) → t ≡ 0 → true ≡ not (eqb old t) && (eqb t 0 || eqb old 0)
  into n e = sym (ap (λ (b : Bool). not b && (eqb t 0 || eqb old 0)) (ne_eqb old t n) ∙ ap (λ (b : Bool). b || eqb old 0) (eq-eqb t 0 e))

  pub out_of : (old ≡ t → ⊥) → (t ≡ 0 → ⊥) → eqb old 0 ≡ not (eqb old t) && (eqb t 0 || eqb old 0)
  out_of n m = sym (ap (λ (b : Bool). not b && (eqb t 0 || eqb old 0)) (ne_eqb old t n) ∙ ap (λ (b : Bool). b || eqb old 0) (ne_eqb t 0 m))

-- ---- 11

module _ (s : State) (words clauses irred core mid local : List ℕ) (o t : ℕ) (four : length s.tiers ≡ 4)
    (j : judged five_lists (lent_five s words clauses irred core mid local no_host) ≡ 0) (h : t < 4) where
  abbrev k : Lent
  k = lent_five s words clauses irred core mid local no_host

  words_used : s.words ≤ length words
  words_used = (words_sized_lem five_lists k (sizes_judged five_lists k j) refl).used

  clauses_used : s.clauses ≤ length clauses
  clauses_used = (clauses_sized five_lists k (sizes_judged five_lists k j) refl).used

  used : (u : ℕ) → u < 4 → at s.tiers u ≤ length (list_at k.tiers u)
  used u q = (tier_sized_lem five_lists k (sizes_judged five_lists k j) refl u q).used

  lists_fit : leb s.words (length words) && leb (length (take s.clauses clauses)) (length clauses) ≡ true
  lists_fit = let l = length-take-le s.clauses clauses clauses_used in let u = clauses_used in and_both _ _ (le-leb s.words (length words) words_used) (le-leb _ (length clauses) (omega arith))

  old_length : (u : ℕ) → length (list_at (take_each s.tiers k.tiers) u) ≡ at s.tiers u
  old_length u =
      sym (at_lengths (take_each s.tiers k.tiers) u)
      ∙ ap (λ (l : List ℕ). at l u) (lengths_each s.tiers k.tiers (within_of s.tiers k.tiers four (λ w p. used w p)))

  held_fits : (u : ℕ) → u < 4 → fit_tier k (view k) u ≡ true
  unfolding fit_tier view
  held_fits u q = let e = old_length u in let f = used u q in le-leb _ (length (list_at k.tiers u)) (omega arith)

  room_held : fit five_lists k (view k) ≡ true
  unfolding fit view
  room_held = and_both _ _ lists_fit (ap (λ (x : Bool). x && true) (all_of (fit_tier k (view k)) 4 held_fits))

  pub room_equal : (old : ℕ) → old ≡ tier_at words o → old ≡ t → true ≡ has_room (set_tier o t) k
  unfolding has_room parts step view
  room_equal old e q = sym (ap (fit five_lists k) (set_same t o (view k) (sym e ∙ q)) ∙ room_held)

  others_fit : (u : ℕ) → u < 4 → (u ≡ t → ⊥) → fit_tier k (moved_to t o (view k)) u ≡ true
  unfolding fit_tier moved_to view
  others_fit u q n =
      let e : length (list_at (push t o (take_each s.tiers k.tiers)) u) ≡ at s.tiers u =
      ap length (get_or-set_other (take_each s.tiers k.tiers) t u (snoc (list_at (take_each s.tiers k.tiers) t) o) [] n) ∙ old_length u in
      let f = used u q in
      le-leb _ (length (list_at k.tiers u)) (omega arith)

  this_fit : (b : Bool) → leb (at s.tiers t + 1) (length (list_at k.tiers t)) ≡ b → fit_tier k (moved_to t o (view k)) t ≡ b
  unfolding fit_tier moved_to view
  this_fit b e = ap (λ (x : ℕ). leb x (length (list_at k.tiers t))) (grown s words clauses irred core mid local four t o h used) ∙ e

  each_fits : fit_tier k (moved_to t o (view k)) t ≡ true → (u : ℕ) → u < 4 → Dec (u ≡ t) → fit_tier k (moved_to t o (view k)) u ≡ true
  each_fits e u q (yes p) = ap (fit_tier k (moved_to t o (view k))) p ∙ e
  each_fits e u q (no p) = others_fit u q p

  room_moved : (room : ℕ) → room ≡ length (list_at k.tiers t) → Dec (at s.tiers t ≡ room) → all_below (fit_tier k (moved_to t o (view k))) 4 ≡ not (eqb (at s.tiers t) room)
  room_moved room e (yes f) = all_fails (fit_tier k (moved_to t o (view k))) t 4 h (this_fit false (lt-leb (at s.tiers t + 1) (length (list_at k.tiers t)) (omega arith))) ∙ sym (ap not (eq-eqb _ _ f))
  room_moved room e (no f) =
      let there = used t h in
      let differ : at s.tiers t ≡ length (list_at k.tiers t) → ⊥ = λ z. f (z ∙ sym e) in
      all_of (fit_tier k (moved_to t o (view k))) 4 (λ u q. each_fits (this_fit true (le-leb (at s.tiers t + 1) (length (list_at k.tiers t)) (omega arith))) u q (ℕ_discrete u t)) ∙ sym (ap not (ne_eqb _ _ f))

  moved_is : fit five_lists k (moved_to t o (view k)) ≡ (leb s.words (length words) && leb (length (take s.clauses clauses)) (length clauses)) && (all_below (fit_tier k (moved_to t o (view k))) 4 && true)
  unfolding fit moved_to view
  moved_is = refl

  last : (b : Bool) → true && (b && true) ≡ b
  last true = refl
  last false = refl

  pub room_other : (old : ℕ) → old ≡ tier_at words o → (old ≡ t → ⊥) → (room : ℕ) → room ≡ length (list_at k.tiers t) → not (eqb (at s.tiers t) room) ≡ has_room (set_tier o t) k
  unfolding has_room parts step view
  room_other old e n room f =
      sym (ap (fit five_lists k) (set_other t o (view k) (λ z. n (e ∙ z)))
      ∙ moved_is
      ∙ ap₂ (λ (x y : Bool). x && (y && true)) lists_fit (room_moved room f (ℕ_discrete (at s.tiers t) room))
      ∙ last _)

-- ---- the number

module _ (s : State) (words clauses irred core mid local : List ℕ) (o t : ℕ) (j : judged five_lists (lent_five s words clauses irred core mid local no_host) ≡ 0) where
  abbrev lent_all : Lent
  lent_all = lent_five s words clauses irred core mid local no_host

  -- what `is_live` may ask
  pub live_asked : (s.words ≤ length words) × (s.clauses ≤ length clauses) × (placed words s.words clauses s.clauses ≡ true)
  live_asked =
      let z = sizes_judged five_lists lent_all j in
      let w = words_sized_lem five_lists lent_all z refl in
      let c = clauses_sized five_lists lent_all z refl in
      let sized : WordsSized lent_all = record { used = w.used; most = w.most; listed = c.used; entries = c.most } in
      (w.used, c.used, (ready_of lent_all sized (words_pass_lem five_lists (view lent_all) (store_judged five_lists lent_all j) refl)).lies)

  -- and `tier_at`
  pub inside : is_live words (take s.clauses clauses) o ≡ true → o + 1 < length words
  unfolding view
  inside l =
      let there = live_there (view lent_all) o (words_pass_lem five_lists (view lent_all) (store_judged five_lists lent_all j) refl) l in
      let e : end_at words o ≤ s.words = there.ends in
      let u : s.words ≤ length words = (words_sized_lem five_lists lent_all (sizes_judged five_lists lent_all j) refl).used in
      omega arith

  number_is : (a b c d : Bool) → tier_wrong t ≡ a → not_live (view lent_all) o ≡ b → irred_change (view lent_all) o t ≡ c → has_room (set_tier o t) lent_all ≡ d
      → own_number (set_tier o t) lent_all ≡ or_else (cond a 5 (cond b 6 (cond c 7 0))) (cond d 0 11)
  unfolding own_number refused_for own lowest
  number_is a b c d x y z w =
      ap (λ (p : Bool). or_else (cond p 5 (cond (not_live (view lent_all) o) 6 (cond (irred_change (view lent_all) o t) 7 0))) (cond (has_room (set_tier o t) lent_all) 0 11)) x
      ∙ ap (λ (p : Bool). or_else (cond a 5 (cond p 6 (cond (irred_change (view lent_all) o t) 7 0))) (cond (has_room (set_tier o t) lent_all) 0 11)) y
      ∙ ap (λ (p : Bool). or_else (cond a 5 (cond b 6 (cond p 7 0))) (cond (has_room (set_tier o t) lent_all) 0 11)) z
      ∙ ap (λ (p : Bool). or_else (cond a 5 (cond b 6 (cond c 7 0))) (cond p 0 11)) w

  tier_high : 3 < t → tier_wrong t ≡ true
  unfolding tier_wrong
  tier_high h = lt-ltb 3 t h

  tier_low : t ≤ 3 → tier_wrong t ≡ false
  unfolding tier_wrong
  tier_low h = le-ltb 3 t h

  live_is : {r : Bool} → r ≡ is_live words (take s.clauses clauses) o → not_live (view lent_all) o ≡ not r
  unfolding not_live view
  live_is e = ap not (sym e)

  change_is : (old : ℕ) → old ≡ tier_at words o → {r : Bool} → r ≡ not (eqb old t) && (eqb t 0 || eqb old 0) → irred_change (view lent_all) o t ≡ r
  unfolding irred_change view
  change_is old e f = sym (f ∙ ap (λ (x : ℕ). not (eqb x t) && (eqb t 0 || eqb x 0)) e)

  refuse : (n : ℕ) → own_number (set_tier o t) lent_all ≡ n → (n ≡ 0 → ⊥) → refused n lent_all ≡ done (set_tier o t) lent_all
  unfolding parts
  refuse n e h = sym (own_way (set_tier o t) five_lists refl lent_all j n (sym e) h)

  pub tier_way : 3 < t → refused 5 lent_all ≡ done (set_tier o t) lent_all
  tier_way h = refuse 5 (number_is true _ _ _ (tier_high h) refl refl refl) (λ z. omega arith)

  module _ (h : t ≤ 3) {r : Bool} (e : r ≡ is_live words (take s.clauses clauses) o) where
    pub live_way : not r ≡ true → refused 6 lent_all ≡ done (set_tier o t) lent_all
    live_way q = refuse 6 (number_is false true _ _ (tier_low h) (live_is e ∙ q) refl refl) (λ z. omega arith)

    module _ (l : not r ≡ false) (old : ℕ) (f : old ≡ tier_at words o) {c : Bool} (g : c ≡ not (eqb old t) && (eqb t 0 || eqb old 0)) where
      pub change_way : c ≡ true → refused 7 lent_all ≡ done (set_tier o t) lent_all
      change_way q = refuse 7 (number_is false false true _ (tier_low h) (live_is e ∙ l) (change_is old f g ∙ q) refl) (λ z. omega arith)

      module _ (n : c ≡ false) {w : Bool} (m : w ≡ has_room (set_tier o t) lent_all) where
        pub room_way : not w ≡ true → refused 11 lent_all ≡ done (set_tier o t) lent_all
        room_way q = refuse 11 (number_is false false false false (tier_low h) (live_is e ∙ l) (change_is old f g ∙ n) (sym m ∙ not-true _ q)) (λ z. omega arith)

        pub none_given : not w ≡ false → own_number (set_tier o t) lent_all ≡ 0
        none_given q = number_is false false false true (tier_low h) (live_is e ∙ l) (change_is old f g ∙ n) (sym m ∙ not-false _ q)

  pub set_way : own_number (set_tier o t) lent_all ≡ 0 → {after : Lent} → after ≡ lay five_lists lent_all (tier_set t o (view lent_all)) → accepted nothing after ≡ done (set_tier o t) lent_all
  unfolding parts answer step
  set_way q e = ap (accepted nothing) e ∙ sym (step_way (set_tier o t) five_lists refl lent_all j q)
