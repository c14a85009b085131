-- Adding a long clause: each way through the call. Assumes nothing.
use mathlib.Core.Path.{◌≡◌, refl, sym, ap, ap₂, ◌∙◌, subst}
use mathlib.Core.Bool.{Bool, true, false, cond, not, ◌&&◌, ◌||◌}
use mathlib.Core.List.{List, [], ◌∷◌}
use Prim.Native.Nat.{ℕ, ◌+◌, ◌-◌, ◌≤◌, ◌<◌}
use native.Mathlib.Omega.{arith}
use native.Mathlib.Decide.{ℕ_discrete}
use lib.ListN.{length, take, length-append}
use lib.Seq.{length-take-le, get_or-set_other}
use lib.Dec.{eqb, leb, ltb}
use borrow.Author.Tests.{le-leb, lt-leb, lt-ltb, le-ltb, eq-eqb, ne_eqb, not-true, not-false}
use Rattle.laws.specs.Fold.{all_below}
use Rattle.laws.specs.Lists.{at, list_at, snoc, push, take_each, lengths}
use Rattle.laws.proofs.Folds.{all_fails, all_of, and_both, and_fails_left, and_fails_right}
use Rattle.kinds.specs.Lent.{Lent, lent_five, no_host}
use Rattle.kinds.specs.Held.{Held}
use Rattle.kinds.specs.Layout.{view, lay, fit, fit_tier}
use Rattle.kinds.specs.declared.State.{State}
use Rattle.kinds.proofs.RowLayout.{at_lengths}
use Rattle.kinds.proofs.TierLayout.{within_of, lengths_each}
use Rattle.calls.specs.Call.{Command, add_clause, parts, five_lists}
use Rattle.calls.specs.StorePasses.{lits_ok}
use Rattle.calls.specs.Adding.{added_long}
use Rattle.calls.specs.Refusing.{own, lowest, clause_wrong, tier_wrong, glue_wrong}
use Rattle.calls.specs.Outcome.{judged, refused_for, has_room, step, answer, or_else, own_number, Outcome, done, refused, accepted, reference}
use Rattle.calls.proofs.Judged.{sizes_judged, words_sized_lem, clauses_sized, tier_sized_lem}
use Rattle.calls.proofs.Given.{clause_right, tier_right, neither_left}
use Rattle.db_steps.proofs.Long.{grown}
use Rattle.replies.proofs.Ways.{own_way, step_way}

-- ---- 4

module _ (v : ℕ) (ls : List ℕ) where
  pub short : length ls < 3 → true ≡ clause_wrong v 3 v ls
  unfolding clause_wrong
  short h = sym (ap (λ (b : Bool). not (b && (leb (length ls) v && lits_ok ls v 0 (length ls)))) (lt-leb 3 (length ls) h))

  pub long : 3 ≤ length ls → v < length ls → true ≡ clause_wrong v 3 v ls
  unfolding clause_wrong
  long h g =
      sym (ap (λ (b : Bool). not (b && (leb (length ls) v && lits_ok ls v 0 (length ls)))) (le-leb 3 (length ls) h)
      ∙ ap (λ (b : Bool). not (b && lits_ok ls v 0 (length ls))) (lt-leb (length ls) v g))

  pub by_literals : 3 ≤ length ls → length ls ≤ v → {r : Bool} → r ≡ lits_ok ls v 0 (length ls) → not r ≡ clause_wrong v 3 v ls
  unfolding clause_wrong
  by_literals h g e =
      ap not e
      ∙ sym (ap (λ (b : Bool). not (b && (leb (length ls) v && lits_ok ls v 0 (length ls)))) (le-leb 3 (length ls) h)
      ∙ ap (λ (b : Bool). not (b && lits_ok ls v 0 (length ls))) (le-leb (length ls) v g))

-- ---- 5

module _ (t g : ℕ) where
  pub above : 3 < t → true ≡ tier_wrong t || glue_wrong t g
  unfolding tier_wrong
  above h = sym (ap (λ (b : Bool). b || glue_wrong t g) (lt-ltb 3 t h))

  pub redundant : t ≤ 3 → (t ≡ 0 → ⊥) → false ≡ tier_wrong t || glue_wrong t g
  unfolding tier_wrong glue_wrong
  redundant h n = sym (ap (λ (b : Bool). b || (eqb t 0 && ltb 0 g)) (le-ltb 3 t h) ∙ ap (λ (b : Bool). b && ltb 0 g) (ne_eqb t 0 n))

  pub by_glue : t ≤ 3 → t ≡ 0 → ltb 0 g ≡ tier_wrong t || glue_wrong t g
  unfolding tier_wrong glue_wrong
  by_glue h e = sym (ap (λ (b : Bool). b || (eqb t 0 && ltb 0 g)) (le-ltb 3 t h) ∙ ap (λ (b : Bool). b && ltb 0 g) (eq-eqb t 0 e))

-- ---- 11

module _ (s : State) (words clauses irred core mid local : List ℕ) (t g : ℕ) (ls : List ℕ) (four : length s.tiers ≡ 4)
    (j : judged five_lists (lent_five s words clauses irred core mid local no_host) ≡ 0) (h : t < 4) where
  abbrev k : Lent
  k = lent_five s words clauses irred core mid local no_host

  abbrev after : Held
  after = added_long t g ls (view k)

  pub words_used : s.words ≤ length words
  words_used = (words_sized_lem five_lists k (sizes_judged five_lists k j) refl).used

  pub clauses_used : s.clauses ≤ length clauses
  clauses_used = (clauses_sized five_lists k (sizes_judged five_lists k j) refl).used

  used : (u : ℕ) → u < 4 → at s.tiers u ≤ length (list_at k.tiers u)
  used u q = (tier_sized_lem five_lists k (sizes_judged five_lists k j) refl u q).used

  pub tier_used : at s.tiers t ≤ length (list_at k.tiers t)
  tier_used = used t h

  listed : length (snoc (take s.clauses clauses) s.words) ≡ s.clauses + 1
  listed = length-append (take s.clauses clauses) (s.words ∷ []) ∙ ap (λ (x : ℕ). x + 1) (length-take-le s.clauses clauses clauses_used)

  room_is : has_room (add_clause t g ls) k ≡ (leb (s.words + (length ls + 3)) (length words) && leb (length (snoc (take s.clauses clauses) s.words)) (length clauses)) && (all_below (fit_tier k after) 4 && true)
  unfolding has_room fit parts step added_long view
  room_is = refl

  pub no_words : length words - s.words < length ls + 3 → false ≡ has_room (add_clause t g ls) k
  no_words q =
      let u = words_used in
      sym (room_is ∙ ap (λ (b : Bool). (b && leb (length (snoc (take s.clauses clauses) s.words)) (length clauses)) && (all_below (fit_tier k after) 4 && true)) (lt-leb (s.words + (length ls + 3)) (length words) (omega arith)))

  first_fits : length ls + 3 ≤ length words - s.words → leb (s.words + (length ls + 3)) (length words) ≡ true
  first_fits q = let u = words_used in le-leb (s.words + (length ls + 3)) (length words) (omega arith)

  pub no_entry : length clauses ≡ s.clauses → false ≡ has_room (add_clause t g ls) k
  no_entry q =
      let l = listed in
      sym (room_is ∙ ap (λ (b : Bool). b && (all_below (fit_tier k after) 4 && true)) (and_fails_right (leb (s.words + (length ls + 3)) (length words)) _ (lt-leb _ (length clauses) (omega arith))))

  others_fit : (u : ℕ) → u < 4 → (u ≡ t → ⊥) → fit_tier k after u ≡ true
  unfolding fit_tier added_long view
  others_fit u q n =
      let e : length (list_at (push t s.words (take_each s.tiers k.tiers)) u) ≡ at s.tiers u =
      ap length (get_or-set_other (take_each s.tiers k.tiers) t u (snoc (list_at (take_each s.tiers k.tiers) t) s.words) [] n)
      ∙ sym (at_lengths (take_each s.tiers k.tiers) u)
      ∙ ap (λ (l : List ℕ). at l u) (lengths_each s.tiers k.tiers (within_of s.tiers k.tiers four (λ w p. used w p))) in
      let f = used u q in
      le-leb _ (length (list_at k.tiers u)) (omega arith)

  this_fit : (b : Bool) → leb (at s.tiers t + 1) (length (list_at k.tiers t)) ≡ b → fit_tier k after t ≡ b
  unfolding fit_tier added_long view
  this_fit b e = ap (λ (x : ℕ). leb x (length (list_at k.tiers t))) (grown s words clauses irred core mid local four t s.words h used) ∙ e

  each_fits : fit_tier k after t ≡ true → (u : ℕ) → u < 4 → Dec (u ≡ t) → fit_tier k after u ≡ true
  each_fits e u q (yes p) = ap (fit_tier k after) p ∙ e
  each_fits e u q (no p) = others_fit u q p

  -- r: the tier's list is not full
  pub by_tier_lem : length ls + 3 ≤ length words - s.words → (length clauses ≡ s.clauses → ⊥) → (room : ℕ) → room ≡ length (list_at k.tiers t)
      → not (eqb (at s.tiers t) room) ≡ has_room (add_clause t g ls) k
  by_tier_lem p q room e = sym (room_is ∙ ap₂ (λ (x y : Bool). x && (y && true)) both (tiers_room (ℕ_discrete (at s.tiers t) room)) ∙ and_true _)
    where
      and_true : (b : Bool) → true && (b && true) ≡ b
      and_true true = refl
      and_true false = refl

      both : leb (s.words + (length ls + 3)) (length words) && leb (length (snoc (take s.clauses clauses) s.words)) (length clauses) ≡ true
      both = let l = listed in let u = clauses_used in and_both _ _ (first_fits p) (le-leb _ (length clauses) (omega arith))

      tiers_room : Dec (at s.tiers t ≡ room) → all_below (fit_tier k after) 4 ≡ not (eqb (at s.tiers t) room)
      tiers_room (yes f) = all_fails (fit_tier k after) t 4 h (this_fit false (lt-leb (at s.tiers t + 1) (length (list_at k.tiers t)) (omega arith))) ∙ sym (ap not (eq-eqb _ _ f))
      tiers_room (no f) =
          let there = tier_used in
          let differ : at s.tiers t ≡ length (list_at k.tiers t) → ⊥ = λ z. f (z ∙ sym e) in
          all_of (fit_tier k after) 4 (λ u q. each_fits (this_fit true (le-leb (at s.tiers t + 1) (length (list_at k.tiers t)) (omega arith))) u q (ℕ_discrete u t)) ∙ sym (ap not (ne_eqb _ _ f))

-- ---- the number

module _ (s : State) (words clauses irred core mid local : List ℕ) (t g : ℕ) (ls : List ℕ) (j : judged five_lists (lent_five s words clauses irred core mid local no_host) ≡ 0) where
  abbrev lent_all : Lent
  lent_all = lent_five s words clauses irred core mid local no_host

  number_is : (a b c : Bool) → clause_wrong s.vars 3 s.vars ls ≡ a → tier_wrong t || glue_wrong t g ≡ b → has_room (add_clause t g ls) lent_all ≡ c
      → own_number (add_clause t g ls) lent_all ≡ or_else (cond a 4 (cond b 5 0)) (cond c 0 11)
  unfolding own_number refused_for own lowest view
  number_is a b c x y z =
      ap (λ (p : Bool). or_else (cond p 4 (cond (tier_wrong t || glue_wrong t g) 5 0)) (cond (has_room (add_clause t g ls) lent_all) 0 11)) x
      ∙ ap (λ (p : Bool). or_else (cond a 4 (cond p 5 0)) (cond (has_room (add_clause t g ls) lent_all) 0 11)) y
      ∙ ap (λ (p : Bool). or_else (cond a 4 (cond b 5 0)) (cond p 0 11)) z

  pub clause_way : {r : Bool} → r ≡ clause_wrong s.vars 3 s.vars ls → r ≡ true → refused 4 lent_all ≡ done (add_clause t g ls) lent_all
  unfolding parts
  clause_way e q = sym (own_way (add_clause t g ls) five_lists refl lent_all j 4 (sym (number_is true _ _ (sym e ∙ q) refl refl)) (λ z. omega arith))

  pub tier_way : {r : Bool} → r ≡ clause_wrong s.vars 3 s.vars ls → r ≡ false → {q : Bool} → q ≡ tier_wrong t || glue_wrong t g → q ≡ true → refused 5 lent_all ≡ done (add_clause t g ls) lent_all
  unfolding parts
  tier_way e p f q = sym (own_way (add_clause t g ls) five_lists refl lent_all j 5 (sym (number_is false true _ (sym e ∙ p) (sym f ∙ q) refl)) (λ z. omega arith))

  module _ {r : Bool} (e : r ≡ clause_wrong s.vars 3 s.vars ls) (p : r ≡ false) {q : Bool} (f : q ≡ tier_wrong t || glue_wrong t g) (o : q ≡ false) {w : Bool} (m : w ≡ has_room (add_clause t g ls) lent_all) where
    pub room_way : not w ≡ true → refused 11 lent_all ≡ done (add_clause t g ls) lent_all
    unfolding parts
    room_way n = sym (own_way (add_clause t g ls) five_lists refl lent_all j 11 (sym (number_is false false false (sym e ∙ p) (sym f ∙ o) (sym m ∙ not-true _ n))) (λ z. omega arith))

    pub none_given : not w ≡ false → own_number (add_clause t g ls) lent_all ≡ 0
    none_given n = number_is false false true (sym e ∙ p) (sym f ∙ o) (sym m ∙ not-false _ n)

  -- the step was taken: after is what is lent then
  pub added_way : own_number (add_clause t g ls) lent_all ≡ 0 → {after : Lent} → after ≡ lay five_lists lent_all (added_long t g ls (view lent_all)) → accepted (reference s.words) after ≡ done (add_clause t g ls) lent_all
  unfolding parts answer step view
  added_way o e = ap (accepted (reference s.words)) e ∙ sym (step_way (add_clause t g ls) five_lists refl lent_all j o)

-- ---- what the tests left

pub tier_low : (t g : ℕ) {q : Bool} → q ≡ tier_wrong t || glue_wrong t g → q ≡ false → t < 4
tier_low t g e o = tier_right t (neither_left (tier_wrong t) _ (sym e ∙ o))

pub few_lits : (v : ℕ) (ls : List ℕ) → v ≤ 65536 → {r : Bool} → r ≡ clause_wrong v 3 v ls → r ≡ false → length ls ≤ 65536
few_lits v ls h e p = let c = (clause_right v 3 v ls (sym e ∙ p)).high in omega arith

-- a tier's list and its length
pub room_length : (a b c d : List ℕ) (t : ℕ) → at (length a ∷ length b ∷ length c ∷ length d ∷ []) t ≡ length (list_at (a ∷ b ∷ c ∷ d ∷ []) t)
room_length a b c d t = sym (sym (at_lengths (a ∷ b ∷ c ∷ d ∷ []) t) ∙ ap (λ (l : List ℕ). at l t) listed_lengths)
  where
    listed_lengths : lengths (a ∷ b ∷ c ∷ d ∷ []) ≡ length a ∷ length b ∷ length c ∷ length d ∷ []
    listed_lengths = unfold lengths in refl
