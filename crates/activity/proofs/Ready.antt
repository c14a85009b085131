-- What a judged call holds is what bump, decay and rescale require: 1 and 2 passed, and the reference is a live clause (6). Assumes nothing.
use mathlib.Core.Path.{◌≡◌, refl, sym, ap, ◌∙◌, subst}
use mathlib.Core.Bool.{Bool, true, false, ◌||◌, true≢false}
use mathlib.Core.List.{List, [], ◌∷◌}
use Prim.Native.Nat.{ℕ, zero, suc, ◌+◌, ◌≤◌, ◌<◌, ◌^◌}
use native.Mathlib.Decide.{ℕ_discrete, dec_le}
use native.Mathlib.Omega.{arith}
use lib.ListN.{length, take}
use lib.Seq.{get_or-take, length-take-le}
use lib.Dec.{eqb, leb}
use borrow.Author.Tests.{leb-true, eqb-true, not-true}
use Rattle.laws.specs.Lists.{at, list_at, elem}
use Rattle.laws.proofs.Folds.{and_left, and_right, all_at}
use Rattle.laws.proofs.Filling.{Within}
use Rattle.kinds.specs.Clauses.{end_at, deleted_at, is_live}
use Rattle.kinds.specs.Floats.{limit_bits, activity_ok, bump_ok, inverse_ok}
use Rattle.kinds.specs.Lent.{Lent, Parts}
use Rattle.kinds.specs.Layout.{view, lent_then}
use Rattle.kinds.proofs.FloatRanges.{bound_activity}
use Rattle.calls.specs.Size.{sized, vars_in_range, words_sized, tier_sized, tiers_sized, sizes_ok}
use Rattle.calls.specs.StorePasses.{placed, words_pass, floats_pass, store_passes}
use Rattle.calls.proofs.Readings.{Words, lent_test, words_pass_lem, floats_pass_lem, held_words, rising_read}
use Rattle.activity.specs.Stored.{Bounded, Away}

-- where an entry stands
entry_at : (x : ℕ) (l : List ℕ) → elem x l ≡ true → (i : ℕ) × (i < length l) × (at l i ≡ x)
unfolding elem
entry_at x [] e = absurd (true≢false (sym e))
entry_at x (y ∷ ys) e = go (eqb x y) refl (entry_at x ys)
  where
    go : (b : Bool) → eqb x y ≡ b → (elem x ys ≡ true → (i : ℕ) × (i < length ys) × (at ys i ≡ x)) → (i : ℕ) × (i < length (y ∷ ys)) × (at (y ∷ ys) i ≡ x)
    go true q f = (zero, omega arith, sym (eqb-true x y q))
    go false q f = let r = f (ap (λ (b : Bool). b || elem x ys) (sym q) ∙ e) in (suc r.0, omega (arith, r.1), r.2)

room_of_lem : (m n : ℕ) (l : List ℕ) → sized m n l ≡ true → n ≤ length l
unfolding sized
room_of_lem m n l e = leb-true n (length l) (and_right (leb (length l) m) _ e)

module _ (p : Parts) (k : Lent) (sizes : sizes_ok p k ≡ true) where
  words_sized_lem : p.words ≡ true → (k.state.words ≤ length k.words) × (k.state.clauses ≤ length k.clauses)
  unfolding sizes_ok words_sized
  words_sized_lem w =
      let e = lent_test p.words (words_sized k) (and_left _ _ (and_right (lent_then p.vars (vars_in_range k.state.vars)) _ sizes)) w in
      (room_of_lem (2 ^ 24) k.state.words k.words (and_left _ _ e), room_of_lem (2 ^ 22) k.state.clauses k.clauses (and_right (sized (2 ^ 24) k.state.words k.words) _ e))

  -- the tier lists, four of them by their types
  pub tiers_within : p.tiers ≡ true → length k.state.tiers ≡ 4 → length k.tiers ≡ 4 → Within k.state.tiers k.tiers
  unfolding sizes_ok tiers_sized tier_sized
  tiers_within t four lists =
      let e = lent_test p.tiers (tiers_sized k) (and_left _ _ (and_right (lent_then p.words (words_sized k)) _ (and_right (lent_then p.vars (vars_in_range k.state.vars)) _ sizes))) t in
      record { many = four ∙ sym lists; each = λ j l. room_of_lem (2 ^ 22) (at k.state.tiers j) (list_at k.tiers j) (all_at (tier_sized k) 4 e j (subst (λ (n : ℕ). j < n) four l)) }

  module _ (passes : store_passes p (view k) ≡ true) where
    pub floats_ok : p.state ≡ true → (bump_ok k.state.activity.bump ≡ true) × (inverse_ok k.state.activity.inv_decay ≡ true)
    unfolding view floats_pass
    floats_ok s = let e = floats_pass_lem p (view k) passes s in (and_left _ _ e, and_right (bump_ok k.state.activity.bump) _ e)

    module _ (w : p.words ≡ true) where
      abbrev n : ℕ
      n = k.state.clauses

      count : length (take n k.clauses) ≡ n
      count = length-take-le n k.clauses (words_sized_lem w).1

      listed : (i : ℕ) → i < n → at (take n k.clauses) i ≡ at k.clauses i
      listed i h = get_or-take n k.clauses i 0 h

      held : Words k.words k.state.vars k.state.words (take n k.clauses) n k.state.counts k.state.garbage
      unfolding view
      held = subst (λ (m : ℕ). Words k.words k.state.vars k.state.words (take n k.clauses) m k.state.counts k.state.garbage) count (held_words (view k) (words_pass_lem p (view k) passes w))

      in_place : placed k.words k.state.words (take n k.clauses) n ≡ true
      unfolding view words_pass
      in_place = subst (λ (m : ℕ). placed k.words k.state.words (take n k.clauses) m ≡ true) count (and_left _ _ (words_pass_lem p (view k) passes w))

      ends : (i : ℕ) → i < n → end_at k.words (at k.clauses i) ≤ k.state.words
      ends i h = subst (λ (o : ℕ). end_at k.words o ≤ k.state.words) (listed i h) (held.ends i h)

      rises : (i j : ℕ) → i < j → j < n → at k.clauses i + 3 ≤ at k.clauses j
      rises i j h g =
          let r : end_at k.words (at (take n k.clauses) i) ≤ at (take n k.clauses) j = rising_read k.words k.state.words (take n k.clauses) n in_place i j h g in
          let a = listed i (omega arith) in
          let b = listed j g in
          omega arith

      pub bounded : Bounded limit_bits k.words k.clauses k.state.clauses
      bounded =
          let u = words_sized_lem w in
          record {
            placed = record { within = u.1; there = λ i h. let e = ends i h in let v = u.0 in omega arith };
            bound = λ i h d. subst (λ (o : ℕ). at k.words o ≤ limit_bits) (listed i h) (held.clause i h (subst (λ (o : ℕ). deleted_at k.words o ≡ false) (sym (listed i h)) d)).activity;
          }

      module _ (o : ℕ) (live : is_live k.words (take k.state.clauses k.clauses) o ≡ true) where
        place : (i : ℕ) × (i < n) × (at k.clauses i ≡ o)
        unfolding is_live
        place =
            let r = entry_at o (take n k.clauses) (and_left _ _ live) in
            let l : r.0 < n = subst (λ (m : ℕ). r.0 < m) count r.1 in
            (r.0, l, sym (listed r.0 l) ∙ r.2)

        undeleted_there : deleted_at k.words o ≡ false
        unfolding is_live
        undeleted_there = not-true _ (and_right (elem o (take n k.clauses)) _ live)

        -- the reference of a live clause
        pub reference_within : o < length k.words
        reference_within =
            let i = place in
            let e = bounded.placed.there i.0 i.1 in
            let q = i.2 in
            omega arith

        pub reference_activity : activity_ok (at k.words o) ≡ true
        reference_activity =
            let i = place in
            bound_activity (at k.words o) (subst (λ (x : ℕ). at k.words x ≤ limit_bits) i.2 (bounded.bound i.0 i.1 (subst (λ (x : ℕ). deleted_at k.words x ≡ false) (sym i.2) undeleted_there)))

        pub reference_away : Away k.clauses k.state.clauses o
        reference_away j h e = go (ℕ_discrete j place.0) (dec_le j place.0)
          where
            here : at k.clauses place.0 ≡ o
            here = place.2

            go : Dec (j ≡ place.0) → Dec (j ≤ place.0) → ⊥
            go (yes q) b = let r : at k.clauses j ≡ o = ap (at k.clauses) q ∙ here in omega arith
            go (no q) (yes l) = let r = rises j place.0 (omega arith) place.1 in let s = here in omega arith
            go (no q) (no l) = let r = rises place.0 j (omega arith) h in let s = here in omega arith
