-- Room for the inactive mids: what reducing mids makes of the lists. Assumes nothing.
use mathlib.Core.Path.{◌≡◌, refl, sym, ap, ap₂, ◌∙◌, subst}
use mathlib.Core.Bool.{Bool, true, false, cond, not, ◌&&◌, ◌||◌, true≢false}
use mathlib.Core.List.{List, [], ◌∷◌}
use Prim.Native.Nat.{ℕ, zero, suc, ◌+◌, ◌^◌, ◌≤◌, ◌<◌}
use native.Mathlib.Decide.{ℕ_discrete}
use native.Mathlib.Omega.{arith}
use lib.ListN.{length, take, set, length-append, length-set}
use lib.Seq.{length-take-le, get_or-take, get_or-set_same, get_or-set_other}
use lib.Dec.{eqb}
use borrow.Author.Tests.{eq-eqb, ne_eqb, le-leb}
use Rattle.laws.specs.Fold.{fold_list, one, count_below}
use Rattle.laws.specs.Lists.{at, list_at, elem, snoc, take_each}
use Rattle.laws.proofs.Folds.{and_both, all_of}
use Rattle.laws.proofs.Sums.{count_sum, count_same}
use Rattle.laws.proofs.Members.{In, Distinct, sum_list, sum_each, sum_places}
use Rattle.laws.proofs.Entries.{elem_here, elem_later, elem_index}
use Rattle.laws.proofs.Subsets.{within, sum_within}
use Rattle.laws.proofs.Pushes.{at_other, pushed_here, pushed_other, length_push}
use Rattle.kinds.specs.Header.{active_of, with_tier, with_active}
use Rattle.kinds.specs.Clauses.{head_at, tier_at, deleted_at, active_at, change_head}
use Rattle.kinds.specs.Lent.{Lent, lent_five, no_host}
use Rattle.kinds.specs.Held.{Held}
use Rattle.kinds.specs.Layout.{view, fit, fit_tier}
use Rattle.kinds.specs.declared.State.{State}
use Rattle.calls.specs.Call.{reduce_mids, parts, five_lists}
use Rattle.calls.specs.Adding.{moved_to, tier_set}
use Rattle.calls.specs.Reducing.{stale, kept_first, cleaned_tier, tier_emptied, mid_kept, mid_done, mids_reduced}
use Rattle.calls.specs.Refusing.{own, lowest}
use Rattle.calls.specs.Outcome.{judged, refused_for, has_room, step, own_number}
use Rattle.calls.proofs.Judged.{sizes_judged, clauses_sized, tier_sized_lem, tier_fits}
use Rattle.calls.proofs.Unchanged.{tiers_within}
use Rattle.passing.proofs.Store.{Store, chain_in, chain_distinct}
use Rattle.reduce_steps.proofs.Fours.{used_part}
use Rattle.reduce_steps.proofs.Cleaned.{kept_ready, kept_distinct, kept_covers}
use Rattle.reduce_steps.proofs.Passing.{store_lent}
use Rattle.reduce_refusals.specs.Counted.{HeadsIn, inactive_mid, inactive_at}

-- ---- what the entries make of the lists

abbrev pub inactive : List ℕ → ℕ → ℕ
inactive w x = one (not (active_at w x))

pub record MidsMade (h r : Held) (os : List ℕ) : Type 0 where
  pub used : r.used ≡ h.used
  pub clauses : r.clauses ≡ h.clauses
  pub irred : list_at r.tiers 0 ≡ list_at h.tiers 0
  pub core : list_at r.tiers 1 ≡ list_at h.tiers 1
  pub mid : length (list_at r.tiers 2) ≤ length (list_at h.tiers 2) + length os
  pub local : length (list_at r.tiers 3) ≡ length (list_at h.tiers 3) + sum_list (inactive h.words) os

-- word 1 of one clause changed: the others' stay
others_same : (w : List ℕ) (o : ℕ) (f : ℕ → ℕ) (os : List ℕ) → (In o os → ⊥) → (x : ℕ) → In x os → head_at (change_head f o w) x ≡ head_at w x
others_same w o f os n x m = at_other w (o + 1) (f (head_at w o)) (x + 1) (λ q. n (subst (λ (z : ℕ). In z os) (same x o q) m))
  where
    same : (a b : ℕ) → a + 1 ≡ b + 1 → a ≡ b
    same a b q = omega arith

pub mids_made : (os : List ℕ) (h : Held) → length h.tiers ≡ 4 → Distinct os → ((x : ℕ) → In x os → tier_at h.words x ≡ 2) → MidsMade h (fold_list mid_done h os) os
unfolding fold_list mid_done mid_kept tier_set moved_to
mids_made [] h f d t = record { used = refl; clauses = refl; irred = refl; core = refl; mid = omega arith; local = omega arith }
mids_made (o ∷ os) h f (n, d) t = go (active_at h.words o) refl (mids_made os (mid_kept o h)) (mids_made os (moved_to 3 o h))
  where
    two : tier_at h.words o ≡ 2
    two = t o (elem_here o os)

    later : (u : List ℕ) → ((x : ℕ) → In x os → head_at u x ≡ head_at h.words x) → (x : ℕ) → In x os → tier_at u x ≡ 2
    later u e x m = rw (e x m) (t x (elem_later x o os m))

    sums : (u : List ℕ) → ((x : ℕ) → In x os → head_at u x ≡ head_at h.words x) → sum_list (inactive u) os ≡ sum_list (inactive h.words) os
    sums u e = sum_each (inactive u) (inactive h.words) os (λ x m. ap (λ (y : ℕ). one (not (eqb (active_of y) 1))) (e x m))

    kept : active_at h.words o ≡ true → mid_done h o ≡ mid_kept o h
    kept a = ap (λ (b : Bool). cond b (mid_kept o h) (tier_set 3 o h)) a

    moved : active_at h.words o ≡ false → mid_done h o ≡ moved_to 3 o h
    moved a = ap (λ (b : Bool). cond b (mid_kept o h) (tier_set 3 o h)) a ∙ ap (λ (b : Bool). cond b h (moved_to 3 o h)) (ne_eqb (tier_at h.words o) 3 (λ q. let z = two in omega arith))

    go : (b : Bool) → active_at h.words o ≡ b → (length (mid_kept o h).tiers ≡ 4 → Distinct os → ((x : ℕ) → In x os → tier_at (mid_kept o h).words x ≡ 2) → MidsMade (mid_kept o h) (fold_list mid_done (mid_kept o h) os) os) → (length (moved_to 3 o h).tiers ≡ 4 → Distinct os → ((x : ℕ) → In x os → tier_at (moved_to 3 o h).words x ≡ 2) → MidsMade (moved_to 3 o h) (fold_list mid_done (moved_to 3 o h) os) os) → MidsMade h (fold_list mid_done (mid_done h o) os) (o ∷ os)
    go true a k₁ m₁ = subst (λ (x : Held). MidsMade h (fold_list mid_done x os) (o ∷ os)) (sym (kept a)) (made_kept k₁)
      where
        made_kept : (length (mid_kept o h).tiers ≡ 4 → Distinct os → ((x : ℕ) → In x os → tier_at (mid_kept o h).words x ≡ 2) → MidsMade (mid_kept o h) (fold_list mid_done (mid_kept o h) os) os) → MidsMade h (fold_list mid_done (mid_kept o h) os) (o ∷ os)
        made_kept ih =
            let e = others_same h.words o (with_active false) os n in
            let r = ih (length_push h.tiers 2 o ∙ f) d (later (change_head (with_active false) o h.words) e) in
            let z = ap (λ (c : Bool). one (not c)) a in
            let m = r.mid in
            let l = r.local in
            let p = ap length (pushed_here h.tiers 2 o (omega arith)) in
            let q = ap length (pushed_other h.tiers 2 o (omega arith) 3 (λ y. omega arith)) in
            let v = length-append (list_at h.tiers 2) (o ∷ []) in
            let s = sums (change_head (with_active false) o h.words) e in
            record {
              used = r.used;
              clauses = r.clauses;
              irred = r.irred ∙ pushed_other h.tiers 2 o (omega arith) 0 (λ y. omega arith);
              core = r.core ∙ pushed_other h.tiers 2 o (omega arith) 1 (λ y. omega arith);
              mid = omega arith;
              local = omega arith;
            }
    go false a k₁ m₁ = subst (λ (x : Held). MidsMade h (fold_list mid_done x os) (o ∷ os)) (sym (moved a)) (made_moved m₁)
      where
        made_moved : (length (moved_to 3 o h).tiers ≡ 4 → Distinct os → ((x : ℕ) → In x os → tier_at (moved_to 3 o h).words x ≡ 2) → MidsMade (moved_to 3 o h) (fold_list mid_done (moved_to 3 o h) os) os) → MidsMade h (fold_list mid_done (moved_to 3 o h) os) (o ∷ os)
        made_moved ih =
            let e = others_same h.words o (with_tier 3) os n in
            let r = ih (length_push h.tiers 3 o ∙ f) d (later (change_head (with_tier 3) o h.words) e) in
            let z = ap (λ (c : Bool). one (not c)) a in
            let m = r.mid in
            let l = r.local in
            let p = ap length (pushed_here h.tiers 3 o (omega arith)) in
            let q = ap length (pushed_other h.tiers 3 o (omega arith) 2 (λ y. omega arith)) in
            let v = length-append (list_at h.tiers 3) (o ∷ []) in
            let s = sums (change_head (with_tier 3) o h.words) e in
            record {
              used = r.used;
              clauses = r.clauses;
              irred = r.irred ∙ pushed_other h.tiers 3 o (omega arith) 0 (λ y. omega arith);
              core = r.core ∙ pushed_other h.tiers 3 o (omega arith) 1 (λ y. omega arith);
              mid = omega arith;
              local = omega arith;
            }

-- ---- the inactive mids, over the clause list

module _ {v : ℕ} {w : List ℕ} {used : ℕ} {l cs : List ℕ} {g : ℕ} {ts : List (List ℕ)} (S : Store v w used l cs g ts []) where
  abbrev os : List ℕ
  os = fold_list (kept_first w 2) [] (list_at ts 2)

  counted : (x : ℕ) → In x l → within (inactive w) os x ≡ one (inactive_mid (head_at w x))
  unfolding inactive_mid
  counted x m = go (deleted_at w x) refl (elem x os) refl (ℕ_discrete (tier_at w x) 2)
    where
      go : (d : Bool) → deleted_at w x ≡ d → (b : Bool) → elem x os ≡ b → Dec (tier_at w x ≡ 2) → cond b (inactive w x) 0 ≡ one (not (deleted_at w x) && (eqb (tier_at w x) 2 && not (active_at w x)))
      go d e true q t = let r = kept_ready S 2 (omega arith) x q in rw (r.0.1, eq-eqb (tier_at w x) 2 r.1)
      go true e false q t = rw e
      go false e false q (yes t) = absurd (true≢false (sym (kept_covers S 2 (omega arith) x (m, e) t) ∙ q))
      go false e false q (no t) = rw (e, ne_eqb (tier_at w x) 2 t)

  pub inactive_count : sum_list (inactive w) os ≡ count_below (inactive_at w l) (length l)
  unfolding inactive_at
  inactive_count =
      sym (sum_within (inactive w) os l (kept_distinct S 2 (omega arith)) (chain_distinct 0 used w l S.chain) (λ x m. (kept_ready S 2 (omega arith) x m).0.0))
      ∙ sum_each (within (inactive w) os) (λ (x : ℕ). one (inactive_mid (head_at w x))) l counted
      ∙ sym (sum_places (λ (x : ℕ). one (inactive_mid (head_at w x))) l)
      ∙ sym (count_sum (λ (i : ℕ). inactive_mid (head_at w (at l i))) (length l))

-- ---- the kept entries are no more than the list's

kept_few : (w : List ℕ) (t : ℕ) (xs acc : List ℕ) → length (fold_list (kept_first w t) acc xs) ≤ length acc + length xs
unfolding fold_list kept_first
kept_few w t [] acc = omega arith
kept_few w t (x ∷ xs) acc = go (stale w t x || elem x acc) (kept_few w t xs acc) (kept_few w t xs (snoc acc x))
  where
    go : (b : Bool) → length (fold_list (kept_first w t) acc xs) ≤ length acc + length xs → length (fold_list (kept_first w t) (snoc acc x) xs) ≤ length (snoc acc x) + length xs → length (fold_list (kept_first w t) (cond b acc (snoc acc x)) xs) ≤ length acc + length (x ∷ xs)
    go true p q = omega arith
    go false p q = let e = length-append acc (x ∷ []) in omega arith

pub tier_few : (w : List ℕ) (t : ℕ) (xs : List ℕ) → length (fold_list (kept_first w t) [] xs) ≤ length xs
tier_few w t xs = let a = kept_few w t xs [] in omega arith

-- ---- the number

module _ (s : State) (words clauses irred core mid local : List ℕ) (four : length s.tiers ≡ 4) (counts : length s.counts ≡ 4) (j : judged five_lists (lent_five s words clauses irred core mid local no_host) ≡ 0) where
  abbrev k : Lent
  k = lent_five s words clauses irred core mid local no_host

  store : Store (view k).vars (view k).words (view k).used (view k).clauses (view k).counts (view k).garbage (view k).tiers []
  store = store_lent five_lists k refl four counts refl refl j

  listed : s.clauses ≤ length clauses
  listed = (clauses_sized five_lists k (sizes_judged five_lists k j) refl).used

  list_length : length (take s.clauses clauses) ≡ s.clauses
  list_length = length-take-le s.clauses clauses listed

  pub heads_in : HeadsIn words clauses s.clauses
  unfolding view
  heads_in i b =
      let e : at (take s.clauses clauses) i ≡ at clauses i = get_or-take s.clauses clauses i 0 b in
      let m = elem_index (take s.clauses clauses) i (let z = list_length in omega arith) in
      let a = (chain_in 0 s.words words (take s.clauses clauses) store.chain (at (take s.clauses clauses) i) m).1 in
      let r : s.words ≤ length words = store.room in
      omega arith

  pub mids_sizes : (s.clauses ≤ length clauses) × (length clauses ≤ 2 ^ 22) × (length local ≤ 2 ^ 22) × (at s.tiers 3 ≤ length local)
  mids_sizes =
      let z = sizes_judged five_lists k j in
      (listed, (clauses_sized five_lists k z refl).most, (tier_sized_lem five_lists k z refl 3 (omega arith)).most, (tier_sized_lem five_lists k z refl 3 (omega arith)).used)

  abbrev moved : ℕ
  moved = count_below (inactive_at words clauses) s.clauses

  words_same : length (view k).words ≡ length words
  unfolding view
  words_same = refl

  list_held : length (view k).clauses ≡ length (take s.clauses clauses)
  unfolding view
  list_held = refl

  made : MidsMade (tier_emptied 2 (view k)) (mids_reduced (view k)) (cleaned_tier 2 (view k))
  unfolding mids_reduced cleaned_tier
  made = mids_made (cleaned_tier 2 (view k)) (tier_emptied 2 (view k)) (length-set (view k).tiers 2 [] ∙ store.four_lists_lem) (kept_distinct store 2 (omega arith)) (λ x m. (kept_ready store 2 (omega arith) x m).1)

  local_made : length (list_at (mids_reduced (view k)).tiers 3) ≡ at s.tiers 3 + moved
  unfolding view cleaned_tier inactive_at
  local_made =
      made.local
      ∙ ap₂ (λ (x y : ℕ). x + y)
      (ap length (get_or-set_other (take_each s.tiers k.tiers) 2 3 [] [] (λ q. omega arith) ∙ used_part s.tiers k.tiers (tiers_within five_lists k (sizes_judged five_lists k j) refl four refl) 3 (omega arith)) ∙ length-take-le (at s.tiers 3) local mids_sizes.3)
      (inactive_count store ∙ ap (count_below (inactive_at words (take s.clauses clauses))) list_length
      ∙ count_same (inactive_at words (take s.clauses clauses)) (inactive_at words clauses) s.clauses (λ i h. ap (λ (o : ℕ). inactive_mid (head_at words o)) (get_or-take s.clauses clauses i 0 h)))

  mid_made : length (list_at (mids_reduced (view k)).tiers 2) ≤ length mid
  unfolding view cleaned_tier
  mid_made =
      let a = made.mid in
      let b = ap length (get_or-set_same (take_each s.tiers k.tiers) 2 [] [] (let z : length (take_each s.tiers k.tiers) ≡ 4 = store.four_lists_lem in omega arith)) in
      let c = tier_few words 2 (list_at (take_each s.tiers k.tiers) 2) in
      let d = ap length (used_part s.tiers k.tiers (tiers_within five_lists k (sizes_judged five_lists k j) refl four refl) 2 (omega arith)) in
      let u : at s.tiers 2 ≤ length mid = (tier_sized_lem five_lists k (sizes_judged five_lists k j) refl 2 (omega arith)).used in
      let e = length-take-le (at s.tiers 2) mid u in
      omega arith

  same_made : (t : ℕ) → t < 4 → (t ≡ 2 → ⊥) → list_at (mids_reduced (view k)).tiers t ≡ list_at (set (view k).tiers 2 []) t → length (list_at (mids_reduced (view k)).tiers t) ≤ length (list_at k.tiers t)
  unfolding view
  same_made t h n e =
      let a = ap length (e ∙ get_or-set_other (take_each s.tiers k.tiers) 2 t [] [] n ∙ used_part s.tiers k.tiers (tiers_within five_lists k (sizes_judged five_lists k j) refl four refl) t h) in
      let u = (tier_sized_lem five_lists k (sizes_judged five_lists k j) refl t h).used in
      let b = length-take-le (at s.tiers t) (list_at k.tiers t) u in
      omega arith

  module _ (room : at s.tiers 3 + moved ≤ length local) where
    each_fits : (t : ℕ) → t < 4 → length (list_at (mids_reduced (view k)).tiers t) ≤ length (list_at k.tiers t)
    each_fits zero h = same_made 0 (omega arith) (λ q. omega arith) made.irred
    each_fits (suc zero) h = same_made 1 (omega arith) (λ q. omega arith) made.core
    each_fits (suc (suc zero)) h = mid_made
    each_fits (suc (suc (suc zero))) h = let e = local_made in omega arith
    each_fits (suc (suc (suc (suc t)))) h = absurd (omega arith)

    fits : fit five_lists k (mids_reduced (view k)) ≡ true
    unfolding fit fit_tier
    fits =
        and_both _ _
        (and_both _ _ (le-leb (mids_reduced (view k)).used (length words) used_fits) (le-leb (length (mids_reduced (view k)).clauses) (length clauses) clauses_fits))
        (and_both _ _ (all_of (fit_tier k (mids_reduced (view k))) 4 (λ t h. le-leb (length (list_at (mids_reduced (view k)).tiers t)) (length (list_at k.tiers t)) (each_fits t h))) refl)
      where
        used_fits : (mids_reduced (view k)).used ≤ length words
        used_fits = let a = made.used in let b = store.room in let c = words_same in omega arith

        clauses_fits : length (mids_reduced (view k)).clauses ≤ length clauses
        clauses_fits = let a = ap length made.clauses in let b = list_held in let c = list_length in let d = listed in omega arith

    pub mids_fit : 0 ≡ own_number reduce_mids k
    unfolding own_number refused_for own lowest has_room step parts
    mids_fit = sym (ap (λ (b : Bool). cond b 0 11) fits)

  pub mids_lack : length local < at s.tiers 3 + moved → 11 ≡ own_number reduce_mids k
  unfolding own_number refused_for own lowest has_room step parts
  mids_lack h = sym (ap (λ (b : Bool). cond b 0 11) (go (fit five_lists k (mids_reduced (view k))) refl))
    where
      go : (b : Bool) → fit five_lists k (mids_reduced (view k)) ≡ b → b ≡ false
      go true e = absurd (let a = tier_fits five_lists k (mids_reduced (view k)) e refl 3 (omega arith) in let c = local_made in omega arith)
      go false e = refl
