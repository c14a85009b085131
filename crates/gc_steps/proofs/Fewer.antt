-- A rebuilt tier list is no longer than the list that was there. Assumes nothing.
use mathlib.Core.Path.{◌≡◌, refl, sym, ap, ◌∙◌, subst}
use mathlib.Core.Bool.{Bool, true, false, cond, not}
use mathlib.Core.Logic.{⊎_elim, ◌⊎◌, inl, inr}
use mathlib.Core.List.{List, [], ◌∷◌}
use Prim.Native.Nat.{ℕ, zero, suc, ◌+◌, ◌≤◌, ◌<◌}
use native.Mathlib.Omega.{arith}
use lib.ListN.{length, length-append, get_or-append}
use lib.Seq.{get_or-append-add}
use lib.Dec.{eqb}
use borrow.Author.Tests.{eqb-true, eqb-false, eq-eqb}
use Rattle.laws.specs.Lists.{at, list_at, joined, starts, fill}
use Rattle.laws.proofs.Members.{In, Distinct}
use Rattle.laws.proofs.Entries.{elem_none, elem_here, elem_later, elem_cases, elem_index, elem_place}
use Rattle.laws.proofs.Pigeonhole.{no_more}
use Rattle.laws.proofs.Folds.{and_both, any_find}
use Rattle.laws.proofs.Reading.{length_read, at_read}
use Rattle.laws.proofs.Fills.{at_fill_in}
use Rattle.kinds.specs.Clauses.{head_at, size_at, end_at, tier_at, words_at, deleted_at, undeleted}
use Rattle.kinds.specs.Held.{Held}
use Rattle.calls.specs.StorePasses.{live_at, live_in, stands_at}
use Rattle.calls.specs.Collecting.{blocks, old_places, live_blocks, new_places, of_tier}
use Rattle.calls.proofs.Readings.{Tier}
use Rattle.close_up.proofs.Laying.{Laid, kept_fits}
use Rattle.close_up.proofs.Rebuilding.{of_tier_one, of_tier_other, of_tier_none}
use Rattle.gc_steps.proofs.Following.{laid_in}

-- ---- what the entries of a tier's list are

module _ (w : List ℕ) (t : ℕ) where
  abbrev live : List ℕ → List ℕ
  live os = of_tier w t (undeleted w os)

  live_deleted : (o : ℕ) (os : List ℕ) → deleted_at w o ≡ true → live (o ∷ os) ≡ live os
  unfolding undeleted
  live_deleted o os e = ap (λ (b : Bool). of_tier w t (cond b (undeleted w os) (o ∷ undeleted w os))) e

  live_other : (o : ℕ) (os : List ℕ) → deleted_at w o ≡ false → (tier_at w o ≡ t → ⊥) → live (o ∷ os) ≡ live os
  unfolding undeleted
  live_other o os e n = ap (λ (b : Bool). of_tier w t (cond b (undeleted w os) (o ∷ undeleted w os))) e ∙ of_tier_other w t o (undeleted w os) n

  live_one : (o : ℕ) (os : List ℕ) → deleted_at w o ≡ false → tier_at w o ≡ t → live (o ∷ os) ≡ o ∷ live os
  unfolding undeleted
  live_one o os e n = ap (λ (b : Bool). of_tier w t (cond b (undeleted w os) (o ∷ undeleted w os))) e ∙ of_tier_one w t o (undeleted w os) n

  record Entry (x : ℕ) (os : List ℕ) : Type 0 where
    listed : In x os
    undead : deleted_at w x ≡ false
    tier : tier_at w x ≡ t

  entry_later : (x o : ℕ) (os : List ℕ) → Entry x os → Entry x (o ∷ os)
  entry_later x o os e = record { listed = elem_later x o os e.listed; undead = e.undead; tier = e.tier }

  -- a clause is live and of tier t, or it leaves the list as it is
  by_case : (o : ℕ) (os : List ℕ) → ((deleted_at w o ≡ false) × (tier_at w o ≡ t) × (live (o ∷ os) ≡ o ∷ live os)) ⊎ (live (o ∷ os) ≡ live os)
  by_case o os = go (deleted_at w o) refl (eqb (tier_at w o) t) refl
    where
      go : (a : Bool) → deleted_at w o ≡ a → (b : Bool) → eqb (tier_at w o) t ≡ b → ((deleted_at w o ≡ false) × (tier_at w o ≡ t) × (live (o ∷ os) ≡ o ∷ live os)) ⊎ (live (o ∷ os) ≡ live os)
      go true d b e = inr (live_deleted o os d)
      go false d true e = inl (d, eqb-true (tier_at w o) t e, live_one o os d (eqb-true (tier_at w o) t e))
      go false d false e = inr (live_other o os d (eqb-false (tier_at w o) t e))

  entries : (os : List ℕ) (x : ℕ) → In x (live os) → Entry x os
  unfolding undeleted of_tier
  entries [] x m = absurd (elem_none x m)
  entries (o ∷ os) x m = go (entries os x) (by_case o os)
    where
      go : (In x (live os) → Entry x os) → ((deleted_at w o ≡ false) × (tier_at w o ≡ t) × (live (o ∷ os) ≡ o ∷ live os)) ⊎ (live (o ∷ os) ≡ live os) → Entry x (o ∷ os)
      go ih (inl (d, e, q)) = ⊎_elim
          (λ z. record { listed = subst (λ (y : ℕ). In y (o ∷ os)) (sym z) (elem_here o os); undead = ap (deleted_at w) z ∙ d; tier = ap (tier_at w) z ∙ e })
          (λ z. entry_later x o os (ih z)) (elem_cases x o (live os) (subst (In x) q m))
      go ih (inr q) = entry_later x o os (ih (subst (In x) q m))

  different : (used lo : ℕ) (os : List ℕ) → Laid w used lo os → Distinct (live os)
  unfolding Laid undeleted of_tier
  different used lo [] l = tt
  different used lo (o ∷ os) l = go (different used (end_at w o) os l.1) (by_case o os)
    where
      go : Distinct (live os) → ((deleted_at w o ≡ false) × (tier_at w o ≡ t) × (live (o ∷ os) ≡ o ∷ live os)) ⊎ (live (o ∷ os) ≡ live os) → Distinct (live (o ∷ os))
      go ih (inl (d, e, q)) = subst Distinct (sym q) ((λ m. let z = laid_in w used (end_at w o) os l.1 o (entries os o m).listed in omega arith), ih)
      go ih (inr q) = subst Distinct (sym q) ih

  -- "Each live clause stands at least once in its tier's list."
  pub live_fewer : (used : ℕ) (l tl : List ℕ) → Laid w used 0 l → Tier w used l (length l) t tl (length tl) → length (live l) ≤ length tl
  unfolding live_in live_at stands_at
  live_fewer used l tl laid r = no_more (live l) tl (different used 0 l laid)
      (λ x m.
      let e = entries l x m in
      let p = elem_place x l e.listed in
      let d : deleted_at w (at l p.0) ≡ false = ap (deleted_at w) p.2 ∙ e.undead in
      let q = any_find (stands_at tl (at l p.0)) (length tl)
      (r.listed p.0 p.1 (and_both (not (deleted_at w (at l p.0))) _ (ap not d) (eq-eqb (tier_at w (at l p.0)) t (ap (tier_at w) p.2 ∙ e.tier)))) in
      subst (λ (y : ℕ). In y tl) (eqb-true (at tl q.0) (at l p.0) q.2 ∙ p.2) (elem_index tl q.0 q.1))

-- ---- the clauses at their new places

-- u holds ws from k on
abbrev HeldFrom : List ℕ → ℕ → List ℕ → Type 0
HeldFrom u k ws = (j : ℕ) → j < length ws → at u (k + j) ≡ at ws j

module _ (w u : List ℕ) where
  same_tier : (k o : ℕ) (os : List ℕ) → HeldFrom u k (joined (blocks w (o ∷ os))) → tier_at u k ≡ tier_at w o
  unfolding blocks joined
  same_tier k o os b =
      let e = length_read w o (size_at w o) in
      let a = length-append (words_at w o) (joined (blocks w os)) in
      let h : head_at u k ≡ head_at w o = b 1 (omega arith) ∙ get_or-append (words_at w o) (joined (blocks w os)) 0 1 (omega arith) ∙ at_read w o (size_at w o) 1 (omega arith) in
      rw h

  rest_held : (k o : ℕ) (os : List ℕ) → HeldFrom u k (joined (blocks w (o ∷ os))) → HeldFrom u (k + length (words_at w o)) (joined (blocks w os))
  unfolding blocks joined
  rest_held k o os b j h =
      let a = length-append (words_at w o) (joined (blocks w os)) in
      ap (at u) (let e : k + length (words_at w o) + j ≡ k + (length (words_at w o) + j) = omega arith in e)
      ∙ b (length (words_at w o) + j) (omega arith) ∙ get_or-append-add (words_at w o) (joined (blocks w os)) j 0

  pub moved_tier : (t : ℕ) (os : List ℕ) (k : ℕ) → HeldFrom u k (joined (blocks w os)) → length (of_tier u t (starts k (blocks w os))) ≡ length (of_tier w t os)
  unfolding starts blocks
  moved_tier t [] k b = ap length (of_tier_none u t) ∙ sym (ap length (of_tier_none w t))
  moved_tier t (o ∷ os) k b = go (eqb (tier_at w o) t) refl (same_tier k o os b) (moved_tier t os (k + length (words_at w o)) (rest_held k o os b))
    where
      rest : List ℕ
      rest = starts (k + length (words_at w o)) (blocks w os)

      go : (x : Bool) → eqb (tier_at w o) t ≡ x → tier_at u k ≡ tier_at w o → length (of_tier u t (starts (k + length (words_at w o)) (blocks w os))) ≡ length (of_tier w t os)
          → length (of_tier u t (k ∷ starts (k + length (words_at w o)) (blocks w os))) ≡ length (of_tier w t (o ∷ os))
      go true e h ih =
          let y = eqb-true (tier_at w o) t e in
          ap length (of_tier_one u t k (starts (k + length (words_at w o)) (blocks w os)) (h ∙ y)) ∙ ap suc ih ∙ sym (ap length (of_tier_one w t o os y))
      go false e h ih =
          let n = eqb-false (tier_at w o) t e in
          ap length (of_tier_other u t k (starts (k + length (words_at w o)) (blocks w os)) (λ q. n (sym h ∙ q))) ∙ ih ∙ sym (ap length (of_tier_other w t o os n))

-- each new place has its header behind it
pub new_inside : (w os : List ℕ) (k i : ℕ) → i < length (starts k (blocks w os)) → at (starts k (blocks w os)) i + 3 ≤ k + length (joined (blocks w os))
unfolding starts blocks joined
new_inside w [] k i h = absurd (omega arith)
new_inside w (o ∷ os) k zero h =
    let e = length_read w o (size_at w o) in
    let a = length-append (words_at w o) (joined (blocks w os)) in
    omega arith
new_inside w (o ∷ os) k (suc i) h =
    let r = new_inside w os (k + length (words_at w o)) i (omega arith) in
    let a = length-append (words_at w o) (joined (blocks w os)) in
    omega arith

-- one place for each live clause
pub new_count : (w os : List ℕ) (k : ℕ) → length (starts k (blocks w os)) ≡ length os
unfolding starts blocks
new_count w [] k = refl
new_count w (o ∷ os) k = ap suc (new_count w os (k + length (words_at w o)))

pub undeleted_fewer : (w os : List ℕ) → length (undeleted w os) ≤ length os
unfolding undeleted
undeleted_fewer w [] = omega arith
undeleted_fewer w (o ∷ os) = go (deleted_at w o) (undeleted_fewer w os)
  where
    go : (b : Bool) → length (undeleted w os) ≤ length os → length (cond b (undeleted w os) (o ∷ undeleted w os)) ≤ length (o ∷ os)
    go true h = omega arith
    go false h = omega arith

-- ---- all of it, on what is held

module _ (h : Held) (laid : Laid h.words h.used 0 h.clauses) where
  abbrev all : List ℕ
  all = joined (live_blocks h)

  abbrev u : List ℕ
  u = fill h.words h.used all

  pub closed_tier : (t : ℕ) → Tier h.words h.used h.clauses (length h.clauses) t (list_at h.tiers t) (length (list_at h.tiers t)) → length (of_tier u t (new_places h)) ≤ length (list_at h.tiers t)
  closed_tier t r =
      let e : length (of_tier u t (new_places h)) ≡ length (of_tier h.words t (old_places h)) = moved_tier h.words u t (old_places h) 0 (λ j k. ap (at u) (let z : 0 + j ≡ j = omega arith in z) ∙ at_fill_in h.words h.used all j k) in
      let f = live_fewer h.words t h.used h.clauses (list_at h.tiers t) laid r in
      omega arith

  pub closed_used : length all ≤ h.used
  closed_used = let e = kept_fits h.words h.used 0 h.clauses laid in omega arith

  pub closed_listed : length (new_places h) ≤ length h.clauses
  closed_listed = let a = new_count h.words (old_places h) 0 in let b = undeleted_fewer h.words h.clauses in omega arith

  pub closed_inside : (i : ℕ) → i < length (new_places h) → at (new_places h) i + 3 ≤ length all
  closed_inside i k = let r = new_inside h.words (old_places h) 0 i k in omega arith
