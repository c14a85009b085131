-- Reducing: locals are struck, each once; mids are moved. Assumes nothing.
use mathlib.Core.Path.{◌≡◌, refl, sym, ap, ◌∙◌, subst}
use mathlib.Core.Bool.{Bool, true, false, cond, not, ◌||◌, true≢false}
use mathlib.Core.Logic.{⊎_elim, ◌⊎◌}
use mathlib.Core.List.{List, [], ◌∷◌}
use Prim.Native.Nat.{ℕ, zero, suc, ◌+◌, ◌-◌, ◌≤◌, ◌<◌}
use native.Mathlib.Omega.{arith}
use native.Mathlib.Decide.{ℕ_discrete}
use lib.ListN.{length}
use lib.Dec.{leb}
use lib.Seq.{get_or-set_other}
use borrow.Author.Tests.{eqb-true, ne_eqb, not-false}
use Rattle.laws.specs.Fold.{fold_list, any_below}
use Rattle.laws.specs.Lists.{at, list_at, elem, snoc, sort_by}
use Rattle.laws.specs.Counts.{count, is}
use Rattle.laws.proofs.Folds.{and_left, and_right, any_find}
use Rattle.laws.proofs.Sorting.{is_same, is_other, count_cons, count_nil, count_append, index_of, count_sort}
use Rattle.laws.proofs.Entries.{neither, elem_here, elem_later, elem_index, elem_counted}
use Rattle.kinds.specs.Clauses.{Clause, head_at, tier_at, lits_at, deleted_at, original_at}
use Rattle.kinds.specs.Held.{Held, list_in}
use Rattle.calls.specs.StorePasses.{live_at, ref_at, inside_at, stale_ok}
use Rattle.calls.specs.Adding.{deleted, struck, removed, strike_noted}
use Rattle.calls.specs.Reducing.{stale, kept_first, cleaned_tier, tier_emptied, sort_key, sorted_locals, Round, spared, local_done, to_strike, locals_round, locals_reduced, mid_done, mids_reduced}
use Rattle.calls.proofs.Readings.{Tier}
use Rattle.account.specs.Weights.{Chained}
use Rattle.account.proofs.Moves.{Moves, moves_trans}
use Rattle.account.proofs.Heads.{alike_refl, Unmoved, unmoved_refl, unmoved_trans, unmoved_chained, unmoved_moves}
use Rattle.account.proofs.Striking.{strikes_redundant, redundant_reason, struck_moves}
use Rattle.account.proofs.Tiers.{mid_unmoved}

-- ---- "Both drop stale and repeated entries, the first of equals staying."

-- each entry once, none stale, all of the tier's list
pub record Cleaned (ws : List ℕ) (t : ℕ) (tl l : List ℕ) : Type 0 where
  pub once : (v : ℕ) → count v l ≤ 1
  pub fresh : (v : ℕ) → 0 < count v l → stale ws t v ≡ false
  pub entered : (v : ℕ) → 0 < count v l → 0 < count v tl

module _ (ws : List ℕ) (t : ℕ) (tl : List ℕ) where
  kept_cleaned : (l : List ℕ) (o : ℕ) → 0 < count o tl → Cleaned ws t tl l → Cleaned ws t tl (kept_first ws t l o)
  unfolding kept_first
  kept_cleaned l o h c = go (stale ws t o) refl (elem o l) refl
    where
      counted : (v : ℕ) → count v (snoc l o) ≡ count v l + is o v
      counted v = omega (arith, count_append v l (o ∷ []), count_cons v o [], count_nil v)

      cases : (P : ℕ → Type 0) (v : ℕ) → 0 < count v (snoc l o) → P o → (0 < count v l → P v) → P v
      cases P v k p q = pick (ℕ_discrete o v)
        where
          pick : Dec (o ≡ v) → P v
          pick (yes e) = subst P e p
          pick (no n) = q (omega (arith, counted v, is_other o v n))

      none : (b : Bool) → elem o l ≡ false → count o l ≡ 0
      none b e = zeroed (count o l) refl
        where
          zeroed : (n : ℕ) → count o l ≡ n → n ≡ 0
          zeroed zero q = refl
          zeroed (suc n) q = let r = index_of o l (omega arith) in absurd (true≢false (sym (subst (λ (y : ℕ). elem y l ≡ true) r.2 (elem_index l r.0 r.1)) ∙ e))

      go : (a : Bool) → stale ws t o ≡ a → (b : Bool) → elem o l ≡ b → Cleaned ws t tl (cond (a || b) l (snoc l o))
      go true p b q = c
      go false p true q = c
      go false p false q = record {
        once = λ v. single v (ℕ_discrete o v);
        fresh = λ v k. cases (λ (x : ℕ). stale ws t x ≡ false) v k p (c.fresh v);
        entered = λ v k. cases (λ (x : ℕ). 0 < count x tl) v k h (c.entered v);
      }
        where
          single : (v : ℕ) → Dec (o ≡ v) → count v (snoc l o) ≤ 1
          single v (yes e) = omega (arith, counted v, ap (λ (x : ℕ). count x l) (sym e), none true q, is_same o v e)
          single v (no n) = omega (arith, counted v, is_other o v n, c.once v)

  all_cleaned : (rest l : List ℕ) → ((o : ℕ) → elem o rest ≡ true → 0 < count o tl) → Cleaned ws t tl l → Cleaned ws t tl (fold_list (kept_first ws t) l rest)
  unfolding fold_list
  all_cleaned [] l h c = c
  all_cleaned (o ∷ rest) l h c = all_cleaned rest (kept_first ws t l o) (λ x e. h x (elem_later x o rest e)) (kept_cleaned l o (h o (elem_here o rest)) c)

cleaned_tier_lem : (t : ℕ) (h : Held) → Cleaned h.words t (list_at h.tiers t) (cleaned_tier t h)
unfolding cleaned_tier
cleaned_tier_lem t h =
    let tl : List ℕ = list_at h.tiers t in
    all_cleaned h.words t tl tl [] (λ o e. elem_counted o tl e)
    (record { once = λ v. omega (arith, count_nil v); fresh = λ v k. absurd (omega (arith, count_nil v)); entered = λ v k. absurd (omega (arith, count_nil v)) })

-- ---- the entries still to be looked at: listed, live, redundant, each once

pub record Standing (s : Held) (l : List ℕ) : Type 0 where
  pub once : (v : ℕ) → count v l ≤ 1
  pub listed : (v : ℕ) → 0 < count v l → elem v s.clauses ≡ true
  pub live : (v : ℕ) → 0 < count v l → deleted_at s.words v ≡ false
  pub class : (v : ℕ) → 0 < count v l → original_at s.words v ≡ false

stale_deleted : (w : List ℕ) (used : ℕ) (l : List ℕ) (n e : ℕ) → stale_ok w used l n e ≡ true → deleted_at w e ≡ true
unfolding stale_ok
stale_deleted w used l n e r = and_left (deleted_at w e) (not (any_below (inside_at w l (e + 1)) n)) (and_right (leb (e + 3) used) _ r)

module _ (h : Held) (t : ℕ) (above : 0 < t) (read : Tier h.words h.used h.clauses (length h.clauses) t (list_at h.tiers t) (length (list_at h.tiers t))) where
  abbrev entries : List ℕ
  entries = list_at h.tiers t

  -- an entry that is not stale is a live clause's reference
  entry_listed : (v : ℕ) → 0 < count v entries → deleted_at h.words v ≡ false → elem v h.clauses ≡ true
  unfolding ref_at
  entry_listed v k d =
      let q = index_of v entries k in
      ⊎_elim
      (λ r.
      let f = any_find (ref_at h.words h.clauses (at entries q.0)) (length h.clauses) r in
      subst (λ (x : ℕ). elem x h.clauses ≡ true)
      (eqb-true (at h.clauses f.0) (at entries q.0) (and_right (live_at h.words h.clauses f.0) _ f.2) ∙ q.2)
      (elem_index h.clauses f.0 f.1))
      (λ r. absurd (true≢false (sym (stale_deleted h.words h.used h.clauses (length h.clauses) (at entries q.0) r) ∙ ap (deleted_at h.words) q.2 ∙ d)))
      (read.entry q.0 q.1)

  cleaned_standing : Standing h (cleaned_tier t h)
  cleaned_standing =
      let c = cleaned_tier_lem t h in
      record {
        once = c.once;
        listed = λ v k. entry_listed v (c.entered v k) (neither (deleted_at h.words v) _ (c.fresh v k)).0;
        live = λ v k. (neither (deleted_at h.words v) _ (c.fresh v k)).0;
        class = λ v k.
            let e : tier_at h.words v ≡ t = eqb-true (tier_at h.words v) t (not-false _ (neither (deleted_at h.words v) _ (c.fresh v k)).1) in
            ne_eqb (tier_at h.words v) 0 (λ z. omega arith);
      }

-- the order of the entries does not matter
standing_sorted : (s : Held) (key : ℕ → ℕ) (l : List ℕ) → Standing s l → Standing s (sort_by key l)
standing_sorted s key l c = record {
  once = λ v. omega (arith, count_sort key v l, c.once v);
  listed = λ v k. c.listed v (omega (arith, count_sort key v l));
  live = λ v k. c.live v (omega (arith, count_sort key v l));
  class = λ v k. c.class v (omega (arith, count_sort key v l));
}

standing_unmoved : (s t : Held) (l : List ℕ) → Unmoved s t → Standing s l → Standing t l
standing_unmoved s t l u c = record {
  once = c.once;
  listed = λ v k. rw u.clauses (c.listed v k);
  live = λ v k. u.alike.deleted v (c.listed v k) ∙ c.live v k;
  class = λ v k. u.alike.original v (c.listed v k) ∙ c.class v k;
}

standing_later : (s : Held) (o : ℕ) (l : List ℕ) → Standing s (o ∷ l) → Standing s l
standing_later s o l c = record {
  once = λ v. omega (arith, count_cons v o l, c.once v);
  listed = λ v k. c.listed v (omega (arith, count_cons v o l));
  live = λ v k. c.live v (omega (arith, count_cons v o l));
  class = λ v k. c.class v (omega (arith, count_cons v o l));
}

-- changes of tier lists alone
emptied_unmoved : (t : ℕ) (s : Held) → Unmoved s (tier_emptied t s)
emptied_unmoved t s = record { used = refl; clauses = refl; rows = refl; rec = refl; alike = alike_refl s.clauses s.words }

entered_unmoved : (t o : ℕ) (s : Held) → Unmoved s (list_in t o s)
entered_unmoved t o s = record { used = refl; clauses = refl; rows = refl; rec = refl; alike = alike_refl s.clauses s.words }

-- ---- one clause struck: the entries behind it still stand

module _ (s : Held) (o : ℕ) (l : List ℕ) (c : Standing s (o ∷ l)) where
  first : 0 < count o (o ∷ l)
  first = omega (arith, count_cons o o l, is_same o o refl)

  behind : (v : ℕ) → 0 < count v l → v ≡ o → ⊥
  behind v k e = let z = ap (λ (x : ℕ). count x l) e in omega (arith, count_cons o o l, is_same o o refl, c.once o)

  struck_head : (v : ℕ) → 0 < count v l → head_at (deleted o s).words v ≡ head_at s.words v
  unfolding struck removed strike_noted
  struck_head v k = get_or-set_other s.words (o + 1) (v + 1) _ 0 (λ z. behind v k (omega arith))

  struck_standing : Standing (deleted o s) l
  unfolding struck removed strike_noted
  struck_standing =
      let d = standing_later s o l c in
      record {
        once = d.once;
        listed = d.listed;
        live = λ v k. rw (struck_head v k) (d.live v k);
        class = λ v k. rw (struck_head v k) (d.class v k);
      }

  pub deleted_moves : (w : Clause → ℕ) (a : List ℕ) → Chained s → Moves w a [] s (deleted o s)
  deleted_moves w a d =
      struck_moves w s d o (c.listed o first) a 4 (c.live o first)
      (rw (c.class o first) (strikes_redundant 4))
      (λ q. redundant_reason a (original_at s.words o) (c.class o first) q (lits_at s.words o))

-- ---- "Locals: .. strike in that order until floor(n/2) are gone, skipping asserting ones"

module _ (w : Clause → ℕ) (a : List ℕ) where
  locals_walk : (l : List ℕ) (r : Round) → Chained r.held → Standing r.held l → Moves w a [] r.held (fold_list local_done r l).held
  unfolding fold_list local_done
  locals_walk [] r c s = unmoved_moves w a r.held r.held c (unmoved_refl r.held)
  locals_walk (o ∷ l) r c s = go (spared r o) (locals_walk l)
    where
      go : (b : Bool) → ((r : Round) → Chained r.held → Standing r.held l → Moves w a [] r.held (fold_list local_done r l).held)
          → Moves w a [] r.held (fold_list local_done (cond b (record { left = r.left; held = list_in 3 o r.held }) (record { left = r.left - 1; held = deleted o r.held })) l).held
      go true ih =
          let u = entered_unmoved 3 o r.held in
          moves_trans w a r.held (list_in 3 o r.held) _ (unmoved_moves w a r.held (list_in 3 o r.held) c u)
          (ih (record { left = r.left; held = list_in 3 o r.held }) (unmoved_chained r.held (list_in 3 o r.held) c u) (standing_unmoved r.held (list_in 3 o r.held) l u (standing_later r.held o l s)))
      go false ih =
          let m = deleted_moves r.held o l s w a c in
          moves_trans w a r.held (deleted o r.held) _ m
          (ih (record { left = r.left - 1; held = deleted o r.held }) m.chain (struck_standing r.held o l s))

  pub locals_moves : (s : Held) → Chained s → Tier s.words s.used s.clauses (length s.clauses) 3 (list_at s.tiers 3) (length (list_at s.tiers 3)) → Moves w a [] s (locals_reduced s)
  unfolding locals_round
  locals_moves s c read =
      let u = emptied_unmoved 3 s in
      moves_trans w a s (tier_emptied 3 s) _ (unmoved_moves w a s (tier_emptied 3 s) c u)
      (locals_walk (sorted_locals s) (record { left = to_strike s; held = tier_emptied 3 s }) (unmoved_chained s (tier_emptied 3 s) c u)
      (standing_unmoved s (tier_emptied 3 s) (sorted_locals s) u (unfold sorted_locals in standing_sorted s (sort_key s.words) (cleaned_tier 3 s) (cleaned_standing s 3 (omega arith) read))))

-- ---- "Mids: inactive ones go to Local in list order; active ones stay, flag cleared."

mids_walk : (l : List ℕ) (s : Held) → Chained s → Standing s l → Unmoved s (fold_list mid_done s l)
unfolding fold_list
mids_walk [] s c d = unmoved_refl s
mids_walk (o ∷ l) s c d =
    let k = first s o l d in
    let u = mid_unmoved s c o (d.listed o k) (d.class o k) in
    unmoved_trans s (mid_done s o) _ u (mids_walk l (mid_done s o) (unmoved_chained s (mid_done s o) c u) (standing_unmoved s (mid_done s o) l u (standing_later s o l d)))

pub mids_unmoved : (s : Held) → Chained s → Tier s.words s.used s.clauses (length s.clauses) 2 (list_at s.tiers 2) (length (list_at s.tiers 2)) → Unmoved s (mids_reduced s)
unfolding mids_reduced
mids_unmoved s c read =
    let u = emptied_unmoved 2 s in
    unmoved_trans s (tier_emptied 2 s) _ u
    (mids_walk (cleaned_tier 2 s) (tier_emptied 2 s) (unmoved_chained s (tier_emptied 2 s) c u) (standing_unmoved s (tier_emptied 2 s) (cleaned_tier 2 s) u (cleaned_standing s 2 (omega arith) read)))
