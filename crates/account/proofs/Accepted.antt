-- What an accepted call was judged for: the readings that its step needs. Assumes nothing.
use mathlib.Core.Path.{◌≡◌, refl, sym, ap, ◌∙◌, subst}
use mathlib.Core.Bool.{Bool, true, false, cond, not, ◌&&◌, ◌||◌, true≢false}
use mathlib.Core.List.{List, [], ◌∷◌}
use Prim.Native.Nat.{ℕ, suc, ◌+◌, ◌-◌, ◌*◌, ◌^◌, ◌≤◌, ◌<◌}
use native.Mathlib.Omega.{arith}
use lib.ListN.{length}
use lib.Dec.{eqb, leb, ltb}
use borrow.Author.Tests.{leb-true, ltb-false, eqb-true, not-true, not-false}
use Rattle.laws.specs.Fold.{any_below}
use Rattle.laws.specs.Lists.{at, list_at, elem}
use Rattle.laws.proofs.Folds.{and_left, and_right}
use Rattle.laws.proofs.Entries.{neither, none_at, elem_here, elem_later, elem_place}
use Rattle.kinds.specs.Clauses.{clause_at, end_at, lits_at, len_at, glue_at, tier_at, deleted_at, original_at, is_live, longs, neg, var_of}
use Rattle.kinds.specs.Lent.{Lent, room_of}
use Rattle.kinds.specs.Held.{Held}
use Rattle.kinds.specs.Layout.{view, fit, lent_then}
use Rattle.calls.specs.Call.{Command, add_clause, set_tier, delete, add_binary, bump, unit_simplify, parts}
use Rattle.calls.specs.Size.{vars_in_range, sized, words_sized, sizes_ok}
use Rattle.calls.specs.StorePasses.{store_passes}
use Rattle.calls.specs.Refusing.{lowest, clause_wrong, tier_wrong, glue_wrong, not_live, irred_change, unready, long_lacking, pair_lacking, row_lacking, any_lacking, own}
use Rattle.calls.specs.Adding.{added_long}
use Rattle.calls.specs.Outcome.{step, judged, refused_for, has_room, number}
use Rattle.calls.proofs.Readings.{lent_test, lits_read, LiveClause, Words, Tier, held_words, held_tier, words_pass_lem, tiers_pass}
use Rattle.calls.proofs.After.{sizes_true, judged_zero, own_zero, room_true, counts_length, rows_length}
use Rattle.account.specs.Weights.{Chain, Chained}
use Rattle.account.proofs.Shortening.{Differ, AllDiffer, read_differ}
use Rattle.account.proofs.Simplifying.{RowFine, pair_fine}

-- ---- tests that were not given

not_given : (b : Bool) (n m : ℕ) → (n ≡ 0 → ⊥) → cond b n m ≡ 0 → (b ≡ false) × (m ≡ 0)
not_given true n m h e = absurd (h e)
not_given false n m h e = (refl, e)

-- entries that rise, each ending by the next one's start
chain_of : (hi : ℕ) (ws l : List ℕ) (lo : ℕ) → ((i : ℕ) → i < length l → end_at ws (at l i) ≤ hi) → ((i : ℕ) → i + 1 < length l → end_at ws (at l i) ≤ at l (i + 1)) → (0 < length l → lo ≤ at l 0) → lo ≤ hi → Chain lo hi ws l
chain_of hi ws [] lo ends next first low = low
chain_of hi ws (o ∷ l) lo ends next first low = (
  first (omega arith),
  chain_of hi ws l (end_at ws o) (λ i h. ends (suc i) (omega arith)) (λ i h. subst (λ (x : ℕ). end_at ws (at l i) ≤ at (o ∷ l) x) (let e : suc i + 1 ≡ suc (i + 1) = omega arith in e) (next (suc i) (omega arith)))
      (λ h. subst (λ (x : ℕ). end_at ws o ≤ at (o ∷ l) x) (let e : 0 + 1 ≡ suc 0 = omega arith in e) (next 0 (omega arith))) (ends 0 (omega arith)),
)

module _ (c : Command) (k : Lent) (z : number c k ≡ 0) where
  pub store_true : store_passes (parts c) (view k) ≡ true
  unfolding judged lowest
  store_true = not-false _ (not_given (not (store_passes (parts c) (view k))) 2 _ (λ e. omega arith) (not_given (not (sizes_ok (parts c) k)) 1 _ (λ e. omega arith) (judged_zero c k z)).1).0

  abbrev h : Held
  h = view k

  read_words : (parts c).words ≡ true → Words h.words h.vars h.used h.clauses (length h.clauses) h.counts h.garbage
  read_words e = held_words h (words_pass_lem (parts c) h store_true e)

  pub read_tier : (parts c).words && (parts c).tiers ≡ true → (t : ℕ) → t < 4 → Tier h.words h.used h.clauses (length h.clauses) t (list_at h.tiers t) (length (list_at h.tiers t))
  read_tier e = held_tier h (tiers_pass (parts c) h store_true e)

  -- a listed clause that is not deleted is as judged
  read_clause : (parts c).words ≡ true → (o : ℕ) → elem o h.clauses ≡ true → deleted_at h.words o ≡ false → LiveClause h.words h.vars o
  read_clause e o l d =
      let p = elem_place o h.clauses l in
      subst (λ (x : ℕ). LiveClause h.words h.vars x) p.2 ((read_words e).clause p.0 p.1 (ap (deleted_at h.words) p.2 ∙ d))

  used_room : (parts c).words ≡ true → h.used ≤ length h.words
  unfolding view sizes_ok words_sized sized
  used_room e =
      leb-true k.state.words (length k.words)
      (and_right (leb (length k.words) (2 ^ 24)) _ (and_left _ _ (lent_test (parts c).words (words_sized k) (and_left _ _ (and_right (lent_then (parts c).vars (vars_in_range k.state.vars)) _ (sizes_true c k z))) e)))

  -- as many rows as literals
  rows_two : (parts c).rows ≡ true → length h.rows ≡ 2 * h.vars
  unfolding view
  rows_two e = rows_length (room_of k.state.vars k.rows) k.counts k.rows ∙ counts_length c k z e

  -- "Clause list offsets rise; each clause ends by the next one's start and by the used length": no two overlap
  pub judged_chained : (parts c).words ≡ true → Chained (view k)
  judged_chained e =
      let r = read_words e in
      record {
        chain = chain_of h.used h.words h.clauses 0 r.ends r.next (λ l. omega arith) (omega arith);
        room = used_room e;
      }

-- ---- a live reference

pub live_listed : (h : Held) (o : ℕ) → not_live h o ≡ false → (elem o h.clauses ≡ true) × (deleted_at h.words o ≡ false)
unfolding not_live is_live
live_listed h o e = let q = not-false _ e in (and_left _ _ q, not-true _ (and_right (elem o h.clauses) _ q))

-- ---- what each call needs

module _ (k : Lent) where
  abbrev v : Held
  v = view k

  pub record LongFacts (t : ℕ) (ls : List ℕ) : Type 0 where
    pub tier : t < 4
    pub room : v.used + (length ls + 3) ≤ length v.words

  pub long_facts : (t g : ℕ) (ls : List ℕ) → number (add_clause t g ls) k ≡ 0 → LongFacts t ls
  unfolding refused_for lowest own tier_wrong has_room parts fit step added_long view
  long_facts t g ls z =
      let o = own_zero (add_clause t g ls) k z in
      let r = (not_given (clause_wrong v.vars 3 v.vars ls) 4 _ (λ e. omega arith) o).1 in
      let q = (neither (ltb 3 t) (glue_wrong t g) (not_given (tier_wrong t || glue_wrong t g) 5 _ (λ e. omega arith) r).0).0 in
      record {
        tier = let m = ltb-false 3 t q in omega arith;
        room = leb-true (v.used + (length ls + 3)) (length k.words) (and_left _ _ (and_left _ _ (room_true (add_clause t g ls) k z)));
      }

  pub record TierFacts (o t : ℕ) : Type 0 where
    pub tier : t < 4
    pub listed : elem o v.clauses ≡ true
    pub class : eqb (tier_at v.words o) t ≡ false → eqb t 0 ≡ original_at v.words o

  pub tier_facts : (o t : ℕ) → number (set_tier o t) k ≡ 0 → TierFacts o t
  unfolding refused_for lowest own tier_wrong irred_change
  tier_facts o t z =
      let a = not_given (tier_wrong t) 5 _ (λ e. omega arith) (own_zero (set_tier o t) k z) in
      let b = not_given (not_live v o) 6 _ (λ e. omega arith) a.1 in
      let c = (not_given (irred_change v o t) 7 0 (λ e. omega arith) b.1).0 in
      record {
        tier = let m = ltb-false 3 t a.0 in omega arith;
        listed = (live_listed v o b.0).0;
        class = λ n. go (eqb (tier_at v.words o) t) n c;
      }
    where
      go : (b : Bool) → b ≡ false → not b && (eqb t 0 || original_at v.words o) ≡ false → eqb t 0 ≡ original_at v.words o
      go true n e = absurd (true≢false n)
      go false n e = let q = neither (eqb t 0) (original_at v.words o) e in q.0 ∙ sym q.1

  pub record DeleteFacts (o : ℕ) : Type 0 where
    pub listed : elem o v.clauses ≡ true
    pub live : deleted_at v.words o ≡ false
    pub class : original_at v.words o ≡ false

  pub delete_facts : (o : ℕ) → number (delete o) k ≡ 0 → DeleteFacts o
  unfolding refused_for lowest own
  delete_facts o z =
      let a = not_given (not_live v o) 6 _ (λ e. omega arith) (own_zero (delete o) k z) in
      let l = live_listed v o a.0 in
      record { listed = l.0; live = l.1; class = (not_given (original_at v.words o) 7 _ (λ e. omega arith) a.1).0 }

  pub record PairFacts (ls : List ℕ) : Type 0 where
    pub differ : at ls 0 ≡ at ls 1 → ⊥
    pub first : neg (at ls 0) < length v.rows
    pub second : neg (at ls 1) < length v.rows

  pub pair_facts : (ls : List ℕ) → number (add_binary ls) k ≡ 0 → PairFacts ls
  unfolding refused_for lowest own clause_wrong parts
  pair_facts ls z =
      let a = not-false _ (not_given (clause_wrong v.vars 2 2 ls) 4 0 (λ e. omega arith) (own_zero (add_binary ls) k z)).0 in
      let b = and_right (leb 2 (length ls)) _ a in
      let l = leb-true 2 (length ls) (and_left _ _ a) in
      let r = lits_read ls v.vars 0 (length ls) (and_right (leb (length ls) 2) _ b) in
      let n = rows_two (add_binary ls) k z refl in
      let x : at ls 0 < 2 * v.vars = r.below 0 (omega arith) in
      let y : at ls 1 < 2 * v.vars = r.below 1 (omega arith) in
      record {
        differ = λ e. r.apart 1 0 (omega arith) (omega arith) (ap var_of e);
        first = omega arith;
        second = omega arith;
      }

  pub record BumpFacts (o : ℕ) : Type 0 where
    pub listed : elem o v.clauses ≡ true
    pub live : deleted_at v.words o ≡ false
    pub glue : original_at v.words o ≡ true → glue_at v.words o ≡ 0

  pub bump_facts : (o : ℕ) → number (bump o) k ≡ 0 → BumpFacts o
  unfolding refused_for lowest own parts
  bump_facts o z =
      let l = live_listed v o (not_given (not_live v o) 6 0 (λ e. omega arith) (own_zero (bump o) k z)).0 in
      record {
        listed = l.0;
        live = l.1;
        glue = λ e. (read_clause (bump o) k z refl o l.0 l.1).glue (eqb-true (tier_at v.words o) 0 e);
      }

  all_differ : (n : ℕ) (ws os : List ℕ) → ((o : ℕ) → elem o os ≡ true → deleted_at ws o ≡ false → Differ n (lits_at ws o)) → AllDiffer n (longs ws os)
  unfolding longs
  all_differ n ws [] f = tt
  all_differ n ws (o ∷ os) f = go (deleted_at ws o) refl (all_differ n ws os (λ x e. f x (elem_later x o os e)))
    where
      go : (b : Bool) → deleted_at ws o ≡ b → AllDiffer n (longs ws os) → AllDiffer n (cond b (longs ws os) (clause_at ws o ∷ longs ws os))
      go true e r = r
      go false e r = (f o (elem_here o os) e, r)

  pub record SimplifyFacts : Type 0 where
    pub clauses : AllDiffer (length v.rows) (longs v.words v.clauses)
    pub rows : (r : ℕ) → r < length v.rows → RowFine v.host.values r (list_at v.rows r)

  pub simplify_facts : number unit_simplify k ≡ 0 → SimplifyFacts
  unfolding refused_for lowest own any_lacking row_lacking pair_lacking parts
  simplify_facts z =
      let a = (not_given (unready v) 9 _ (λ e. omega arith) (own_zero unit_simplify k z)).1 in
      let b = (neither (any_below (long_lacking v) (length v.clauses)) (any_below (row_lacking v) (2 * v.vars)) (not_given (any_lacking v) 10 0 (λ e. omega arith) a).0).1 in
      let n = rows_two unit_simplify k z refl in
      record {
        clauses = all_differ (length v.rows) v.words v.clauses
            (λ o e d. subst (λ (m : ℕ). Differ m (lits_at v.words o)) (sym n) (read_differ v.words v.vars (o + 3) (len_at v.words o) (read_clause unit_simplify k z refl o e d).lits));
        rows = λ r l i h. pair_fine v.host.values r (at (list_at v.rows r) i)
            (none_at (pair_lacking v r) (length (list_at v.rows r)) i h (none_at (row_lacking v) (2 * v.vars) r (omega arith) b));
      }
