-- Reducing mids and locals keeps what passing says. Assumes nothing.
use mathlib.Core.Path.{◌≡◌, refl, sym, ap, ap₂, ◌∙◌, subst}
use mathlib.Core.Bool.{Bool, true, false, cond, not, ◌||◌, true≢false}
use mathlib.Core.Logic.{⊎_elim, ◌⊎◌, inl, inr}
use mathlib.Core.List.{List, [], ◌∷◌}
use Prim.Native.Nat.{ℕ, ◌+◌, ◌-◌, ◌<◌}
use native.Mathlib.Decide.{ℕ_discrete}
use native.Mathlib.Omega.{arith}
use lib.ListN.{length, set, length-set}
use lib.Seq.{get_or-set_same, get_or-set_other}
use lib.Dec.{eqb}
use borrow.Author.Tests.{eq-eqb, ne_eqb, eqb-true, not-false}
use Rattle.laws.specs.Fold.{fold_list}
use Rattle.laws.specs.Lists.{list_at, snoc, elem, push, sort_by}
use Rattle.laws.proofs.Members.{In, in_left, in_last, in_snoc, Distinct}
use Rattle.laws.proofs.Entries.{elem_none, elem_here, elem_later, elem_cases}
use Rattle.laws.proofs.Distinct.{distinct_snoc, sort_in, in_sort, distinct_sort}
use Rattle.laws.proofs.Pushes.{at_other, in_pushed, in_push, push_cases, length_push}
use Rattle.kinds.specs.Header.{with_active, with_tier, with_deleted}
use Rattle.kinds.specs.Clauses.{head_at, tier_at, deleted_at, active_at, change_head}
use Rattle.kinds.specs.Held.{Held, with_words, list_in, asserting}
use Rattle.calls.specs.Adding.{moved_to, tier_set, removed, strike_noted, struck, deleted}
use Rattle.calls.specs.Reducing.{stale, kept_first, cleaned_tier, tier_emptied, sort_key, sorted_locals, Round, spared, local_done, to_strike, locals_round, locals_reduced, mid_kept, mid_done, mids_reduced}
use Rattle.passing.proofs.Store.{Live, changed}
use Rattle.passing.proofs.Heads.{active_alike}
use Rattle.passing.proofs.Changes.{still_live, same_tier}
use Rattle.passing.proofs.OneClause.{Still, moved_good, no_reason, struck_good, alike_good}
use Rattle.passing.proofs.Good.{Whole}

-- ---- "Both drop stale and repeated entries, the first of equals staying."

module _ (w : List ℕ) (t : ℕ) where
  pub firsts_in : (os acc : List ℕ) (x : ℕ) → In x (fold_list (kept_first w t) acc os) → In x acc ⊎ (In x os × (stale w t x ≡ false))
  unfolding fold_list kept_first
  firsts_in [] acc x m = inl m
  firsts_in (o ∷ os) acc x m = go (stale w t o || elem o acc) refl (firsts_in os (kept_first w t acc o) x m)
    where
      go : (b : Bool) → stale w t o || elem o acc ≡ b → In x (cond b acc (snoc acc o)) ⊎ (In x os × (stale w t x ≡ false)) → In x acc ⊎ (In x (o ∷ os) × (stale w t x ≡ false))
      go b e (inr q) = inr (elem_later x o os q.0, q.1)
      go true e (inl q) = inl q
      go false e (inl q) = ⊎_elim (λ r. inl r) (λ r. inr (subst (λ (z : ℕ). In z (o ∷ os)) (sym r) (elem_here o os), subst (λ (z : ℕ). stale w t z ≡ false) (sym r) (neither (stale w t o) (elem o acc) e))) (in_snoc x o acc q)
        where
          neither : (a c : Bool) → a || c ≡ false → a ≡ false
          neither true c f = absurd (true≢false f)
          neither false c f = refl

  firsts_keep : (os acc : List ℕ) (x : ℕ) → In x acc → In x (fold_list (kept_first w t) acc os)
  unfolding fold_list kept_first
  firsts_keep [] acc x m = m
  firsts_keep (o ∷ os) acc x m = firsts_keep os (kept_first w t acc o) x (go (stale w t o || elem o acc))
    where
      go : (b : Bool) → In x (cond b acc (snoc acc o))
      go true = m
      go false = in_left x acc (o ∷ []) m

  pub in_firsts : (os acc : List ℕ) (x : ℕ) → In x os → stale w t x ≡ false → In x (fold_list (kept_first w t) acc os)
  unfolding fold_list kept_first
  in_firsts [] acc x m s = absurd (elem_none x m)
  in_firsts (o ∷ os) acc x m s = pick (elem_cases x o os m) (in_firsts os (kept_first w t acc o) x)
    where
      here : (a c : Bool) → a ≡ false → elem o acc ≡ c → In o (cond (a || c) acc (snoc acc o))
      here true c f e = absurd (true≢false f)
      here false true f e = e
      here false false f e = in_last o acc

      pick : (x ≡ o) ⊎ In x os → (In x os → stale w t x ≡ false → In x (fold_list (kept_first w t) (kept_first w t acc o) os)) → In x (fold_list (kept_first w t) (kept_first w t acc o) os)
      pick (inl e) ih = firsts_keep os (kept_first w t acc o) x (subst (λ (z : ℕ). In z (kept_first w t acc o)) (sym e) (here (stale w t o) (elem o acc) (subst (λ (z : ℕ). stale w t z ≡ false) e s) refl))
      pick (inr q) ih = ih q s

  pub firsts_distinct : (os acc : List ℕ) → Distinct acc → Distinct (fold_list (kept_first w t) acc os)
  unfolding fold_list kept_first
  firsts_distinct [] acc d = d
  firsts_distinct (o ∷ os) acc d = firsts_distinct os (kept_first w t acc o) (go (stale w t o) (elem o acc) refl)
    where
      go : (a c : Bool) → elem o acc ≡ c → Distinct (cond (a || c) acc (snoc acc o))
      go true c e = d
      go false true e = d
      go false false e = distinct_snoc acc o d (λ m. true≢false (sym m ∙ e))

pub fresh_deleted : (w : List ℕ) (t x : ℕ) → stale w t x ≡ false → deleted_at w x ≡ false
fresh_deleted w t x e = go (deleted_at w x) refl
  where
    go : (b : Bool) → deleted_at w x ≡ b → b ≡ false
    go true q = absurd (true≢false (sym (ap (λ (z : Bool). z || not (eqb (tier_at w x) t)) q) ∙ e))
    go false q = refl

pub fresh_tier : (w : List ℕ) (t x : ℕ) → stale w t x ≡ false → tier_at w x ≡ t
fresh_tier w t x e = eqb-true (tier_at w x) t (not-false _ (sym (ap (λ (z : Bool). z || not (eqb (tier_at w x) t)) (fresh_deleted w t x e)) ∙ e))

pub fresh : (w : List ℕ) (t x : ℕ) → deleted_at w x ≡ false → tier_at w x ≡ t → stale w t x ≡ false
fresh w t x d e = ap₂ (λ (a b : Bool). a || not b) d (eq-eqb (tier_at w x) t e)

-- the clauses of some entries are live and of tier t
abbrev pub Ready : List ℕ → List ℕ → ℕ → List ℕ → Type 0
Ready w l t os = (x : ℕ) → In x os → Live w l x × (tier_at w x ≡ t)

-- ---- tier t's list is emptied: those that stay are to be entered again

module _ (h : Held) (d : Whole h []) (t : ℕ) (k : t < 4) where
  pub cleaned_ready : Ready h.words h.clauses t (cleaned_tier t h)
  unfolding cleaned_tier
  cleaned_ready x m = ⊎_elim (λ q. absurd (elem_none x q)) (λ q. ⊎_elim
      (λ a. (a, fresh_tier h.words t x q.1))
      (λ s. absurd (true≢false (sym s.deleted ∙ fresh_deleted h.words t x q.1)))
      (d.store.entry t x k q.0)) (firsts_in h.words t (list_at h.tiers t) [] x m)

  pub cleaned_distinct : Distinct (cleaned_tier t h)
  unfolding cleaned_tier
  cleaned_distinct = firsts_distinct h.words t (list_at h.tiers t) [] tt

  emptied_in : (j x : ℕ) → In x (list_at (set h.tiers t []) j) → In x (list_at h.tiers j)
  emptied_in j x m = go (ℕ_discrete j t)
    where
      go : Dec (j ≡ t) → In x (list_at h.tiers j)
      go (yes e) = absurd (elem_none x (subst (λ (l : List ℕ). In x l) (get_or-set_same h.tiers t [] [] (let q = d.store.four_lists_lem in omega arith)) (subst (λ (z : ℕ). In x (list_at (set h.tiers t []) z)) e m)))
      go (no e) = subst (λ (l : List ℕ). In x l) (get_or-set_other h.tiers t j [] [] e) m

  pub emptied_good : (os : List ℕ) → ((x : ℕ) → In x (cleaned_tier t h) → In x os) → Whole (tier_emptied t h) os
  unfolding cleaned_tier
  emptied_good os more = record {
    store = record {
      chain = d.store.chain;
      clause = d.store.clause;
      counts = d.store.counts;
      garbage = d.store.garbage;
      covered = covers;
      entry = λ j e b m. d.store.entry j e b (emptied_in j e m);
      four_counts = d.store.four_counts;
      four_lists_lem = length-set h.tiers t [] ∙ d.store.four_lists_lem;
      room = d.store.room;
    };
    quiet = d.quiet;
    rows = d.rows;
    tuned = d.tuned;
    sided = d.sided;
    reasons = d.reasons;
  }
    where
      covers : (o : ℕ) → In o h.clauses → deleted_at h.words o ≡ false → In o (list_at (set h.tiers t []) (tier_at h.words o)) ⊎ In o os
      covers o m f = ⊎_elim (λ q. go q (ℕ_discrete (tier_at h.words o) t)) (λ q. absurd (elem_none o q)) (d.store.covered o m f)
        where
          go : In o (list_at h.tiers (tier_at h.words o)) → Dec (tier_at h.words o ≡ t) → In o (list_at (set h.tiers t []) (tier_at h.words o)) ⊎ In o os
          go q (yes e) = inr (more o (in_firsts h.words t (list_at h.tiers t) [] o (subst (λ (z : ℕ). In o (list_at h.tiers z)) e q) (fresh h.words t o f e)))
          go q (no e) = inl (subst (λ (l : List ℕ). In o l) (sym (get_or-set_other h.tiers t (tier_at h.words o) [] [] e)) q)

-- ---- an entry more of the clause's own tier

pub listed_good : (h : Held) (p p' : List ℕ) → Whole h p → (o : ℕ) → Live h.words h.clauses o → (t : ℕ) → tier_at h.words o ≡ t → Still o p p' → Whole (list_in t o h) p'
listed_good h p p' d o a t e still =
    let room : t < length h.tiers = let q = d.store.four_lists_lem in let z : tier_at h.words o < 4 = omega arith in omega arith in
    record {
      store = changed d.store a.0 a.1 (record {
        edit = record { before = λ i k. refl; behind = λ i k. refl; shorter = omega arith };
        sound = λ q. d.store.clause o a.0 a.1;
        counts = λ k q. refl;
        garbage = omega arith;
        mine = λ q. inl (subst (λ (z : ℕ). In o (list_at (push t o h.tiers) z)) (sym e) (in_pushed h.tiers t o room));
        others = λ k x b n. in_push h.tiers t o room k x n;
        still = still;
        entries = λ k x b n. push_cases h.tiers t o room k x n;
        four_counts = refl;
        four_lists_lem = length_push h.tiers t o;
        long = refl;
      });
      quiet = d.quiet;
      rows = d.rows;
      tuned = d.tuned;
      sided = d.sided;
      reasons = d.reasons;
    }

-- the first of those to be entered is done
first_done : (o : ℕ) (os : List ℕ) → Still o (o ∷ os) os
first_done o os x n m = ⊎_elim (λ e. absurd (n e)) (λ q. q) (elem_cases x o os m)

-- word 1 of one clause changed: the others are as ready as before
pub ready_rest : (w l : List ℕ) (t o : ℕ) (os : List ℕ) (f : ℕ → ℕ) → Ready w l t (o ∷ os) → (In o os → ⊥) → Ready (change_head f o w) l t os
ready_rest w l t o os f r n x m =
    let e : head_at (change_head f o w) x ≡ head_at w x = at_other w (o + 1) (f (head_at w o)) (x + 1) (λ q. n (subst (λ (z : ℕ). In z os) (same x o q) m)) in
    let a = r x (elem_later x o os m) in
    ((a.0.0, rw e a.0.1), rw e a.1)
  where
    same : (a b : ℕ) → a + 1 ≡ b + 1 → a ≡ b
    same a b q = omega arith

-- ---- mids

abbrev MidsLeft : List ℕ → Held → Type 0
MidsLeft os k = Whole k os × Ready k.words k.clauses 2 os

mid_step : (o : ℕ) (os : List ℕ) (k : Held) → (In o os → ⊥) → MidsLeft (o ∷ os) k → MidsLeft os (mid_done k o)
unfolding mid_done mid_kept tier_set moved_to
mid_step o os k n (d, r) = go (active_at k.words o)
  where
    a : Live k.words k.clauses o
    a = (r o (elem_here o os)).0

    two : tier_at k.words o ≡ 2
    two = (r o (elem_here o os)).1

    go : (b : Bool) → MidsLeft os (cond b (list_in 2 o (with_words (change_head (with_active false) o k.words) k)) (tier_set 3 o k))
    go true =
        let e = active_alike (head_at k.words o) false in
        let lives = still_live d.store o a.0 a.1 (with_active false) e.plain e.deleted in
        let tier = same_tier d.store o a.0 a.1 (with_active false) e.plain e.deleted e.tier (λ z. absurd (let q = two in omega arith)) in (
          listed_good (with_words (change_head (with_active false) o k.words) k) (o ∷ os) os (alike_good k (o ∷ os) d o a (with_active false) e) o (a.0, lives) 2 (tier ∙ two) (first_done o os),
          ready_rest k.words k.clauses 2 o os (with_active false) r n,
        )
    go false = moves (eqb (tier_at k.words o) 3) (ne_eqb (tier_at k.words o) 3 (λ q. let z = two in omega arith))
      where
        moves : (b : Bool) → b ≡ false → MidsLeft os (cond b k (moved_to 3 o k))
        moves true e = absurd (true≢false e)
        moves false e = (
          moved_good k k.clauses (o ∷ os) d o a.0 a.1 3 (omega arith) (λ q. let z = two in omega arith) (λ q. absurd (omega arith)) os (first_done o os),
          ready_rest k.words k.clauses 2 o os (with_tier 3) r n,
        )

mids_fold : (os : List ℕ) (k : Held) → Distinct os → MidsLeft os k → Whole (fold_list mid_done k os) []
unfolding fold_list
mids_fold [] k d (g, r) = g
mids_fold (o ∷ os) k (n, d) g = mids_fold os (mid_done k o) d (mid_step o os k n g)

pub mids_good : (h : Held) → Whole h [] → Whole (mids_reduced h) []
unfolding mids_reduced
mids_good h d = mids_fold (cleaned_tier 2 h) (tier_emptied 2 h) (cleaned_distinct h d 2 (omega arith)) (emptied_good h d 2 (omega arith) (cleaned_tier 2 h) (λ x m. m), cleaned_ready h d 2 (omega arith))

-- ---- locals

abbrev LocalsLeft : List ℕ → Round → Type 0
LocalsLeft os r = Whole r.held os × Ready r.held.words r.held.clauses 3 os

local_step : (o : ℕ) (os : List ℕ) (r : Round) → (In o os → ⊥) → LocalsLeft (o ∷ os) r → LocalsLeft os (local_done r o)
unfolding local_done spared struck removed strike_noted
local_step o os r n (d, q) = go (spared r o) refl
  where
    a : Live r.held.words r.held.clauses o
    a = (q o (elem_here o os)).0

    go : (b : Bool) → spared r o ≡ b → LocalsLeft os (cond b (record { left = r.left; held = list_in 3 o r.held }) (record { left = r.left - 1; held = deleted o r.held }))
    go true e = (listed_good r.held (o ∷ os) os d o a 3 (q o (elem_here o os)).1 (first_done o os), (λ x m. q x (elem_later x o os m)))
    go false e = (
      struck_good r.held r.held.clauses (o ∷ os) d o a.0 a.1 4 (no_reason r.held r.held.clauses (o ∷ os) d o a.0 a.1 (second (eqb r.left 0) (asserting r.held o) e)) os (first_done o os),
      ready_rest r.held.words r.held.clauses 3 o os (with_deleted true) q n,
    )
      where
        second : (x y : Bool) → x || y ≡ false → y ≡ false
        second true y f = absurd (true≢false f)
        second false y f = f

locals_fold : (os : List ℕ) (r : Round) → Distinct os → LocalsLeft os r → Whole (fold_list local_done r os).held []
unfolding fold_list
locals_fold [] r d (g, q) = g
locals_fold (o ∷ os) r (n, d) g = locals_fold os (local_done r o) d (local_step o os r n g)

pub locals_good : (h : Held) → Whole h [] → Whole (locals_reduced h) []
unfolding locals_round sorted_locals
locals_good h d =
    let key = sort_key h.words in
    locals_fold (sort_by key (cleaned_tier 3 h)) (record { left = to_strike h; held = tier_emptied 3 h }) (distinct_sort key (cleaned_tier 3 h) (cleaned_distinct h d 3 (omega arith)))
    (emptied_good h d 3 (omega arith) (sort_by key (cleaned_tier 3 h)) (λ x m. in_sort key x (cleaned_tier 3 h) m), (λ x m. cleaned_ready h d 3 (omega arith) x (sort_in key x (cleaned_tier 3 h) m)))
