-- Collecting keeps what passing says. Assumes nothing.
use mathlib.Core.Path.{◌≡◌, refl, sym, ap, ap₂, ◌∙◌, subst}
use mathlib.Core.Bool.{Bool, true, false, cond, true≢false}
use mathlib.Core.Logic.{⊎_elim, ◌⊎◌, inl, inr}
use mathlib.Core.List.{List, [], ◌∷◌, ◌++◌}
use Prim.Native.Nat.{ℕ, zero, suc, ◌+◌, ◌-◌, ◌*◌, ◌≤◌, ◌<◌, max}
use native.Mathlib.Decide.{ℕ_discrete}
use native.Mathlib.Omega.{arith}
use lib.ListN.{length, set, drop, replicate, length-set, length-append, get_or-append}
use lib.Seq.{get_or-append-add}
use lib.Dec.{eqb}
use borrow.Author.Tests.{eq-eqb, eqb-true, eqb-false}
use Rattle.laws.specs.Fold.{fold_list}
use Rattle.laws.specs.Lists.{at, list_at, joined, starts, fill}
use Rattle.laws.proofs.Members.{In, sum_list}
use Rattle.laws.proofs.Entries.{elem_none, elem_here, elem_later, elem_cases, elem_index}
use Rattle.laws.proofs.Pushes.{at_other, at_same}
use Rattle.laws.proofs.Reading.{length_read, at_read}
use Rattle.laws.proofs.Fills.{at_fill_in, length_fill}
use Rattle.kinds.specs.Clauses.{head_at, len_at, size_at, end_at, tier_at, deleted_at, words_at, var_of}
use Rattle.kinds.specs.Held.{Held, Side, kind_of, reason_word}
use Rattle.calls.specs.HostPasses.{on_trail, variable_at}
use Rattle.calls.specs.Collecting.{due, blocks, old_places, live_blocks, new_places, of_tier, by_tier, new_place, followed, host_followed, closed_up, collected}
use Rattle.passing.proofs.Store.{Sound, in_tier_lem, live_words, Chain, Live, Store}
use Rattle.passing.proofs.Good.{Quiet, ReasonIn, Reasons, Sided, Whole}
use Rattle.passing.proofs.Changes.{words_live, words_gone}
use Rattle.passing.proofs.Dropping.{drop_store, all_dropped, undeleted_live, live_undeleted}

-- ---- the clause at o in w stands at n in u

abbrev Copy : List ℕ → List ℕ → ℕ → ℕ → Type 0
Copy w u o n = (j : ℕ) → j < size_at w o → at u (n + j) ≡ at w (o + j)

module _ (w u : List ℕ) (o n : ℕ) (c : Copy w u o n) where
  copy_head : head_at u n ≡ head_at w o
  copy_head = c 1 (omega arith)

  copy_len : len_at u n ≡ len_at w o
  copy_len = c 2 (omega arith)

  copy_activity : at u n ≡ at w o
  copy_activity = ap (at u) (let e : n ≡ n + 0 = omega arith in e) ∙ c 0 (omega arith) ∙ ap (at w) (let e : o + 0 ≡ o = omega arith in e)

  copy_deleted : deleted_at u n ≡ deleted_at w o
  copy_deleted = rw copy_head

  copy_tier : tier_at u n ≡ tier_at w o
  copy_tier = rw copy_head

  copy_count : (t : ℕ) → in_tier_lem u t n ≡ in_tier_lem w t o
  unfolding in_tier_lem
  copy_count t = rw copy_head

  copy_from : (k i : ℕ) → k + i < size_at w o → at u (n + k + i) ≡ at w (o + k + i)
  copy_from k i h = ap (at u) (let e : n + k + i ≡ n + (k + i) = omega arith in e) ∙ c (k + i) h ∙ ap (at w) (let e : o + (k + i) ≡ o + k + i = omega arith in e)

  copy_sound : (v : ℕ) → Sound w v o → Sound u v n
  copy_sound v s =
      let q = copy_len in
      record {
        three = let z = s.three in omega arith;
        most = let z = s.most in omega arith;
        lits = record {
          below = λ j h. let z = s.lits.below j (omega arith) in rw (copy_from 3 j (omega arith)) z;
          apart = λ j k h f e. s.lits.apart j k (omega arith) f (sym (ap var_of (copy_from 3 k (omega arith))) ∙ e ∙ ap var_of (copy_from 3 j (omega arith)));
        };
        mark = rw copy_head s.mark;
        spare = rw copy_head s.spare;
        glue = rw copy_head s.glue;
      }

  copy_reason : (l k values : List ℕ) (x : ℕ) → 3 ≤ len_at w o → Live u k n → ReasonIn w l values x o → ReasonIn u k values x n
  copy_reason l k values x three a r =
      let q = copy_len in
      record {
        live = a;
        first = c 3 (omega arith) ∙ r.first;
        others = λ i h. rw (copy_from 4 i (omega arith)) (r.others i (omega arith));
      }

-- ---- the blocks of some clauses, from k on in u

abbrev Laid : List ℕ → ℕ → List ℕ → Type 0
Laid u k ws = (j : ℕ) → j < length ws → at u (k + j) ≡ at ws j

module _ (w u : List ℕ) (k o : ℕ) (os : List ℕ) (b : Laid u k (joined (blocks w (o ∷ os)))) where
  block_length : length (words_at w o) ≡ size_at w o
  block_length = length_read w o (size_at w o)

  first_copy : Copy w u o k
  unfolding blocks joined
  first_copy j h =
      let e = block_length in
      let a = length-append (words_at w o) (joined (blocks w os)) in
      b j (omega arith) ∙ get_or-append (words_at w o) (joined (blocks w os)) 0 j (omega arith) ∙ at_read w o (size_at w o) j h

  rest_laid : Laid u (k + length (words_at w o)) (joined (blocks w os))
  unfolding blocks joined
  rest_laid j h =
      let a = length-append (words_at w o) (joined (blocks w os)) in
      ap (at u) (let e : k + length (words_at w o) + j ≡ k + (length (words_at w o) + j) = omega arith in e)
      ∙ b (length (words_at w o) + j) (omega arith) ∙ get_or-append-add (words_at w o) (joined (blocks w os)) j 0

module _ (w u : List ℕ) where
  new_chain : (os : List ℕ) (k : ℕ) → Laid u k (joined (blocks w os)) → Chain k (k + length (joined (blocks w os))) u (starts k (blocks w os))
  unfolding blocks joined starts
  new_chain [] k b = omega arith
  new_chain (o ∷ os) k b =
      let c = copy_len w u o k (first_copy w u k o os b) in
      let n = block_length w u k o os b in
      let a = length-append (words_at w o) (joined (blocks w os)) in
      let e : k + length (words_at w o) ≡ end_at u k = omega arith in
      let top : k + length (words_at w o) + length (joined (blocks w os)) ≡ k + length (words_at w o ++ joined (blocks w os)) = omega arith in (
        omega arith,
        subst (λ (z : ℕ). Chain (end_at u k) z u (starts (k + length (words_at w o)) (blocks w os))) top
            (subst (λ (z : ℕ). Chain z (k + length (words_at w o) + length (joined (blocks w os))) u (starts (k + length (words_at w o)) (blocks w os))) e (new_chain os (k + length (words_at w o)) (rest_laid w u k o os b))),
      )

  -- each new place is a copy of an old one
  new_old : (os : List ℕ) (k : ℕ) → Laid u k (joined (blocks w os)) → (n : ℕ) → In n (starts k (blocks w os)) → (o : ℕ) × In o os × Copy w u o n
  unfolding blocks joined starts
  new_old [] k b n m = absurd (elem_none n m)
  new_old (o ∷ os) k b n m = go (new_old os (k + length (words_at w o)) (rest_laid w u k o os b) n) (elem_cases n k (starts (k + length (words_at w o)) (blocks w os)) m)
    where
      go : (In n (starts (k + length (words_at w o)) (blocks w os)) → (x : ℕ) × In x os × Copy w u x n) → (n ≡ k) ⊎ In n (starts (k + length (words_at w o)) (blocks w os)) → (x : ℕ) × In x (o ∷ os) × Copy w u x n
      go ih (inl e) = (o, elem_here o os, subst (λ (z : ℕ). Copy w u o z) (sym e) (first_copy w u k o os b))
      go ih (inr q) = let r = ih q in (r.0, elem_later r.0 o os r.1, r.2)

  -- "long reasons on the trail follow"
  old_new : (os : List ℕ) (k : ℕ) → Laid u k (joined (blocks w os)) → (o : ℕ) → In o os → In (new_place os (starts k (blocks w os)) o) (starts k (blocks w os)) × Copy w u o (new_place os (starts k (blocks w os)) o)
  unfolding blocks joined starts new_place
  old_new [] k b o m = absurd (elem_none o m)
  old_new (y ∷ os) k b o m = go (eqb y o) refl (old_new os (k + length (words_at w y)) (rest_laid w u k y os b) o)
    where
      go : (t : Bool) → eqb y o ≡ t
          → (In o os → In (new_place os (starts (k + length (words_at w y)) (blocks w os)) o) (starts (k + length (words_at w y)) (blocks w os)) × Copy w u o (new_place os (starts (k + length (words_at w y)) (blocks w os)) o))
          → In (cond t k (new_place os (starts (k + length (words_at w y)) (blocks w os)) o)) (k ∷ starts (k + length (words_at w y)) (blocks w os)) × Copy w u o (cond t k (new_place os (starts (k + length (words_at w y)) (blocks w os)) o))
      go true e ih = (elem_here k (starts (k + length (words_at w y)) (blocks w os)), subst (λ (z : ℕ). Copy w u z k) (eqb-true y o e) (first_copy w u k y os b))
      go false e ih =
          let r = ih (⊎_elim (λ q. absurd (eqb-false y o e (sym q))) (λ q. q) (elem_cases o y os m)) in
          (elem_later (new_place os (starts (k + length (words_at w y)) (blocks w os)) o) k (starts (k + length (words_at w y)) (blocks w os)) r.0, r.1)

  new_counts : (t : ℕ) (os : List ℕ) (k : ℕ) → Laid u k (joined (blocks w os)) → sum_list (in_tier_lem u t) (starts k (blocks w os)) ≡ sum_list (in_tier_lem w t) os
  unfolding blocks joined starts
  new_counts t [] k b = refl
  new_counts t (o ∷ os) k b = ap₂ (λ (x y : ℕ). x + y) (copy_count w u o k (first_copy w u k o os b) t) (new_counts t os (k + length (words_at w o)) (rest_laid w u k o os b))

size_most : (u : List ℕ) (o : ℕ) → live_words u o ≤ size_at u o
size_most u o = go (deleted_at u o) refl
  where
    go : (b : Bool) → deleted_at u o ≡ b → live_words u o ≤ size_at u o
    go true e = let z = words_gone u o e in omega arith
    go false e = let z = words_live u o e in omega arith

-- the live words of a chain lie between its ends
chain_sum : (u l : List ℕ) (lo hi : ℕ) → Chain lo hi u l → lo + sum_list (live_words u) l ≤ hi
chain_sum u [] lo hi c = omega arith
chain_sum u (o ∷ l) lo hi (a, c) =
    let r = chain_sum u l (end_at u o) hi c in
    let s = size_most u o in
    omega arith

-- and so do all its words
chain_words : (w os : List ℕ) (lo hi : ℕ) → Chain lo hi w os → lo + length (joined (blocks w os)) ≤ hi
unfolding blocks joined
chain_words w [] lo hi c = omega arith
chain_words w (o ∷ os) lo hi (a, c) =
    let r = chain_words w os (end_at w o) hi c in
    let e = length-append (words_at w o) (joined (blocks w os)) in
    let n = length_read w o (size_at w o) in
    omega arith

-- ---- "tier lists are rebuilt in that order"

by_tier_lem : (u os : List ℕ) (t : ℕ) → t < 4 → list_at (by_tier u os) t ≡ of_tier u t os
unfolding by_tier
by_tier_lem u os zero h = refl
by_tier_lem u os (suc zero) h = refl
by_tier_lem u os (suc (suc zero)) h = refl
by_tier_lem u os (suc (suc (suc zero))) h = refl
by_tier_lem u os (suc (suc (suc (suc t)))) h = absurd (omega arith)

of_tier_in : (u : List ℕ) (t : ℕ) (os : List ℕ) (x : ℕ) → In x (of_tier u t os) → In x os
unfolding of_tier
of_tier_in u t [] x m = m
of_tier_in u t (o ∷ os) x m = go (eqb (tier_at u o) t) m (of_tier_in u t os x)
  where
    go : (b : Bool) → In x (cond b (o ∷ of_tier u t os) (of_tier u t os)) → (In x (of_tier u t os) → In x os) → In x (o ∷ os)
    go true n ih = ⊎_elim (λ e. subst (λ (z : ℕ). In x (z ∷ os)) e (elem_here x os)) (λ q. elem_later x o os (ih q)) (elem_cases x o (of_tier u t os) n)
    go false n ih = elem_later x o os (ih n)

in_of_tier : (u os : List ℕ) (x : ℕ) → In x os → In x (of_tier u (tier_at u x) os)
unfolding of_tier
in_of_tier u [] x m = m
in_of_tier u (o ∷ os) x m = go (in_of_tier u os x) (elem_cases x o os m) (eqb (tier_at u o) (tier_at u x)) refl
  where
    go : (In x os → In x (of_tier u (tier_at u x) os)) → (x ≡ o) ⊎ In x os → (b : Bool) → eqb (tier_at u o) (tier_at u x) ≡ b → In x (cond b (o ∷ of_tier u (tier_at u x) os) (of_tier u (tier_at u x) os))
    go ih (inl e) true f = subst (λ (z : ℕ). In x (z ∷ of_tier u (tier_at u x) os)) e (elem_here x (of_tier u (tier_at u x) os))
    go ih (inl e) false f = absurd (eqb-false (tier_at u o) (tier_at u x) f (ap (tier_at u) (sym e)))
    go ih (inr q) true f = elem_later x o (of_tier u (tier_at u x) os) (ih q)
    go ih (inr q) false f = ih q

-- ---- the host's side

module _ (s : Side) (old new : List ℕ) where
  pub follow_length : (ls rs : List ℕ) → length (fold_list (followed s old new) rs ls) ≡ length rs
  unfolding fold_list followed
  follow_length [] rs = refl
  follow_length (l ∷ ls) rs = follow_length ls (followed s old new rs l) ∙ go (eqb (kind_of s l) 3)
    where
      go : (b : Bool) → length (cond b (set rs (var_of l) (new_place old new (reason_word s l))) rs) ≡ length rs
      go true = length-set rs (var_of l) (new_place old new (reason_word s l))
      go false = refl

  -- a reason that is not long stays
  follow_other : (ls rs : List ℕ) (x : ℕ) → (at s.kinds x ≡ 3 → ⊥) → at (fold_list (followed s old new) rs ls) x ≡ at rs x
  unfolding fold_list followed
  follow_other [] rs x n = refl
  follow_other (l ∷ ls) rs x n = follow_other ls (followed s old new rs l) x n ∙ go (eqb (kind_of s l) 3) refl
    where
      go : (b : Bool) → eqb (kind_of s l) 3 ≡ b → at (cond b (set rs (var_of l) (new_place old new (reason_word s l))) rs) x ≡ at rs x
      go true e = at_other rs (var_of l) (new_place old new (reason_word s l)) x (λ q. n (ap (at s.kinds) q ∙ eqb-true (kind_of s l) 3 e))
      go false e = refl

  abbrev goal : ℕ → ℕ
  goal x = new_place old new (at s.reasons x)

  -- what has followed stays
  follow_stays : (ls rs : List ℕ) (x : ℕ) → x < length rs → at rs x ≡ goal x → at (fold_list (followed s old new) rs ls) x ≡ goal x
  unfolding fold_list followed
  follow_stays [] rs x h e = e
  follow_stays (l ∷ ls) rs x h e = follow_stays ls (followed s old new rs l) x (long (eqb (kind_of s l) 3)) (go (eqb (kind_of s l) 3) (ℕ_discrete x (var_of l)))
    where
      long : (b : Bool) → x < length (cond b (set rs (var_of l) (new_place old new (reason_word s l))) rs)
      long true = let q = length-set rs (var_of l) (new_place old new (reason_word s l)) in omega arith
      long false = h

      go : (b : Bool) → Dec (x ≡ var_of l) → at (cond b (set rs (var_of l) (new_place old new (reason_word s l))) rs) x ≡ goal x
      go true (yes q) = subst (λ (z : ℕ). at (set rs z (new_place old new (at s.reasons z))) x ≡ goal x) q (at_same rs x (goal x) h)
      go true (no q) = at_other rs (var_of l) (new_place old new (reason_word s l)) x q ∙ e
      go false q = e

  follow_in : (ls rs : List ℕ) (l : ℕ) → In l ls → kind_of s l ≡ 3 → var_of l < length rs → at (fold_list (followed s old new) rs ls) (var_of l) ≡ goal (var_of l)
  unfolding fold_list followed
  follow_in [] rs l m k h = absurd (elem_none l m)
  follow_in (y ∷ ls) rs l m k h = go (follow_in ls (followed s old new rs y) l) (elem_cases l y ls m)
    where
      long : (b : Bool) → var_of l < length (cond b (set rs (var_of y) (new_place old new (reason_word s y))) rs)
      long true = let q = length-set rs (var_of y) (new_place old new (reason_word s y)) in omega arith
      long false = h

      here : (b : Bool) → b ≡ true → l ≡ y → at (cond b (set rs (var_of y) (new_place old new (reason_word s y))) rs) (var_of l) ≡ goal (var_of l)
      here true f e = subst (λ (z : ℕ). at (set rs (var_of z) (new_place old new (reason_word s z))) (var_of l) ≡ goal (var_of l)) e (at_same rs (var_of l) (goal (var_of l)) h)
      here false f e = absurd (true≢false (sym f))

      go : (In l ls → kind_of s l ≡ 3 → var_of l < length (followed s old new rs y) → at (fold_list (followed s old new) (followed s old new rs y) ls) (var_of l) ≡ goal (var_of l)) → (l ≡ y) ⊎ In l ls
          → at (fold_list (followed s old new) (followed s old new rs y) ls) (var_of l) ≡ goal (var_of l)
      go ih (inl e) = follow_stays ls (followed s old new rs y) (var_of l) (long (eqb (kind_of s y) 3)) (here (eqb (kind_of s y) 3) (eq-eqb (kind_of s y) 3 (ap (kind_of s) (sym e) ∙ k)) e)
      go ih (inr q) = ih q k (long (eqb (kind_of s y) 3))

  followed_side : (v : ℕ) → Sided v s → Sided v (host_followed old new s)
  unfolding host_followed on_trail variable_at
  followed_side v d =
      let h = d.side in
      record {
        side = record {
          values = h.values;
          kinds = h.kinds;
          trail = h.trail;
          level = h.level;
          lits = λ j k. let c = h.lits j k in record { true_there = c.true_there; low = c.low; high = c.high; level = c.level };
          removed = h.removed;
          binary = λ j k q. rw (follow_other s.trail s.reasons (var_of (at s.trail j)) (λ e. omega arith)) (h.binary j k q);
        };
        levels = d.levels;
        values_long = d.values_long;
        kinds_long = d.kinds_long;
        reasons_long = follow_length s.trail s.reasons ∙ d.reasons_long;
      }

-- ---- all of it

module _ (h : Held) (d : Whole h []) where
  abbrev w : List ℕ
  w = h.words

  abbrev old : List ℕ
  old = old_places h

  abbrev new : List ℕ
  new = new_places h

  abbrev all : List ℕ
  all = joined (live_blocks h)

  abbrev u : List ℕ
  u = fill w h.used all

  laid : Laid u 0 all
  laid j k = ap (at u) (let e : 0 + j ≡ j = omega arith in e) ∙ at_fill_in w h.used all j k

  room : length all ≤ length u
  unfolding fill
  room = let e = length-append all (replicate (h.used - length all) 0 ++ drop (max h.used (length all)) w) in omega arith

  S : Store h.vars w h.used old h.counts h.garbage h.tiers []
  S = all_dropped w (λ (k : List ℕ). Store h.vars w h.used k h.counts h.garbage h.tiers []) (λ a o b e. drop_store w a o b e) h.clauses d.store

  pub closed_long : length u ≡ length w
  closed_long =
      let a = chain_words w old 0 h.used S.chain in
      let b = d.store.room in
      length_fill w h.used all b (omega arith)

  chain : Chain 0 (length all) u new
  chain = subst (λ (z : ℕ). Chain 0 z u new) (let e : 0 + length all ≡ length all = omega arith in e) (new_chain w u old 0 laid)

  live : (n : ℕ) → In n new → Live u new n
  live n m =
      let r = new_old w u old 0 laid n m in
      (m, copy_deleted w u r.0 n r.2 ∙ (undeleted_live w h.clauses r.0 r.1).1)

  new_store : Store h.vars u (length all) new h.counts 0 (by_tier u new) []
  unfolding by_tier
  new_store = record {
    chain = chain;
    clause = λ n m e.
        let r = new_old w u old 0 laid n m in
        copy_sound w u r.0 n r.2 h.vars (S.clause r.0 r.1 (undeleted_live w h.clauses r.0 r.1).1);
    counts = λ t k. S.counts t k ∙ sym (new_counts w u t old 0 laid);
    garbage = chain_sum u new 0 (length all) chain;
    covered = λ n m e. inl (subst (λ (l : List ℕ). In n l) (sym (by_tier_lem u new (tier_at u n) (let z : tier_at u n < 4 = omega arith in z))) (in_of_tier u new n m));
    entry = λ t e k m. inl (live e (of_tier_in u t new e (subst (λ (l : List ℕ). In e l) (by_tier_lem u new t k) m)));
    four_counts = S.four_counts;
    four_lists_lem = refl;
    room = room;
  }

  new_quiet : Quiet u new
  new_quiet n m e =
      let r = new_old w u old 0 laid n m in
      let a = undeleted_live w h.clauses r.0 r.1 in
      let z = d.quiet r.0 a.0 a.1 in
      rw (copy_activity w u r.0 n r.2) z

  new_reasons : Reasons u new (host_followed old new h.host)
  unfolding host_followed
  new_reasons j k q =
      let s = h.host in
      let x = at s.trail j in
      let c = d.reasons j k q in
      let o = reason_word s x in
      let m = live_undeleted w h.clauses o c.live in
      let n = old_new w u old 0 laid o m in
      let low : x < 2 * h.vars = subst (λ (z : ℕ). at s.trail z < 2 * h.vars) (let e : 0 + j ≡ j = omega arith in e) (d.sided.side.trail.below j k) in
      let inside : var_of x < length s.reasons = let z = d.sided.reasons_long in omega arith in
      subst (λ (z : ℕ). ReasonIn u new s.values x z) (sym (follow_in s old new s.trail s.reasons x (elem_index s.trail j k) q inside))
      (copy_reason w u o (new_place old new o) n.1 h.clauses new s.values x (S.clause o m c.live.1).three (live (new_place old new o) n.0) c)

  closed_good : Whole (closed_up h) []
  unfolding closed_up
  closed_good = record {
    store = new_store;
    quiet = new_quiet;
    rows = d.rows;
    tuned = d.tuned;
    sided = followed_side h.host old new h.vars d.sided;
    reasons = new_reasons;
  }

  pub collected_good : Whole (collected h) []
  unfolding collected
  collected_good = go (due h)
    where
      go : (b : Bool) → Whole (cond b (closed_up h) h) []
      go true = closed_good
      go false = d
