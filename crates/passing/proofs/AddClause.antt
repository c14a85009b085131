-- Adding a long clause keeps what passing says. Assumes nothing.
use mathlib.Core.Path.{◌≡◌, sym, ap, ◌∙◌, subst}
use mathlib.Core.Bool.{false}
use mathlib.Core.Logic.{⊎_elim, inl, inr}
use mathlib.Core.List.{List, [], ◌∷◌}
use Prim.Native.Nat.{ℕ, suc, ◌+◌, ◌*◌, ◌≤◌, ◌<◌}
use native.Mathlib.Decide.{ℕ_discrete}
use native.Mathlib.Omega.{arith}
use lib.ListN.{length}
use lib.Seq.{sets, length-sets}
use lib.Dec.{eqb}
use borrow.Author.Tests.{ne_eqb}
use Rattle.laws.specs.Lists.{at, list_at, snoc, push, more}
use Rattle.laws.proofs.Members.{In, in_left, in_last, in_snoc, sum_append, sum_each}
use Rattle.laws.proofs.Pushes.{in_pushed, in_push, push_cases, length_push, more_here, more_other, length_more}
use Rattle.laws.proofs.Reading.{at_sets_below, at_sets}
use Rattle.kinds.specs.Header.{tier_of, deleted_of, new_head}
use Rattle.kinds.specs.Clauses.{head_at, len_at, end_at, tier_at, deleted_at, var_of}
use Rattle.kinds.specs.Floats.{limit_bits}
use Rattle.kinds.specs.Held.{Held, Side, reason_word}
use Rattle.calls.specs.Adding.{new_words, added_long}
use Rattle.calls.proofs.Readings.{Lits}
use Rattle.passing.proofs.Store.{Sound, in_tier_lem, live_words, chain_in, chain_same, chain_append, Stale, Live, Store, Same, deleted_same, tier_same, end_same, len_same, in_tier_same, live_words_same, sound_same}
use Rattle.passing.proofs.Good.{Quiet, Reasons, Good}
use Rattle.passing.proofs.Heads.{new_tier, new_deleted, new_mark, new_spare, new_glue_lem}
use Rattle.passing.proofs.Changes.{in_tier_yes, in_tier_no, words_live}

-- an accepted long clause
pub record LongGiven (v t g : ℕ) (ls : List ℕ) : Type 0 where
  pub three : 3 ≤ length ls
  pub most : length ls ≤ v
  pub lits : Lits ls v 0 (length ls)
  pub tier : t < 4
  pub glue : t ≡ 0 → g ≡ 0

module _ {v : ℕ} {w : List ℕ} {used : ℕ} {l cs : List ℕ} {g : ℕ} {ts : List (List ℕ)} {p : List ℕ} (S : Store v w used l cs g ts p)
    (t gl : ℕ) (ls : List ℕ) (G : LongGiven v t gl ls) (fit : used + (length ls + 3) ≤ length w) where
  abbrev u : List ℕ
  u = sets w used (new_words t gl ls)

  old : Same 0 used w u
  old i a b = at_sets_below (new_words t gl ls) w used i b

  own : (x : ℕ) → In x l → Same x (end_at w x) w u
  own x m i a b = let z = (chain_in 0 used w l S.chain x m).1 in old i (omega arith) (omega arith)

  new : (j : ℕ) → j < length ls + 3 → at u (used + j) ≡ at (new_words t gl ls) j
  new j h = at_sets (new_words t gl ls) w used j (omega arith) (omega arith)

  new_activity : at u used ≡ 0
  new_activity = let e : used + 0 ≡ used = omega arith in subst (λ (k : ℕ). at u k ≡ 0) e (new 0 (omega arith))

  new_head_lem : head_at u used ≡ new_head t gl
  new_head_lem = new 1 (omega arith)

  new_len : len_at u used ≡ length ls
  new_len = new 2 (omega arith)

  new_lit : (j : ℕ) → j < length ls → at u (used + 3 + j) ≡ at ls j
  new_lit j h = subst (λ (k : ℕ). at u k ≡ at ls j) (let e : used + suc (suc (suc j)) ≡ used + 3 + j = omega arith in e) (new (suc (suc (suc j))) (omega arith))

  new_lives : deleted_at u used ≡ false
  new_lives = ap (λ (n : ℕ). eqb (deleted_of n) 1) new_head_lem ∙ ap (λ (n : ℕ). eqb n 1) (new_deleted t gl G.tier) ∙ ne_eqb 0 1 (λ e. omega arith)

  new_in_lem : tier_at u used ≡ t
  new_in_lem = ap tier_of new_head_lem ∙ new_tier t gl G.tier

  new_sound : Sound u v used
  new_sound =
      let n = new_len in
      record {
        three = let z = G.three in omega arith;
        most = let z = G.most in omega arith;
        lits = record {
          below = λ j h. let z = G.lits.below j (omega arith) in rw (new_lit j (omega arith)) (subst (λ (k : ℕ). at ls k < 2 * v) (zero_plus j) z);
          apart = λ j k h f q.
              G.lits.apart j k (omega arith) f (ap (λ (x : ℕ). var_of (at ls x)) (zero_plus k) ∙ sym (ap var_of (new_lit k (omega arith))) ∙ q ∙ ap var_of (new_lit j (omega arith)) ∙ sym (ap (λ (x : ℕ). var_of (at ls x)) (zero_plus j)));
        };
        mark = rw new_head_lem (new_mark t gl G.tier);
        spare = rw new_head_lem (new_spare t gl G.tier);
        glue = λ z. rw new_head_lem (new_glue_lem t gl G.tier (G.glue (sym new_in_lem ∙ z)));
      }
    where
      zero_plus : (j : ℕ) → 0 + j ≡ j
      zero_plus j = omega arith

  abbrev used' : ℕ
  used' = used + (length ls + 3)

  new_count : (k : ℕ) → k < 4 → at (more t cs) k ≡ at cs k + in_tier_lem u k used
  new_count k h = go (ℕ_discrete k t)
    where
      go : Dec (k ≡ t) → at (more t cs) k ≡ at cs k + in_tier_lem u k used
      go (yes e) = subst (λ (z : ℕ). at (more t cs) z ≡ at cs z + in_tier_lem u z used) (sym e)
          (let a = more_here cs t (let q = S.four_counts in let z = G.tier in omega arith) in
          let b : in_tier_lem u t used ≡ 1 = subst (λ (z : ℕ). in_tier_lem u z used ≡ 1) new_in_lem (in_tier_yes u used new_lives) in
          omega arith)
      go (no e) =
          let a = more_other cs t k e in
          let b = in_tier_no u k used new_lives (λ q. e (sym q ∙ new_in_lem)) in
          omega arith

  stale_added : (e : ℕ) → Stale w used l e → Stale u used' (snoc l used) e
  stale_added e s = record {
    within = let z = s.within in omega arith;
    deleted = let z = s.within in rw (old (e + 1) (omega arith) (omega arith)) s.deleted;
    outside = λ x m d a b.
        let z = s.within in
        ⊎_elim
        (λ n. let f = own x n in let q = end_same w u x f in s.outside x n (sym (deleted_same w u x f) ∙ d) a (omega arith))
        (λ q. absurd (omega arith))
        (in_snoc x used l m);
  }

  room_t : t < length ts
  room_t = let q = S.four_lists_lem in let z = G.tier in omega arith

  pub added_store : Store v u used' (snoc l used) (more t cs) g (push t used ts) p
  added_store = record {
    chain = chain_append 0 used used' u l (used ∷ []) (chain_same 0 used w u l old S.chain) (let n = new_len in (omega arith, omega arith));
    clause = λ x m d. ⊎_elim
        (λ n. let f = own x n in sound_same w u x f v (S.clause x n (sym (deleted_same w u x f) ∙ d)))
        (λ q. subst (λ (z : ℕ). Sound u v z) (sym q) new_sound)
        (in_snoc x used l m);
    counts = λ k h.
        let a = new_count k h in
        let b = S.counts k h in
        let c = sum_append (in_tier_lem u k) l (used ∷ []) in
        let d = sum_each (in_tier_lem u k) (in_tier_lem w k) l (λ x m. in_tier_same w u x (own x m) k) in
        omega arith;
    garbage =
        let a = S.garbage in
        let b = sum_append (live_words u) l (used ∷ []) in
        let c = sum_each (live_words u) (live_words w) l (λ x m. live_words_same w u x (own x m)) in
        let d = words_live u used new_lives in
        let e = new_len in
        omega arith;
    covered = λ x m d. ⊎_elim
        (λ n. let f = own x n in ⊎_elim
        (λ q. inl (subst (λ (z : ℕ). In x (list_at (push t used ts) z)) (sym (tier_same w u x f)) (in_push ts t used room_t (tier_at w x) x q)))
        (λ q. inr q)
        (S.covered x n (sym (deleted_same w u x f) ∙ d)))
        (λ q. inl (subst (λ (z : ℕ). In z (list_at (push t used ts) (tier_at u z))) (sym q) (subst (λ (z : ℕ). In used (list_at (push t used ts) z)) (sym new_in_lem) (in_pushed ts t used room_t))))
        (in_snoc x used l m);
    entry = λ k e h m. ⊎_elim
        (λ n. ⊎_elim
        (λ q. inl (in_left e l (used ∷ []) q.0, deleted_same w u e (own e q.0) ∙ q.1))
        (λ q. inr (stale_added e q))
        (S.entry k e h n))
        (λ q. inl (subst (λ (z : ℕ). Live u (snoc l used) z) (sym q) (in_last used l, new_lives)))
        (push_cases ts t used room_t k e m);
    four_counts = length_more cs t ∙ S.four_counts;
    four_lists_lem = length_push ts t used ∙ S.four_lists_lem;
    room = let e = length-sets w used (new_words t gl ls) in omega arith;
  }

  pub added_quiet : Quiet w l → Quiet u (snoc l used)
  added_quiet q x m d = ⊎_elim
      (λ n. let f = own x n in let a = q x n (sym (deleted_same w u x f) ∙ d) in rw (f x (omega arith) (omega arith)) a)
      (λ e. subst (λ (z : ℕ). at u z ≤ limit_bits) (sym e) (rw new_activity (omega arith)))
      (in_snoc x used l m)

  pub added_reasons : (s : Side) → Reasons w l s → Reasons u (snoc l used) s
  added_reasons s r j k q =
      let x = reason_word s (at s.trail j) in
      let c = r j k q in
      let n = c.live.0 in
      let a = own x n in
      let three = (S.clause x n c.live.1).three in
      let len = len_same w u x a in
      record {
        live = (in_left x l (used ∷ []) n, deleted_same w u x a ∙ c.live.1);
        first = a (x + 3) (omega arith) (omega arith) ∙ c.first;
        others = λ i f. rw (a (x + 4 + i) (omega arith) (omega arith)) (c.others i (omega arith));
      }

pub added_good : (h : Held) (l p : List ℕ) → Good h l p → (t g : ℕ) (ls : List ℕ) → LongGiven h.vars t g ls → h.used + (length ls + 3) ≤ length h.words → Good (added_long t g ls h) (snoc l h.used) p
unfolding added_long
added_good h l p d t g ls G fit = record {
  store = added_store d.store t g ls G fit;
  quiet = added_quiet d.store t g ls G fit d.quiet;
  rows = d.rows;
  tuned = d.tuned;
  sided = d.sided;
  reasons = added_reasons d.store t g ls G fit h.host d.reasons;
}
