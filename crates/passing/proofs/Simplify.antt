-- Simplifying keeps what passing says. Assumes nothing.
use mathlib.Core.Path.{◌≡◌, refl, sym, ap, ◌∙◌, subst}
use mathlib.Core.Bool.{Bool, true, false, cond}
use mathlib.Core.Logic.{inl}
use mathlib.Core.List.{List, [], ◌∷◌, ◌++◌, append-nil}
use Prim.Native.Nat.{ℕ, suc, ◌+◌, ◌≤◌, ◌<◌}
use native.Mathlib.Omega.{arith}
use lib.ListN.{length}
use lib.Seq.{sets, length-sets}
use lib.Dec.{eqb}
use borrow.Author.Tests.{eqb-true, eqb-false}
use Rattle.laws.specs.Fold.{fold_list}
use Rattle.laws.specs.Lists.{at, read_n}
use Rattle.laws.proofs.Members.{In, in_right, Distinct}
use Rattle.laws.proofs.Entries.{elem_here, elem_later}
use Rattle.laws.proofs.Reading.{at_sets_below, at_sets_above, at_sets, length_read, read_same}
use Rattle.kinds.specs.Header.{with_deleted}
use Rattle.kinds.specs.Clauses.{head_at, len_at, end_at, deleted_at, lits_at, original_at, change_head, var_of}
use Rattle.kinds.specs.Lines.{line, strike_kind, entry_kind}
use Rattle.kinds.specs.Held.{Held, Side, with_clauses, noted, kind_of, reason_word}
use Rattle.kinds.specs.declared.Verdict.TheVariants.{Satisfied, Same, Shorter}
use Rattle.calls.specs.Adding.{removed, strike_noted, struck, added_pair}
use Rattle.calls.specs.Refusing.{lacking}
use Rattle.calls.specs.Simplifying.{binaries_cleaned, any_true, unfalsified, verdict_of, shorter_noted, shortened, kept, shorter_done, verdict_done, clause_done, simplified}
use Rattle.passing.proofs.Store.{Sound, in_tier_lem, Chain, chain_in, chain_distinct, Live, Store, Same as SameWords, Edit, changed, apart_same, deleted_same, len_same}
use Rattle.passing.proofs.Good.{Quiet, Good, Whole}
use Rattle.passing.proofs.Changes.{set_edit, quiet_frame, words_live, deleted_there}
use Rattle.passing.proofs.OneClause.{still_all, noted_good, removed_good, struck_good}
use Rattle.passing.proofs.Dropping.{drop_store, drop_quiet, drop_reasons, passed_on}
use Rattle.passing.proofs.Rows.{pair_even, cleaned_even}
use Rattle.passing.proofs.Literals.{Vars, vars_below, vars_apart, lits_vars, unfalsified_vars, unfalsified_most, two_left}

-- ---- a clause's literals depend on its own words

lits_same : (w u : List ℕ) (o : ℕ) → SameWords o (end_at w o) w u → lits_at u o ≡ lits_at w o
lits_same w u o s = ap (read_n u (o + 3)) (len_same w u o s) ∙ read_same u w (o + 3) (o + 3) (len_at w o) (λ j h. s (o + 3 + j) (omega arith) (omega arith))

-- ---- the shorter form over the front

module _ {v : ℕ} {w : List ℕ} {used : ℕ} {l cs : List ℕ} {g : ℕ} {ts : List (List ℕ)} {p : List ℕ} (S : Store v w used l cs g ts p) (o : ℕ) (m : In o l) (live : deleted_at w o ≡ false)
    (ls : List ℕ) (three : 3 ≤ length ls) (most : length ls ≤ len_at w o) (vars : Vars v ls) where
  abbrev short : List ℕ
  short = sets w (o + 2) (length ls ∷ ls)

  room : end_at w o ≤ length w
  room = let a = (chain_in 0 used w l S.chain o m).1 in let b = S.room in omega arith

  short_len : len_at short o ≡ length ls
  short_len = ap (at short) (let e : o + 2 ≡ o + 2 + 0 = omega arith in e) ∙ at_sets (length ls ∷ ls) w (o + 2) 0 (omega arith) (let z = room in omega arith)

  short_lit : (j : ℕ) → j < length ls → at short (o + 3 + j) ≡ at ls j
  short_lit j h = ap (at short) (let e : o + 3 + j ≡ o + 2 + suc j = omega arith in e) ∙ at_sets (length ls ∷ ls) w (o + 2) (suc j) (omega arith) (let z = room in omega arith)

  short_head : head_at short o ≡ head_at w o
  short_head = at_sets_below (length ls ∷ ls) w (o + 2) (o + 1) (omega arith)

  short_live : deleted_at short o ≡ false
  short_live = rw short_head live

  pub short_edit : Edit w short o
  short_edit = record {
    before = λ i h. at_sets_below (length ls ∷ ls) w (o + 2) i (omega arith);
    behind = λ i h. at_sets_above (length ls ∷ ls) w (o + 2) i (omega arith);
    shorter = let e = short_len in omega arith;
  }

  short_sound : Sound w v o → Sound short v o
  short_sound c =
      let e = short_len in
      record {
        three = omega arith;
        most = let z = c.most in omega arith;
        lits = record {
          below = λ j h. let z = vars_below v ls vars j (omega arith) in rw (short_lit j (omega arith)) z;
          apart = λ j k h f q. vars_apart v ls vars j k (omega arith) f (sym (ap var_of (short_lit k (omega arith))) ∙ q ∙ ap var_of (short_lit j (omega arith)));
        };
        mark = rw short_head c.mark;
        spare = rw short_head c.spare;
        glue = rw short_head c.glue;
      }

  short_count : (t : ℕ) → in_tier_lem short t o ≡ in_tier_lem w t o
  unfolding in_tier_lem
  short_count t = rw short_head

  pub short_store : Store v short used l cs g ts p
  short_store = changed S m live (record {
    edit = short_edit;
    sound = λ q. short_sound (S.clause o m live);
    counts = λ t h. let e = short_count t in omega arith;
    garbage = let a = words_live w o live in let b = words_live short o short_live in let e = short_len in omega arith;
    mine = λ q. rw short_head (S.covered o m live);
    others = λ t y h n. n;
    still = λ y e n. n;
    entries = λ t y h n. inl n;
    four_counts = refl;
    four_lists_lem = refl;
    long = length-sets w (o + 2) (length ls ∷ ls);
  })

  pub short_quiet : Quiet w l → Quiet short l
  short_quiet q = quiet_frame S m short_edit (λ z. rw (at_sets_below (length ls ∷ ls) w (o + 2) o (omega arith)) (q o m live)) q

-- ---- the walk: what is done stands in the clause list, os lies ahead

record Walking (s : Side) (os : List ℕ) (k : Held) : Type 0 where
  good : Good k (k.clauses ++ os) []
  host : k.host ≡ s
  ready : (x : ℕ) → In x os → deleted_at k.words x ≡ false → lacking s.values (lits_at k.words x) ≡ false

module _ (s : Side) (bare : s.trail ≡ []) where
  none : (k : Held) → k.host ≡ s → {A : Type 0} → (j : ℕ) → j < length k.host.trail → A
  none k e j h = absurd (let z : length k.host.trail ≡ 0 = ap (λ (t : Side). length t.trail) e ∙ ap length bare in omega arith)

  -- a change of the clause at o leaves those ahead
  ahead : (w u a : List ℕ) (o : ℕ) (os : List ℕ) (used : ℕ) → Chain 0 used w (a ++ (o ∷ os)) → Edit w u o → (x : ℕ) → In x os
      → (deleted_at w x ≡ false → lacking s.values (lits_at w x) ≡ false) → deleted_at u x ≡ false → lacking s.values (lits_at u x) ≡ false
  ahead w u a o os used c e x m r q =
      let other : x ≡ o → ⊥ = λ z. front a c (subst (λ (y : ℕ). In y os) z m) in
      let f = apart_same 0 used w u (a ++ (o ∷ os)) o c (in_right o a (o ∷ os) (elem_here o os)) e x (in_right x a (o ∷ os) (elem_later x o os m)) other in
      ap (lacking s.values) (lits_same w u x f) ∙ r (sym (deleted_same w u x f) ∙ q)
    where
      tail : (a : List ℕ) → Distinct (a ++ (o ∷ os)) → In o os → ⊥
      tail [] d = d.0
      tail (y ∷ a) d = tail a d.1

      front : (a : List ℕ) → Chain 0 used w (a ++ (o ∷ os)) → In o os → ⊥
      front a c = tail a (chain_distinct 0 used w (a ++ (o ∷ os)) c)

  drop_good : (k : Held) (a : List ℕ) (o : ℕ) (os p : List ℕ) → Good k (a ++ (o ∷ os)) p → deleted_at k.words o ≡ true → Good k (a ++ os) p
  drop_good k a o os p d e = record {
    store = drop_store k.words a o os e d.store;
    quiet = drop_quiet k.words a o os e d.quiet;
    rows = d.rows;
    tuned = d.tuned;
    sided = d.sided;
    reasons = drop_reasons k.words a o os e k.host d.reasons;
  }

  module _ (k : Held) (o : ℕ) (os : List ℕ) (r : Walking s (o ∷ os) k) where
    abbrev l : List ℕ
    l = k.clauses ++ (o ∷ os)

    here : In o l
    here = in_right o k.clauses (o ∷ os) (elem_here o os)

    skipped : deleted_at k.words o ≡ true → Walking s os k
    skipped e = record { good = drop_good k k.clauses o os [] r.good e; host = r.host; ready = λ x m q. r.ready x (elem_later x o os m) q }

    ready_after : (u : List ℕ) → Edit k.words u o → (x : ℕ) → In x os → deleted_at u x ≡ false → lacking s.values (lits_at u x) ≡ false
    ready_after u e x m = ahead k.words u k.clauses o os k.used r.good.store.chain e x m (r.ready x (elem_later x o os m))

    module _ (live : deleted_at k.words o ≡ false) where
      no_reasons : (j : ℕ) → j < length k.host.trail → kind_of k.host (at k.host.trail j) ≡ 3 → reason_word k.host (at k.host.trail j) ≡ o → ⊥
      no_reasons j h q e = none k r.host j h

      gone : deleted_at (change_head (with_deleted true) o k.words) o ≡ true
      gone = deleted_there r.good.store o here live [] (still_all o [])

      walk_struck : Walking s os (struck 5 o k)
      unfolding struck removed strike_noted
      walk_struck = record {
        good = drop_good (struck 5 o k) k.clauses o os [] (struck_good k l [] r.good o here live 5 no_reasons [] (still_all o [])) gone;
        host = r.host;
        ready = ready_after (change_head (with_deleted true) o k.words) (set_edit k.words o (o + 1) (with_deleted true (head_at k.words o)) (omega arith) (omega arith));
      }

      walk_kept : Walking s os (kept o k)
      walk_kept = record {
        good = let d = subst (λ (z : List ℕ). Good k z []) (sym (passed_on k.clauses o os)) r.good in
            record { store = d.store; quiet = d.quiet; rows = d.rows; tuned = d.tuned; sided = d.sided; reasons = d.reasons };
        host = r.host;
        ready = λ x m q. r.ready x (elem_later x o os m) q;
      }

      module _ (quiet : any_true s.values (lits_at k.words o) ≡ false) where
        abbrev ls : List ℕ
        ls = unfalsified s.values (lits_at k.words o)

        vars : Vars k.vars ls
        vars = unfalsified_vars k.vars s.values (lits_at k.words o) (lits_vars k.words k.vars (o + 3) (len_at k.words o) (r.good.store.clause o here live).lits)

        two : 2 ≤ length ls
        two = two_left s.values (lits_at k.words o) (r.ready o (elem_here o os) live) quiet

        most : length ls ≤ len_at k.words o
        most = let a = unfalsified_most s.values (lits_at k.words o) in let b = length_read k.words (o + 3) (len_at k.words o) in omega arith

        noted_shorter : Good (shorter_noted ls o k) l []
        unfolding shorter_noted strike_noted
        noted_shorter = noted_good (noted (line (entry_kind (original_at k.words o) (length ls)) ls) k) l [] (line (strike_kind (original_at k.words o) 6) (lits_at k.words o)) (noted_good k l [] (line (entry_kind (original_at k.words o) (length ls)) ls) r.good)

        walk_pair : length ls ≡ 2 → Walking s os (added_pair (at ls 0) (at ls 1) (removed o (shorter_noted ls o k)))
        unfolding added_pair removed shorter_noted strike_noted
        walk_pair e =
            let d = drop_good (removed o (shorter_noted ls o k)) k.clauses o os [] (removed_good (shorter_noted ls o k) l [] noted_shorter o here live no_reasons [] (still_all o [])) gone in
            record {
              good = record {
                store = d.store;
                quiet = d.quiet;
                rows = pair_even k.vars k.rows k.binary r.good.rows (at ls 0) (at ls 1) (vars_below k.vars ls vars 0 (omega arith)) (vars_below k.vars ls vars 1 (omega arith)) (vars_apart k.vars ls vars 1 0 (omega arith) (omega arith));
                tuned = d.tuned;
                sided = d.sided;
                reasons = d.reasons;
              };
              host = r.host;
              ready = ready_after (change_head (with_deleted true) o k.words) (set_edit k.words o (o + 1) (with_deleted true (head_at k.words o)) (omega arith) (omega arith));
            }

        walk_shorter : 3 ≤ length ls → Walking s os (kept o (shortened ls o (shorter_noted ls o k)))
        unfolding shortened shorter_noted strike_noted
        walk_shorter three =
            let S = short_store r.good.store o here live ls three most vars in
            let Q = short_quiet r.good.store o here live ls three most vars r.good.quiet in
            let e = sym (passed_on k.clauses o os) in
            let u = sets k.words (o + 2) (length ls ∷ ls) in
            record {
              good = record {
                store = subst (λ (z : List ℕ). Store k.vars u k.used z k.counts k.garbage k.tiers []) e S;
                quiet = subst (λ (z : List ℕ). Quiet u z) e Q;
                rows = r.good.rows;
                tuned = r.good.tuned;
                sided = r.good.sided;
                reasons = λ j h q. none k r.host j h;
              };
              host = r.host;
              ready = ready_after u (short_edit r.good.store o here live ls three most vars);
            }

        walk_less : (b : Bool) → eqb (length ls) 2 ≡ b → Walking s os (cond b (added_pair (at ls 0) (at ls 1) (removed o (shorter_noted ls o k))) (kept o (shortened ls o (shorter_noted ls o k))))
        walk_less true e = walk_pair (eqb-true (length ls) 2 e)
        walk_less false e = walk_shorter (let n = eqb-false (length ls) 2 e in let z = two in omega arith)

      walk_live : Walking s os (verdict_done (verdict_of k.host.values (lits_at k.words o)) o k)
      unfolding verdict_of verdict_done shorter_done
      walk_live = subst (λ (t : Side). Walking s os (verdict_done (verdict_of t.values (lits_at k.words o)) o k)) (sym r.host) (go (any_true s.values (lits_at k.words o)) refl (eqb (length (unfalsified s.values (lits_at k.words o))) (length (lits_at k.words o))))
        where
          go : (a : Bool) → any_true s.values (lits_at k.words o) ≡ a → (b : Bool) → Walking s os (verdict_done (cond a Satisfied (cond b Same (Shorter (length (unfalsified s.values (lits_at k.words o)))))) o k)
          go true e b = walk_struck
          go false e true = walk_kept
          go false e false = subst (λ (t : Side). Walking s os (shorter_done (unfalsified t.values (lits_at k.words o)) o k)) (sym r.host) (walk_less e (eqb (length (ls e)) 2) refl)

    walk_step : Walking s os (clause_done k o)
    unfolding clause_done
    walk_step = go (deleted_at k.words o) refl
      where
        go : (b : Bool) → deleted_at k.words o ≡ b → Walking s os (cond b k (verdict_done (verdict_of k.host.values (lits_at k.words o)) o k))
        go true e = skipped e
        go false e = walk_live e

  walk : (os : List ℕ) (k : Held) → Walking s os k → Whole (fold_list clause_done k os) []
  unfolding fold_list
  walk [] k r = subst (λ (z : List ℕ). Good k z []) (append-nil k.clauses) r.good
  walk (o ∷ os) k r = walk os (clause_done k o) (walk_step k o os r)

pub simplified_good : (h : Held) → Whole h [] → h.host.trail ≡ [] → ((x : ℕ) → Live h.words h.clauses x → lacking h.host.values (lits_at h.words x) ≡ false) → Whole (simplified h) []
unfolding simplified binaries_cleaned
simplified_good h d bare ready = walk h.host bare h.clauses (with_clauses [] (binaries_cleaned h)) (record {
  good = record {
    store = d.store;
    quiet = d.quiet;
    rows = cleaned_even h.vars h.rows h.binary h.host.values d.rows;
    tuned = d.tuned;
    sided = d.sided;
    reasons = d.reasons;
  };
  host = refl;
  ready = λ x m q. ready x (m, q);
})
