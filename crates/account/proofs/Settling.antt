-- Simplifying one long clause: struck where it is satisfied, entered shorter and struck where literals are false, or kept. Assumes nothing.
use mathlib.Core.Path.{◌≡◌, refl, sym, ◌∙◌, subst}
use mathlib.Core.Bool.{Bool, true, false, cond, ◌||◌}
use mathlib.Core.List.{List, [], ◌∷◌, ◌++◌, append-nil, append_assoc}
use Prim.Native.Nat.{ℕ, suc, ◌+◌, ◌≤◌}
use native.Mathlib.Omega.{arith}
use native.Mathlib.Nat.{add-zero}
use lib.ListN.{length, length-set}
use lib.Dec.{eqb}
use lib.Seq.{sets, length-sets}
use borrow.Author.Tests.{eqb-true}
use Rattle.laws.specs.Lists.{at, read_n, snoc}
use Rattle.laws.proofs.Writing.{sets_below, sets_above, sets_at, read_n_sets, read_n_tail, read_n_all, length_read_n}
use Rattle.laws.proofs.Entries.{elem_here, elem_later}
use Rattle.kinds.specs.Clauses.{Clause, clause_at, head_at, len_at, lits_at, end_at, deleted_at, original_at, longs, pairs}
use Rattle.kinds.specs.Lines.{Line, line, line_words, flat, of_kind, is_entry, is_strike, strike_kind, entry_kind}
use Rattle.kinds.specs.Held.{Held, with_clauses}
use Rattle.kinds.specs.declared.Verdict.TheVariants.{Satisfied, Same, Shorter}
use Rattle.demands.specs.Demands.{AllReasoned, none_struck, is_true, entered_before}
use Rattle.calls.specs.Adding.{removed, strike_noted, struck, pair_pushed, added_pair}
use Rattle.calls.specs.Simplifying.{any_true, unfalsified, verdict_of, shorter_noted, shortened, kept, shorter_done, verdict_done, clause_done}
use Rattle.account.specs.Open.{OpenLits, AllOpen, RowsOpen}
use Rattle.account.specs.Weights.{total, weigh, Blind, entered, struck_in, Chained}
use Rattle.account.proofs.Opening.{left_open, left_whole, open_append, pushed_open}
use Rattle.account.proofs.Chains.{longs_append, update_pre, Only, chain_le, chain_post, weigh_live, weigh_gone, update_total, update_chain, update_post, drop_total, drop_chain}
use Rattle.account.proofs.Lines.{flat_one}
use Rattle.account.proofs.Moves.{Moves, all_split}
use Rattle.account.proofs.Pairs.{pushed_total}
use Rattle.account.proofs.Striking.{marked, marked_only, marked_deleted, strikes_satisfied}
use Rattle.account.proofs.Shortening.{Differ, length_unfalsified, left_differ, only_false, two_differ}

-- what is held while the entries os are still to be looked at: `s.clauses` are those kept so far
abbrev pub seen : List ℕ → Held → Held
seen os s = with_clauses (s.clauses ++ os) s

pub record Settled (w : Clause → ℕ) (a : List ℕ) (o : ℕ) (os : List ℕ) (s t : Held) : Type 0 where
  pub moves : Moves w a [] (seen (o ∷ os) s) (seen os t)
  pub later : longs t.words os ≡ longs s.words os
  pub size : length t.rows ≡ length s.rows
  pub values : t.host.values ≡ s.host.values
  -- what is kept has no assigned literal
  pub longs_open : AllOpen a (longs s.words s.clauses) → AllOpen a (longs t.words t.clauses)
  pub rows_open : RowsOpen a s.rows → RowsOpen a t.rows

-- t is s with the lines ls behind the record, and other words, list, rows and counts
pub record Wrote (s t : Held) (ls : List Line) : Type 0 where
  pub used : t.used ≡ s.used
  pub rec : t.rec ≡ s.rec ++ flat ls
  pub size : length t.rows ≡ length s.rows
  pub values : t.host.values ≡ s.host.values

module _ (w : Clause → ℕ) (a : List ℕ) (o : ℕ) (os : List ℕ) (s : Held) (c : Chained (seen (o ∷ os) s)) where
  abbrev ws : List ℕ
  ws = s.words

  here : end_at ws o ≤ s.used
  here = chain_le _ s.used ws os (chain_post 0 s.used ws s.clauses o os c.chain)

  one_open : (vs : List ℕ) → OpenLits a (lits_at vs o) → AllOpen a (longs vs (o ∷ []))
  unfolding longs
  one_open vs g = go (deleted_at vs o)
    where
      go : (b : Bool) → AllOpen a (cond b [] (clause_at vs o ∷ []))
      go true = tt
      go false = (g, tt)

  kept_open : (vs : List ℕ) → Only o (end_at ws o) ws vs → AllOpen a (longs ws s.clauses) → OpenLits a (lits_at vs o) → AllOpen a (longs vs (snoc s.clauses o))
  kept_open vs u b g =
      subst (λ (cs : List Clause). AllOpen a cs) (sym (longs_append vs s.clauses (o ∷ [])))
      (open_append a (longs vs s.clauses) (longs vs (o ∷ [])) (subst (λ (cs : List Clause). AllOpen a cs) (sym (update_pre s.used ws vs s.clauses o os c.chain u)) b) (one_open vs g))

  -- the clause leaves the list
  drops : (t : Held) (ls : List Line) → Wrote s t ls → t.clauses ≡ s.clauses → Only o (end_at ws o) ws t.words → ((q : Line) → AllReasoned a q ls)
      → entered w ls + (weigh w ws o + total w (pairs 0 s.rows)) ≡ total w (pairs 0 t.rows) + struck_in w ls
      → (RowsOpen a s.rows → RowsOpen a t.rows) → Settled w a o os s t
  unfolding total
  drops t ls d k u f e r =
      let m = drop_total s.used ws t.words s.clauses o os c.chain u w in
      record {
        moves = record {
          said = ls;
          rec_is = d.rec;
          reasoned = f;
          chain = record { chain = rw (d.used, k) (drop_chain s.used ws t.words s.clauses o os c.chain u); room = rw (d.used, u.size) c.room };
          even = rw (all_split w (seen (o ∷ os) s), all_split w (seen os t), k) (omega arith);
        };
        later = update_post s.used ws t.words s.clauses o os c.chain u;
        size = d.size;
        values = d.values;
        longs_open = λ g. rw k (subst (λ (cs : List Clause). AllOpen a cs) (sym (update_pre s.used ws t.words s.clauses o os c.chain u)) g);
        rows_open = r;
      }

  -- the clause stays in the list
  keeps : (t : Held) (ls : List Line) → Wrote s t ls → t.clauses ≡ snoc s.clauses o → t.rows ≡ s.rows → Only o (end_at ws o) ws t.words → len_at t.words o ≤ len_at ws o
      → ((q : Line) → AllReasoned a q ls) → entered w ls + weigh w ws o ≡ weigh w t.words o + struck_in w ls → OpenLits a (lits_at t.words o) → Settled w a o os s t
  unfolding total
  keeps t ls d k r u n f e g =
      let m = update_total s.used ws t.words s.clauses o os c.chain u w in
      record {
        moves = record {
          said = ls;
          rec_is = d.rec;
          reasoned = f;
          chain = record { chain = rw (d.used, k, append_assoc) (update_chain s.used ws t.words s.clauses o os c.chain u n); room = rw (d.used, u.size) c.room };
          even = rw (all_split w (seen (o ∷ os) s), all_split w (seen os t), k, r, append_assoc) (omega arith);
        };
        later = update_post s.used ws t.words s.clauses o os c.chain u;
        size = d.size;
        values = d.values;
        longs_open = λ b. rw k (kept_open t.words u b g);
        rows_open = λ b. rw r b;
      }

  unmoved : Only o (end_at ws o) ws ws
  unmoved = record { size = refl; below = λ i h. refl; above = λ i h. refl }

  nothing_written : (t : Held) → t.used ≡ s.used → t.rec ≡ s.rec → t.rows ≡ s.rows → t.host ≡ s.host → Wrote s t []
  unfolding flat
  nothing_written t u r k h = record { used = u; rec = r ∙ sym (append-nil s.rec); size = rw k; values = rw h }

  -- an entry of a deleted clause
  pub gone_one : deleted_at ws o ≡ true → Settled w a o os s s
  gone_one d = drops s [] (nothing_written s refl refl refl refl) refl unmoved (λ q. unfold AllReasoned in tt) (unfold of_kind total in rw (weigh_gone w ws o d) (omega arith)) (λ b. b)

  abbrev ls : List ℕ
  ls = lits_at ws o

  abbrev left : List ℕ
  left = unfalsified a ls

  flat_two : (k l : Line) → flat (k ∷ l ∷ []) ≡ line_words k ++ line_words l
  unfolding flat
  flat_two k l = simp append-nil

  -- the two lines of a shortened clause
  short_reasoned : (b d : Bool) (q : Line) → AllReasoned a q (line (cond d 2 3) left ∷ line (cond b 6 4) ls ∷ [])
  unfolding AllReasoned is_entry
  short_reasoned b true q = (none_struck refl, (entered_before refl (only_false a ls), tt))
  short_reasoned b false q = (none_struck refl, (entered_before refl (only_false a ls), tt))

  short_lines : (b d : Bool) (r : List ℕ)
      → (entered w (line (cond d 2 3) r ∷ line (cond b 6 4) ls ∷ []) ≡ w (record { original = d; lits = r })) × (struck_in w (line (cond d 2 3) r ∷ line (cond b 6 4) ls ∷ []) ≡ w (record { original = b; lits = ls }))
  unfolding of_kind total is_entry is_strike
  short_lines true true r = (omega arith, omega arith)
  short_lines true false r = (omega arith, omega arith)
  short_lines false true r = (omega arith, omega arith)
  short_lines false false r = (omega arith, omega arith)

  module _ (live : deleted_at ws o ≡ false) where
    gone : weigh w (marked o ws) o ≡ 0
    gone = weigh_gone w (marked o ws) o (marked_deleted o ws (omega (arith, here, c.room)))

    satisfied_one : any_true a ls ≡ true → Settled w a o os s (struck 5 o s)
    unfolding struck removed strike_noted
    satisfied_one t =
        let st = strikes_satisfied (original_at ws o) in
        let x = st.none_entered w ls in
        let y = st.weight w ls in
        drops (struck 5 o s) (line (strike_kind (original_at ws o) 5) ls ∷ []) (record { used = refl; rec = rw flat_one; size = refl; values = refl }) refl (marked_only o ws)
        (λ q. unfold AllReasoned in (is_true t, tt)) (omega (arith, weigh_live w ws o live)) (λ b. b)

    same_one : OpenLits a ls → Settled w a o os s (kept o s)
    same_one g = keeps (kept o s) [] (nothing_written (kept o s) refl refl refl refl) refl refl unmoved (omega arith) (λ q. unfold AllReasoned in tt) (unfold of_kind total in omega arith) g

    short : length left ≤ len_at ws o
    short = omega (arith, length_unfalsified a ls, length_read_n ws (o + 3) (len_at ws o))

    abbrev vs : List ℕ
    vs = sets ws (o + 2) (length left ∷ left)

    inside : o + 2 + suc (length left) ≤ length ws
    inside = omega (arith, here, c.room, short)

    shrunk_only : Only o (end_at ws o) ws vs
    shrunk_only = record {
      size = length-sets ws (o + 2) (length left ∷ left);
      below = λ i h. sym (sets_below ws (o + 2) (length left ∷ left) i (omega arith));
      above = λ i h. sym (sets_above ws (o + 2) (length left ∷ left) i (omega (arith, short)));
    }

    shrunk_len : len_at vs o ≡ length left
    shrunk_len = subst (λ (x : ℕ). at vs x ≡ length left) (add-zero (o + 2)) (sets_at ws (o + 2) (length left ∷ left) 0 (omega arith) inside)

    shrunk_lits : lits_at vs o ≡ left
    shrunk_lits = rw shrunk_len (subst (λ (x : ℕ). read_n vs x (length left) ≡ left) (let e : o + 2 + 1 ≡ o + 3 = omega arith in e)
        (read_n_sets ws (o + 2) (length left ∷ left) 1 (length left) (omega arith) inside ∙ rw read_n_tail (read_n_all left)))

    shrunk_head : head_at vs o ≡ head_at ws o
    shrunk_head = sets_below ws (o + 2) (length left ∷ left) (o + 1) (omega arith)

    or_false : (b : Bool) → (b || false) ≡ b
    or_false true = refl
    or_false false = refl

    or_true : (b : Bool) → (b || true) ≡ true
    or_true true = refl
    or_true false = refl

    -- "three or more are written over the front"
    shrink_one : any_true a ls ≡ false → eqb (length left) 2 ≡ false → Settled w a o os s (kept o (shortened left o (shorter_noted left o s)))
    unfolding shortened shorter_noted strike_noted
    shrink_one y n =
        let b = original_at ws o in
        let e : entry_kind b (length left) ≡ cond b 2 3 = rw (n, or_false b) in
        let h : weigh w vs o ≡ w (record { original = b; lits = left }) = weigh_live w vs o (rw shrunk_head live) ∙ rw (shrunk_head, shrunk_lits) in
        let k = short_lines b b left in
        let l = weigh_live w ws o live in
        keeps (kept o (shortened left o (shorter_noted left o s))) (line (cond b 2 3) left ∷ line (cond b 6 4) ls ∷ [])
        (record { used = refl; rec = rw (e, flat_two, append_assoc); size = refl; values = refl }) refl refl shrunk_only (rw shrunk_len short) (short_reasoned b b) (omega arith) (rw shrunk_lits (left_open a ls y))

    module _ (blind : Blind w) (ok : Differ (length s.rows) ls) (untrue : any_true a ls ≡ false) where
      two_pushed : (x y : ℕ) → x ∷ y ∷ [] ≡ left → RowsOpen a s.rows → RowsOpen a (pair_pushed x y s.rows)
      two_pushed x y e g =
          let f : OpenLits a (x ∷ y ∷ []) = subst (λ (r : List ℕ). OpenLits a r) (sym e) (left_open a ls untrue) in
          pushed_open a x y s.rows (f x (elem_here x (y ∷ []))) (f y (elem_later y x (y ∷ []) (elem_here y []))) g

      -- "two literals left become a binary clause"
      pair_one : (r : List ℕ) → r ≡ left → length r ≡ 2 → Settled w a o os s (added_pair (at r 0) (at r 1) (removed o (shorter_noted r o s)))
      unfolding added_pair removed shorter_noted strike_noted
      pair_one [] e n = absurd (omega arith)
      pair_one (x ∷ []) e n = absurd (omega arith)
      pair_one (x ∷ y ∷ []) e n =
          let b = original_at ws o in
          let p : entry_kind b 2 ≡ 2 = rw (or_true b) in
          let d = two_differ (length s.rows) x y (subst (λ (r : List ℕ). Differ (length s.rows) r) (sym e) (left_differ (length s.rows) a ls ok)) in
          let t = pushed_total w blind x y d.0 s.rows d.1 d.2 in
          let k = short_lines b true (x ∷ y ∷ []) in
          let v = weigh_live w ws o live in
          drops (added_pair x y (removed o (shorter_noted (x ∷ y ∷ []) o s))) (line 2 (x ∷ y ∷ []) ∷ line (cond b 6 4) ls ∷ [])
          (record { used = refl; rec = rw (p, flat_two, append_assoc); size = simp length-set; values = refl }) refl (marked_only o ws)
          (subst (λ (r : List ℕ). (q : Line) → AllReasoned a q (line 2 r ∷ line (cond b 6 4) ls ∷ [])) (sym e) (short_reasoned b true)) (omega arith) (two_pushed x y e)
      pair_one (x ∷ y ∷ z ∷ r) e n = absurd (omega arith)

      shorter_one : Settled w a o os s (shorter_done left o s)
      unfolding shorter_done
      shorter_one = go (eqb (length left) 2) refl
        where
          go : (b : Bool) → eqb (length left) 2 ≡ b → Settled w a o os s (cond b (added_pair (at left 0) (at left 1) (removed o (shorter_noted left o s))) (kept o (shortened left o (shorter_noted left o s))))
          go true e = pair_one left refl (eqb-true (length left) 2 e)
          go false e = shrink_one untrue e

    live_one : Blind w → Differ (length s.rows) ls → s.host.values ≡ a → Settled w a o os s (verdict_done (verdict_of s.host.values ls) o s)
    unfolding verdict_of verdict_done
    live_one blind ok v = subst (λ (x : List ℕ). Settled w a o os s (verdict_done (verdict_of x ls) o s)) (sym v) (go (any_true a ls) refl (eqb (length left) (length ls)) refl)
      where
        go : (t : Bool) → any_true a ls ≡ t → (e : Bool) → eqb (length left) (length ls) ≡ e → Settled w a o os s (verdict_done (cond t Satisfied (cond e Same (Shorter (length left)))) o s)
        go true p e q = satisfied_one p
        go false p true q = same_one (subst (λ (r : List ℕ). OpenLits a r) (left_whole a ls (eqb-true (length left) (length ls) q)) (left_open a ls p))
        go false p false q = subst (λ (x : List ℕ). Settled w a o os s (shorter_done (unfalsified x ls) o s)) (sym v) (shorter_one blind ok p)

  -- the clause at o, whatever becomes of it
  pub one_settled : Blind w → s.host.values ≡ a → (deleted_at ws o ≡ false → Differ (length s.rows) ls) → Settled w a o os s (clause_done s o)
  unfolding clause_done
  one_settled blind v ok = go (deleted_at ws o) refl
    where
      go : (b : Bool) → deleted_at ws o ≡ b → Settled w a o os s (cond b s (verdict_done (verdict_of s.host.values ls) o s))
      go true e = gone_one e
      go false e = live_one e blind (ok e) v
