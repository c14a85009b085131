-- The accounts of every run are even, under every weight that ignores the order of literals. Assumes nothing.
use mathlib.Core.Path.{◌≡◌, refl, sym, ap, ◌∙◌, subst}
use mathlib.Core.Bool.{Bool, true, false, cond, true≢false}
use mathlib.Core.List.{List, [], ◌∷◌, ◌++◌}
use Prim.Native.Nat.{ℕ, suc, ◌+◌}
use native.Mathlib.Omega.{arith}
use lib.ListN.{length, drop}
use lib.Dec.{eqb}
use lib.Ieee.{Float}
use lib.Seq.{sets}
use borrow.Author.Tests.{eqb-true, not-true}
use Rattle.laws.specs.Lists.{elem, lengths, fill_each}
use Rattle.laws.proofs.Writing.{length_fill_each, length_lengths}
use Rattle.laws.proofs.Folds.{and_left, and_right}
use Rattle.kinds.specs.Clauses.{Clause, pairs_in, pairs, longs, is_live}
use Rattle.kinds.specs.Lines.{Line, flat, of_kind}
use Rattle.kinds.specs.declared.State.{State}
use Rattle.kinds.specs.Lent.{Lent, Host, lent, Parts, with_word_buffer, with_host_side}
use Rattle.kinds.specs.Held.{Held}
use Rattle.kinds.specs.Layout.{rows_of, view, lay, lay_state}
use Rattle.demands.specs.Runs.{Past, no_past, all_held, remembered, after, Reordered, Formed, Run, begin, call, others, host}
use Rattle.calls.specs.Call.{Command, add_clause, set_tier, delete, add_binary, implied, literals, assess, bump, decay, set_decay, reduce_locals, reduce_mids, collect, prove_units, unit_simplify, empty_record, view_fields, view_literal, Call, start, on, parts}
use Rattle.calls.specs.Adding.{zeros, zeros_each, started, record_emptied}
use Rattle.calls.specs.Outcome.{Outcome, step, number, start_number, done, start_done, outcome, accepted, refused, nothing}
use Rattle.calls.proofs.Laws.{accepts}
use Rattle.calls.proofs.After.{judged_zero, own_zero, room_true, shape, held_after}
use Rattle.account.specs.Four.{Four}
use Rattle.account.specs.Weights.{total, Blind, entered, struck_in, Chained}
use Rattle.account.proofs.Chains.{total_append}
use Rattle.account.proofs.Lines.{flat_append, entered_append, struck_append}
use Rattle.account.proofs.Moves.{Moves, all_split}
use Rattle.account.proofs.Reordering.{reorder_moves}
use Rattle.account.proofs.Stepping.{new_in, step_moves}

-- ---- four lists and four used lengths, at every place of a run

-- every call's parameters, put together, have four lists: what `begin` asks holds of all that is lent
pub lent_formed : (s : State) (words clauses irred core mid local rows counts rec : List ℕ) (t : Host) → Formed (lent s words clauses irred core mid local rows counts rec t)
lent_formed s words clauses irred core mid local rows counts rec t = record { four = refl }

length_zeros_each : (ls : List (List ℕ)) → length (zeros_each ls) ≡ length ls
unfolding zeros_each
length_zeros_each [] = refl
length_zeros_each (l ∷ ls) = ap suc (length_zeros_each ls)

chosen : (A : Type 0) (b : Bool) (x y : List A) (n : ℕ) → length x ≡ n → length y ≡ n → length (cond b x y) ≡ n
chosen A true x y n p q = p
chosen A false x y n p q = q

laid_four : (p : Parts) (k : Lent) (h : Held) → length h.tiers ≡ 4 → Four k → Four (lay p k h)
unfolding lay lay_state
laid_four p k h e f = record {
  lists = chosen (List ℕ) p.tiers (fill_each k.tiers k.state.tiers h.tiers) k.tiers 4 (length_fill_each k.tiers k.state.tiers h.tiers ∙ f.lists) f.lists;
  used = chosen ℕ p.tiers (lengths h.tiers) k.state.tiers 4 (length_lengths h.tiers ∙ e) f.used;
}

module _ (c : Command) (k : Lent) (f : Four k) (z : number c k ≡ 0) where
  stepped : (done c k).then ≡ lay (parts c) k (step c (view k))
  stepped = ap (λ (o : Outcome). o.then) (accepts c k (judged_zero c k z) (own_zero c k z) (room_true c k z))

  pub view_stepped : view (done c k).then ≡ step c (view k)
  view_stepped = held_after c k f.lists f.used z

  stepped_four : Four (done c k).then
  stepped_four = subst Four (sym stepped) (laid_four (parts c) k (step c (view k)) (shape c k f.lists f.used z).four f)

-- a refused command changes nothing
pub kept_refused : (c : Command) (k : Lent) → eqb (number c k) 0 ≡ false → (done c k).then ≡ k
unfolding done
kept_refused c k e = rw e

-- ---- the accounts, with the lines that the words stand for

pub record Sound (w : Clause → ℕ) (k : Lent) (p : Past) : Type 0 where
  pub four : Four k
  pub chain : Chained (view k)
  pub past : List Line
  pub now : List Line
  pub emptied_is : p.emptied ≡ flat past
  pub rec_is : (view k).rec ≡ flat now
  pub even : total w p.added + (entered w past + entered w now) ≡ total w (all_held (view k)) + (struck_in w past + struck_in w now)

-- whether a command empties the record
empties : Command → Bool
empties (add_clause t g ls) = false
empties (set_tier o t) = false
empties (delete o) = false
empties (add_binary ls) = false
empties (implied l) = false
empties (literals o) = false
empties (assess ls) = false
empties (bump o) = false
empties decay = false
empties (set_decay d) = false
empties reduce_locals = false
empties reduce_mids = false
empties collect = false
empties prove_units = false
empties unit_simplify = false
empties empty_record = true
empties (view_fields ws) = false
empties (view_literal ws i) = false

module _ (w : Clause → ℕ) (blind : Blind w) where
  moves_sound : (a : List ℕ) (new : List Clause) (k l : Lent) (p : Past) → Sound w k p → Four l → Moves w a new (view k) (view l) → Sound w l (record { added = new ++ p.added; emptied = p.emptied })
  moves_sound a new k l p s f m = record {
    four = f;
    chain = m.chain;
    past = s.past;
    now = s.now ++ m.said;
    emptied_is = s.emptied_is;
    rec_is = rw (m.rec_is, s.rec_is, flat_append);
    even = rw (total_append, entered_append w s.now m.said, struck_append w s.now m.said) (omega (arith, s.even, m.even));
  }

  module _ (k : Lent) (p : Past) (s : Sound w k p) where
    moved : (c : Command) → number c k ≡ 0 → empties c ≡ false → Sound w (done c k).then (record { added = new_in c ++ p.added; emptied = p.emptied })
    unfolding empties
    moved c z n =
        moves_sound (view k).host.values (new_in c) k (done c k).then p s (stepped_four c k s.four z)
        (subst (λ (t : Held). Moves w (view k).host.values (new_in c) (view k) t) (sym (view_stepped c k s.four z))
        (step_moves w blind k s.chain c (λ e. true≢false (sym (ap empties e) ∙ n)) z))

    -- "Emptying the record": what it held is remembered
    emptied : number empty_record k ≡ 0 → Sound w (done empty_record k).then (record { added = p.added; emptied = p.emptied ++ (view k).rec })
    emptied z =
        let t : Held = record_emptied (view k) in
        let e : view (done empty_record k).then ≡ t = view_stepped empty_record k s.four z ∙ (unfold step in refl) in
        record {
          four = stepped_four empty_record k s.four z;
          chain = subst Chained (sym e) (unfold record_emptied in record { chain = s.chain.chain; room = s.chain.room });
          past = s.past ++ s.now;
          now = [];
          emptied_is = rw (s.emptied_is, s.rec_is, flat_append);
          rec_is = ap (λ (h : Held). h.rec) e ∙ (unfold record_emptied flat in refl);
          even = rw (entered_append, struck_append, e) (unfold record_emptied of_kind total all_held in omega (arith, s.even));
        }

    accepted_sound : (c : Command) → number c k ≡ 0 → Sound w (done c k).then (remembered c k p)
    unfolding remembered empties
    accepted_sound (add_clause t g ls) z = moved (add_clause t g ls) z refl
    accepted_sound (set_tier o t) z = moved (set_tier o t) z refl
    accepted_sound (delete o) z = moved (delete o) z refl
    accepted_sound (add_binary ls) z = moved (add_binary ls) z refl
    accepted_sound (implied l) z = moved (implied l) z refl
    accepted_sound (literals o) z = moved (literals o) z refl
    accepted_sound (assess ls) z = moved (assess ls) z refl
    accepted_sound (bump o) z = moved (bump o) z refl
    accepted_sound decay z = moved decay z refl
    accepted_sound (set_decay d) z = moved (set_decay d) z refl
    accepted_sound reduce_locals z = moved reduce_locals z refl
    accepted_sound reduce_mids z = moved reduce_mids z refl
    accepted_sound collect z = moved collect z refl
    accepted_sound prove_units z = moved prove_units z refl
    accepted_sound unit_simplify z = moved unit_simplify z refl
    accepted_sound empty_record z = emptied z
    accepted_sound (view_fields ws) z = moved (view_fields ws) z refl
    accepted_sound (view_literal ws i) z = moved (view_literal ws i) z refl

    -- refused, or accepted
    command_sound : (c : Command) → Sound w (done c k).then (cond (eqb (number c k) 0) (remembered c k p) p)
    command_sound c = go (eqb (number c k) 0) refl
      where
        go : (b : Bool) → eqb (number c k) 0 ≡ b → Sound w (done c k).then (cond b (remembered c k p) p)
        go true e = accepted_sound c (eqb-true (number c k) 0 e)
        go false e = subst (λ (l : Lent). Sound w l p) (sym (kept_refused c k e)) s

    -- "others may reorder literals inside a held clause"
    others_sound : (l : Lent) → Reordered k l → Sound w l p
    unfolding view is_live
    others_sound l r =
        let vs : List ℕ = sets k.words (r.at + 3) r.new in
        subst (λ (x : Lent). Sound w x p) (sym r.now)
        (moves_sound [] [] k (with_word_buffer vs k) p s (record { lists = s.four.lists; used = s.four.used })
        (reorder_moves w blind [] (view k) s.chain r.at (and_left _ _ r.live) r.new (not-true _ (and_right (elem r.at (view k).clauses) _ r.live)) r.perm))

    -- the host's side becomes whatever the host makes it
    host_sound : (t : Host) → Sound w (with_host_side t k) p
    unfolding view all_held
    host_sound t = record {
      four = record { lists = s.four.lists; used = s.four.used };
      chain = record { chain = s.chain.chain; room = s.chain.room };
      past = s.past;
      now = s.now;
      emptied_is = s.emptied_is;
      rec_is = s.rec_is;
      even = s.even;
    }

  -- ---- an empty store

  no_pairs : (m : ℕ) (ns buf : List ℕ) (r : ℕ) → total w (pairs r (rows_of m (zeros ns) buf)) ≡ 0
  unfolding rows_of pairs pairs_in total
  no_pairs m [] buf r = refl
  no_pairs m (n ∷ ns) buf r = no_pairs m ns (drop m buf) (suc r)

  start_sound : (v : ℕ) (d : Float) (k : Lent) → length k.tiers ≡ 4 → Sound w (started v d k) no_past
  unfolding started view flat total of_kind longs
  start_sound v d k f = record {
    four = record { lists = length_zeros_each k.tiers ∙ f; used = refl };
    chain = record { chain = omega arith; room = omega arith };
    past = [];
    now = [];
    emptied_is = refl;
    rec_is = refl;
    even = rw (all_split w (view (started v d k)), no_pairs) (omega arith);
  }

  begun_sound : (v : ℕ) (d : Float) (k : Lent) (p : Past) → Sound w k p → Sound w (start_done v d k).then (cond (eqb (start_number v d k) 0) no_past p)
  unfolding start_done
  begun_sound v d k p s = go (eqb (start_number v d k) 0)
    where
      go : (b : Bool) → Sound w (cond b (accepted nothing (started v d k)) (refused (start_number v d k) k)).then (cond b no_past p)
      go true = start_sound v d k s.four.lists
      go false = s

  call_sound : (c : Call) (k : Lent) (p : Past) → Sound w k p → Sound w (outcome c k).then (after c k p)
  unfolding outcome after
  call_sound (start v d) k p s = begun_sound v d k p s
  call_sound (on c) k p s = command_sound k p s c

  pub run_sound : {k : Lent} {p : Past} → Run k p → Sound w k p
  run_sound (begin v d k f z) = start_sound v d k f.four
  run_sound (call {k} {p} c r) = call_sound c k p (run_sound r)
  run_sound (others {k} {l} {p} o r) = others_sound k p (run_sound r) l o
  run_sound (host {k} {p} t r) = host_sound k p (run_sound r) t
