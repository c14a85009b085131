-- "Shut out: .. storing nothing, simplifying only the first clause": an accepted call holds the clause that it was given, and an accepted `unit_simplify` leaves no clause with an assigned literal. Assumes nothing.
use mathlib.Core.Path.{◌≡◌, refl, sym, ap, ◌∙◌, subst}
use mathlib.Core.Bool.{Bool, true, false, cond, not, ◌||◌, true≢false}
use mathlib.Core.Logic.{◌⊎◌, inl, inr}
use mathlib.Core.List.{List, [], ◌∷◌, ◌++◌}
use Prim.Native.Nat.{ℕ, ◌+◌}
use native.Mathlib.Omega.{arith}
use lib.Dec.{eqb}
use borrow.Author.Tests.{not-true}
use Rattle.laws.specs.Lists.{at, elem}
use Rattle.laws.proofs.Folds.{and_left, and_right}
use Rattle.laws.proofs.Entries.{elem_none, elem_cases}
use Rattle.kinds.specs.Clauses.{Clause, clause_at, pair, lits_at, deleted_at, is_live, longs, pairs}
use Rattle.kinds.specs.Lent.{Lent}
use Rattle.kinds.specs.Held.{Held, is_true, is_open, is_false}
use Rattle.kinds.specs.Layout.{view, side}
use Rattle.demands.specs.Sets.{times}
use Rattle.demands.specs.Runs.{all_held}
use Rattle.calls.specs.Call.{add_clause, add_binary, unit_simplify, parts}
use Rattle.calls.specs.Adding.{added_pair}
use Rattle.calls.specs.Outcome.{step, number, done}
use Rattle.account.specs.Four.{Four}
use Rattle.account.specs.Open.{OpenLits, AllOpen}
use Rattle.account.specs.Weights.{total}
use Rattle.account.proofs.Moves.{all_split}
use Rattle.account.proofs.Pairs.{pushed_total}
use Rattle.account.proofs.Adding.{long_longs}
use Rattle.account.proofs.Simplifying.{simplified_open}
use Rattle.account.proofs.Accepted.{judged_chained, long_facts, pair_facts, simplify_facts}
use Rattle.account.proofs.Running.{view_stepped}
use Rattle.account.proofs.AsSets.{as_set, times_total, blind_set, as_original, blind_original}

module _ (k : Lent) (f : Four k) where
  abbrev h : Held
  h = view k

  -- the live long clauses are those before, with the given one behind them
  pub long_stored : (t g : ℕ) (ls : List ℕ) → number (add_clause t g ls) k ≡ 0
      → longs (view (done (add_clause t g ls) k).then).words (view (done (add_clause t g ls) k).then).clauses ≡ longs h.words h.clauses ++ (record { original = eqb t 0; lits = ls } ∷ [])
  unfolding step parts
  long_stored t g ls z =
      let q = long_facts k t g ls z in
      subst (λ (u : Held). longs u.words u.clauses ≡ longs h.words h.clauses ++ (record { original = eqb t 0; lits = ls } ∷ [])) (sym (view_stepped (add_clause t g ls) k f z))
      (long_longs as_original [] h (judged_chained (add_clause t g ls) k z refl) t g ls q.tier q.room)

  -- the given pair stands once more among the clauses held
  pub pair_stored : (ls : List ℕ) → number (add_binary ls) k ≡ 0 → (b : Bool) (c : List ℕ)
      → times b c (all_held (view (done (add_binary ls) k).then)) ≡ times b c (all_held h) + times b c (pair (at ls 0) (at ls 1) ∷ [])
  unfolding step added_pair
  pair_stored ls z b c =
      let q = pair_facts k ls z in
      let e : view (done (add_binary ls) k).then ≡ added_pair (at ls 0) (at ls 1) h = view_stepped (add_binary ls) k f z in
      subst (λ (u : Held). times b c (all_held u) ≡ times b c (all_held h) + times b c (pair (at ls 0) (at ls 1) ∷ [])) (sym e)
      (simp (times_total b c)
      (rw (all_split (as_set b c) h, all_split (as_set b c) (added_pair (at ls 0) (at ls 1) h), pushed_total (as_set b c) (blind_set b c) (at ls 0) (at ls 1) q.differ h.rows q.first q.second)
      (unfold total in omega arith)))

  -- every clause held after simplifying, long or binary, has unassigned literals alone
  pub none_assigned : number unit_simplify k ≡ 0 → AllOpen k.host.values (all_held (view (done unit_simplify k).then))
  unfolding step parts view side
  none_assigned z =
      subst (λ (u : Held). AllOpen k.host.values (all_held u)) (sym (view_stepped unit_simplify k f z))
      (simplified_open as_original blind_original h (judged_chained unit_simplify k z refl) (simplify_facts k z).clauses)

  open_front : (a : List ℕ) (cs ds : List Clause) → AllOpen a (cs ++ ds) → AllOpen a cs
  open_front a [] ds o = tt
  open_front a (c ∷ cs) ds (g, o) = (g, open_front a cs ds o)

  open_live : (a ws os : List ℕ) → AllOpen a (longs ws os) → (o : ℕ) → elem o os ≡ true → deleted_at ws o ≡ false → OpenLits a (lits_at ws o)
  unfolding longs
  open_live a ws [] g o e d = absurd (elem_none o e)
  open_live a ws (p ∷ os) g o e d = go (deleted_at ws p) refl g (elem_cases o p os e) (open_live a ws os)
    where
      go : (b : Bool) → deleted_at ws p ≡ b → AllOpen a (cond b (longs ws os) (clause_at ws p ∷ longs ws os)) → (o ≡ p) ⊎ (elem o os ≡ true)
          → (AllOpen a (longs ws os) → (o : ℕ) → elem o os ≡ true → deleted_at ws o ≡ false → OpenLits a (lits_at ws o)) → OpenLits a (lits_at ws o)
      go true q g (inl z) r = absurd (true≢false (sym q ∙ ap (deleted_at ws) (sym z) ∙ d))
      go true q g (inr z) r = r g o z d
      go false q g (inl z) r = subst (λ (x : ℕ). OpenLits a (lits_at ws x)) (sym z) g.0
      go false q g (inr z) r = r g.1 o z d

  -- so no live long clause has a false literal
  pub none_false : number unit_simplify k ≡ 0 → (o : ℕ) → is_live (view (done unit_simplify k).then).words (view (done unit_simplify k).then).clauses o ≡ true
      → (x : ℕ) → elem x (lits_at (view (done unit_simplify k).then).words o) ≡ true → is_false k.host.values x ≡ false
  unfolding all_held is_live
  none_false z o l x e =
      let u : Held = view (done unit_simplify k).then in
      let g = open_front k.host.values (longs u.words u.clauses) (pairs 0 u.rows) (none_assigned z) in
      go (is_true k.host.values x) (is_open k.host.values x)
      (open_live k.host.values u.words u.clauses g o (and_left _ _ l) (not-true _ (and_right (elem o u.clauses) _ l)) x e)
    where
      go : (s t : Bool) → t ≡ true → not (s || t) ≡ false
      go true t p = refl
      go false true p = refl
      go false false p = absurd (true≢false (sym p))
