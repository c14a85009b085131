-- What a call that is refused for nothing of its own was given. Assumes nothing.
use mathlib.Core.Path.{◌≡◌, refl, sym, ap, ◌∙◌, subst}
use mathlib.Core.Bool.{Bool, true, false, not, ◌&&◌, true≢false}
use mathlib.Core.List.{List, [], ◌∷◌}
use Prim.Native.Nat.{ℕ, ◌≤◌, ◌<◌}
use native.Mathlib.Omega.{arith}
use lib.ListN.{length}
use lib.Dec.{eqb, ltb}
use lib.Ieee.{Float}
use borrow.Author.Tests.{ltb-false, eq-eqb, ne_eqb, not-true, not-false}
use Rattle.laws.specs.Lists.{elem}
use Rattle.laws.proofs.Folds.{and_both, and_left, and_right, or_left, any_at}
use Rattle.laws.proofs.Entries.{elem_place}
use Rattle.kinds.specs.Clauses.{tier_at, original_at, lits_at, deleted_at, is_live}
use Rattle.kinds.specs.Floats.{decay_ok}
use Rattle.kinds.specs.Held.{Held, asserting}
use Rattle.calls.specs.Call.{add_clause, set_tier, delete, add_binary, bump, set_decay, unit_simplify}
use Rattle.calls.specs.StorePasses.{live_at}
use Rattle.calls.specs.Refusing.{own, tier_wrong, glue_wrong, not_live, irred_change, unready, lacking, long_lacking, any_lacking}
use Rattle.calls.specs.Outcome.{refused_for}
use Rattle.calls.proofs.Given.{first_not, others_not, neither_left, neither_right, Clause, clause_right, tier_right, live_right}
use Rattle.passing.proofs.Store.{Live}
use Rattle.passing.proofs.AddClause.{LongGiven}

live_of : (h : Held) (o : ℕ) → not_live h o ≡ false → Live h.words h.clauses o
unfolding is_live
live_of h o e = let a = live_right h o e in (and_left _ _ a, not-true _ (and_right (elem o h.clauses) _ a))

module _ (h : Held) where
  pub add_clause_asked : (t g : ℕ) (ls : List ℕ) → refused_for (add_clause t g ls) h ≡ 0 → LongGiven h.vars t g ls
  unfolding refused_for own glue_wrong
  add_clause_asked t g ls e =
      let a = clause_right h.vars 3 h.vars ls (first_not 4 _ _ (λ q. omega arith) e) in
      let b = first_not 5 _ _ (λ q. omega arith) (others_not 4 _ _ (λ q. omega arith) e) in
      record {
        three = a.low;
        most = a.high;
        lits = a.lits;
        tier = tier_right t (neither_left _ _ b);
        glue = λ q. let z = ltb-false 0 g (sym (ap (λ (x : Bool). x && ltb 0 g) (eq-eqb t 0 q)) ∙ neither_right (tier_wrong t) _ b) in omega arith;
      }

  pub record Moved (o t : ℕ) : Type 0 where
    pub tier : t < 4
    pub live : Live h.words h.clauses o
    pub redundant : (tier_at h.words o ≡ t → ⊥) → t ≡ 0 → ⊥

  pub set_tier_asked : (o t : ℕ) → refused_for (set_tier o t) h ≡ 0 → Moved o t
  unfolding refused_for own irred_change
  set_tier_asked o t e =
      let a = others_not 5 _ _ (λ q. omega arith) e in
      let c = first_not 7 _ _ (λ q. omega arith) (others_not 6 _ _ (λ q. omega arith) a) in
      record {
        tier = tier_right t (first_not 5 _ _ (λ q. omega arith) e);
        live = live_of h o (first_not 6 _ _ (λ q. omega arith) a);
        redundant = λ n q. true≢false (sym (and_both _ _ (ap not (ne_eqb (tier_at h.words o) t n)) (or_left (eqb t 0) (original_at h.words o) (eq-eqb t 0 q))) ∙ c);
      }

  pub delete_asked : (o : ℕ) → refused_for (delete o) h ≡ 0 → Live h.words h.clauses o × (asserting h o ≡ false)
  unfolding refused_for own
  delete_asked o e =
      let a = others_not 6 _ _ (λ q. omega arith) e in
      (live_of h o (first_not 6 _ _ (λ q. omega arith) e), first_not 8 _ _ (λ q. omega arith) (others_not 7 _ _ (λ q. omega arith) a))

  pub add_binary_asked : (ls : List ℕ) → refused_for (add_binary ls) h ≡ 0 → Clause h.vars 2 2 ls
  unfolding refused_for own
  add_binary_asked ls e = clause_right h.vars 2 2 ls (first_not 4 _ _ (λ q. omega arith) e)

  pub bump_asked : (o : ℕ) → refused_for (bump o) h ≡ 0 → Live h.words h.clauses o
  unfolding refused_for own
  bump_asked o e = live_of h o (first_not 6 _ _ (λ q. omega arith) e)

  pub set_decay_asked : (d : Float) → refused_for (set_decay d) h ≡ 0 → decay_ok d ≡ true
  unfolding refused_for own
  set_decay_asked d e = not-false _ (first_not 12 _ _ (λ q. omega arith) e)

  pub simplify_asked : refused_for unit_simplify h ≡ 0 → (h.host.trail ≡ []) × ((x : ℕ) → Live h.words h.clauses x → lacking h.host.values (lits_at h.words x) ≡ false)
  unfolding refused_for own unready any_lacking long_lacking live_at
  simplify_asked e =
      let a = first_not 9 _ _ (λ q. omega arith) e in
      let b = first_not 10 (any_lacking h) _ (λ q. omega arith) (others_not 9 _ _ (λ q. omega arith) e) in
      let z = ltb-false 0 (length h.host.trail) (neither_right (ltb 0 h.host.level) _ a) in
      (empty h.host.trail z, (λ x m. none x m (lacking h.host.values (lits_at h.words x)) refl b))
    where
      empty : (l : List ℕ) → length l ≤ 0 → l ≡ []
      empty [] q = refl
      empty (x ∷ l) q = absurd (omega arith)

      none : (x : ℕ) → Live h.words h.clauses x → (b : Bool) → lacking h.host.values (lits_at h.words x) ≡ b → any_lacking h ≡ false → b ≡ false
      none x m false q f = refl
      none x (m, d) true q f =
          let r = elem_place x h.clauses m in
          let hit : long_lacking h r.0 ≡ true = subst (λ (y : ℕ). not (deleted_at h.words y) && lacking h.host.values (lits_at h.words y) ≡ true) (sym r.2) (and_both _ _ (ap not d) q) in
          absurd (true≢false (sym (any_at (long_lacking h) (length h.clauses) r.0 r.1 hit) ∙ neither_left _ _ f))
