-- Proving units keeps what passing says. Assumes nothing.
use mathlib.Core.Path.{◌≡◌, refl, sym, ap, ◌∙◌, subst}
use mathlib.Core.Bool.{Bool, true, false, cond}
use mathlib.Core.Logic.{⊎_elim, ◌⊎◌, inl, inr}
use mathlib.Core.List.{List, [], ◌∷◌}
use Prim.Native.Nat.{ℕ, ◌<◌}
use native.Mathlib.Decide.{ℕ_discrete, dec_lt}
use native.Mathlib.Omega.{arith}
use lib.ListN.{length, set, length-set}
use lib.Seq.{set_out}
use lib.Dec.{eqb}
use borrow.Author.Tests.{eqb-true}
use Rattle.laws.specs.Fold.{fold_list}
use Rattle.laws.specs.Lists.{at}
use Rattle.laws.proofs.Folds.{any_find}
use Rattle.laws.proofs.Members.{In}
use Rattle.laws.proofs.Entries.{elem_none, elem_cases, elem_index}
use Rattle.laws.proofs.Pushes.{at_other, at_same}
use Rattle.kinds.specs.Clauses.{var_of}
use Rattle.kinds.specs.Lines.{line}
use Rattle.kinds.specs.Held.{Held, Side, noted, kind_of}
use Rattle.calls.specs.HostPasses.{on_trail, variable_at}
use Rattle.calls.specs.Simplifying.{rest_of_reason, unit_noted, unit_removed, unit_done, trail_emptied, units_proved}
use Rattle.calls.proofs.Readings.{HostSide}
use Rattle.passing.proofs.Store.{Store}
use Rattle.passing.proofs.Good.{Quiet, Even, Tuned, Whole}

-- while units are removed: the store's rules, and reasons that became 4 or are as they were in s
record Removing (v : ℕ) (s : Side) (k : Held) : Type 0 where
  store : Store k.vars k.words k.used k.clauses k.counts k.garbage k.tiers []
  quiet : Quiet k.words k.clauses
  rows : Even k.vars k.rows k.binary
  tuned : Tuned k.activity.bump k.activity.inv_decay
  vars : k.vars ≡ v
  values : k.host.values ≡ s.values
  levels : k.host.levels ≡ s.levels
  level : k.host.level ≡ s.level
  kinds_long : length k.host.kinds ≡ v
  reasons_long : length k.host.reasons ≡ v
  kinds : (x : ℕ) → (at k.host.kinds x ≡ 4) ⊎ (at k.host.kinds x ≡ at s.kinds x)

module _ (v : ℕ) (s : Side) where
  noted_removing : (k : Held) (l : ℕ) → Removing v s k → Removing v s (unit_noted k l)
  unfolding unit_noted
  noted_removing k l r = go (eqb (kind_of k.host l) 1)
    where
      go : (b : Bool) → Removing v s (cond b k (noted (line 1 (l ∷ rest_of_reason k l)) k))
      go true = r
      go false = record { store = r.store; quiet = r.quiet; rows = r.rows; tuned = r.tuned; vars = r.vars; values = r.values; levels = r.levels; level = r.level; kinds_long = r.kinds_long; reasons_long = r.reasons_long; kinds = r.kinds }

  noted_kinds : (k : Held) (l : ℕ) → (unit_noted k l).host.kinds ≡ k.host.kinds
  unfolding unit_noted
  noted_kinds k l = go (eqb (kind_of k.host l) 1)
    where
      go : (b : Bool) → (cond b k (noted (line 1 (l ∷ rest_of_reason k l)) k)).host.kinds ≡ k.host.kinds
      go true = refl
      go false = refl

  set_four : (ks : List ℕ) (y x : ℕ) → (at (set ks y 4) x ≡ 4) ⊎ (at (set ks y 4) x ≡ at ks x)
  set_four ks y x = go (ℕ_discrete x y)
    where
      inside : Dec (y < length ks) → x ≡ y → (at (set ks y 4) x ≡ 4) ⊎ (at (set ks y 4) x ≡ at ks x)
      inside (yes h) e = inl (subst (λ (z : ℕ). at (set ks y 4) z ≡ 4) (sym e) (at_same ks y 4 h))
      inside (no h) e = inr (ap (λ (l : List ℕ). at l x) (set_out ks y 4 (omega arith)))

      go : Dec (x ≡ y) → (at (set ks y 4) x ≡ 4) ⊎ (at (set ks y 4) x ≡ at ks x)
      go (yes e) = inside (dec_lt y (length ks)) e
      go (no e) = inr (at_other ks y 4 x e)

  four_stays : (ks : List ℕ) (y x : ℕ) → at ks x ≡ 4 → at (set ks y 4) x ≡ 4
  four_stays ks y x e = ⊎_elim (λ q. q) (λ q. q ∙ e) (set_four ks y x)

  unit_removing : (k : Held) (l : ℕ) → Removing v s k → Removing v s (unit_done k l)
  unfolding unit_done unit_removed
  unit_removing k l q =
      let r = noted_removing k l q in
      let n = unit_noted k l in
      record {
        store = r.store;
        quiet = r.quiet;
        rows = r.rows;
        tuned = r.tuned;
        vars = r.vars;
        values = r.values;
        levels = r.levels;
        level = r.level;
        kinds_long = length-set n.host.kinds (var_of l) 4 ∙ r.kinds_long;
        reasons_long = length-set n.host.reasons (var_of l) 0 ∙ r.reasons_long;
        kinds = λ x. ⊎_elim (λ z. inl z) (λ z. ⊎_elim (λ e. inl (z ∙ e)) (λ e. inr (z ∙ e)) (r.kinds x)) (set_four n.host.kinds (var_of l) x);
      }

  unit_kinds : (k : Held) (l : ℕ) → (unit_done k l).host.kinds ≡ set k.host.kinds (var_of l) 4
  unfolding unit_done unit_removed
  unit_kinds k l = ap (λ (ks : List ℕ). set ks (var_of l) 4) (noted_kinds k l)

  removed_all : (ls : List ℕ) (k : Held) → Removing v s k → Removing v s (fold_list unit_done k ls)
  unfolding fold_list
  removed_all [] k r = r
  removed_all (l ∷ ls) k r = removed_all ls (unit_done k l) (unit_removing k l r)

  kept_four : (ls : List ℕ) (k : Held) (x : ℕ) → at k.host.kinds x ≡ 4 → at (fold_list unit_done k ls).host.kinds x ≡ 4
  unfolding fold_list
  kept_four [] k x e = e
  kept_four (l ∷ ls) k x e = kept_four ls (unit_done k l) x (ap (λ (ks : List ℕ). at ks x) (unit_kinds k l) ∙ four_stays k.host.kinds (var_of l) x e)

  become_four : (ls : List ℕ) (k : Held) (l : ℕ) → Removing v s k → In l ls → var_of l < v → at (fold_list unit_done k ls).host.kinds (var_of l) ≡ 4
  unfolding fold_list
  become_four [] k l r m h = absurd (elem_none l m)
  become_four (y ∷ ls) k l r m h = go (become_four ls (unit_done k y) l (unit_removing k y r)) (elem_cases l y ls m)
    where
      go : (In l ls → var_of l < v → at (fold_list unit_done (unit_done k y) ls).host.kinds (var_of l) ≡ 4) → (l ≡ y) ⊎ In l ls → at (fold_list unit_done (unit_done k y) ls).host.kinds (var_of l) ≡ 4
      go ih (inl e) = kept_four ls (unit_done k y) (var_of l)
          (ap (λ (ks : List ℕ). at ks (var_of l)) (unit_kinds k y) ∙ subst (λ (z : ℕ). at (set k.host.kinds (var_of z) 4) (var_of l) ≡ 4) e (at_same k.host.kinds (var_of l) 4 (let z = r.kinds_long in omega arith)))
      go ih (inr q) = ih q h

-- an empty trail, where every variable's reason became 4 or stays, and those on the trail became 4
emptied_side : (v : ℕ) (s t : Side) → HostSide v s → t.values ≡ s.values → t.level ≡ s.level → t.trail ≡ [] → ((x : ℕ) → (at t.kinds x ≡ 4) ⊎ (at t.kinds x ≡ at s.kinds x))
    → ((l : ℕ) → In l s.trail → var_of l < v → at t.kinds (var_of l) ≡ 4) → HostSide v t
unfolding on_trail variable_at
emptied_side v s t h vals lev none kinds four =
    let empty : length t.trail ≡ 0 = ap length none in
    record {
      values = λ x k. rw vals (h.values x k);
      kinds = λ x k. ⊎_elim (λ e. omega arith) (λ e. let z = h.kinds x k in omega arith) (kinds x);
      trail = record { below = λ j k. absurd (omega arith); apart = λ j i k f q. absurd (omega arith) };
      level = rw lev h.level;
      lits = λ j k. absurd (omega arith);
      removed = λ x k. ⊎_elim
          (λ e. inl (ap (λ (l : List ℕ). at l x) vals ∙ e))
          (λ e. inr (inr (⊎_elim (λ q. on x k q) (λ q. ⊎_elim (λ z. z) (λ z. z ∙ q) (kinds x)) e)))
          (h.removed x k);
      binary = λ j k q. absurd (omega arith);
    }
  where
    on : (x : ℕ) → x < v → on_trail s x ≡ true → at t.kinds x ≡ 4
    on x k q =
        let r = any_find (variable_at s x) (length s.trail) q in
        let e : var_of (at s.trail r.0) ≡ x = eqb-true (var_of (at s.trail r.0)) x r.2 in
        subst (λ (z : ℕ). at t.kinds z ≡ 4) e (four (at s.trail r.0) (elem_index s.trail r.0 r.1) (subst (λ (z : ℕ). z < v) (sym e) k))

pub units_good : (h : Held) → Whole h [] → Whole (units_proved h) []
unfolding units_proved trail_emptied
units_good h d = go (eqb h.host.level 0)
  where
    begin : Removing h.vars h.host h
    begin = record {
      store = d.store;
      quiet = d.quiet;
      rows = d.rows;
      tuned = d.tuned;
      vars = refl;
      values = refl;
      levels = refl;
      level = refl;
      kinds_long = d.sided.kinds_long;
      reasons_long = d.sided.reasons_long;
      kinds = λ x. inr refl;
    }

    r : Removing h.vars h.host (fold_list unit_done h h.host.trail)
    r = removed_all h.vars h.host h.host.trail h begin

    go : (b : Bool) → Whole (cond b (trail_emptied (fold_list unit_done h h.host.trail)) h) []
    go false = d
    go true = record {
      store = r.store;
      quiet = r.quiet;
      rows = r.rows;
      tuned = r.tuned;
      sided = record {
        side = subst (λ (v : ℕ). HostSide v (trail_emptied (fold_list unit_done h h.host.trail)).host) (sym r.vars)
            (emptied_side h.vars h.host (trail_emptied (fold_list unit_done h h.host.trail)).host d.sided.side r.values r.level refl r.kinds (λ l m q. become_four h.vars h.host h.host.trail h l begin m q));
        levels = λ x q.
            let e = r.vars in
            let z = d.sided.levels x (subst (λ (n : ℕ). x < n) e q) in
            let f : at (fold_list unit_done h h.host.trail).host.levels x ≡ at h.host.levels x = ap (λ (l : List ℕ). at l x) r.levels in
            omega arith;
        values_long = ap length r.values ∙ d.sided.values_long ∙ sym r.vars;
        kinds_long = r.kinds_long ∙ sym r.vars;
        reasons_long = r.reasons_long ∙ sym r.vars;
      };
      reasons = λ j q e. absurd (omega arith);
    }
