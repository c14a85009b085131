-- A live clause of a store that passes: where it stands, and that its tier counts it. Assumes nothing.
use mathlib.Core.Path.{◌≡◌, refl, sym, ap, ap₂, ◌∙◌, subst}
use mathlib.Core.Bool.{Bool, true, false, not, ◌&&◌}
use mathlib.Core.List.{List}
use Prim.Native.Nat.{ℕ, ◌+◌, ◌/◌, ◌%◌, ◌^◌, ◌≤◌, ◌<◌}
use native.Mathlib.Omega.{arith}
use native.Mathlib.Nat.{mod-lt}
use lib.Pow.{pow_pos}
use lib.ListN.{length}
use lib.Dec.{eqb}
use borrow.Author.Tests.{not-true, eq-eqb}
use Rattle.laws.specs.Lists.{at, elem}
use Rattle.laws.proofs.Folds.{and_left, and_right, and_both, count_pos}
use Rattle.laws.proofs.Entries.{elem_place}
use Rattle.kinds.specs.Clauses.{head_at, end_at, tier_at, deleted_at, is_live}
use Rattle.kinds.specs.Held.{Held}
use Rattle.calls.specs.StorePasses.{words_pass, live_in, live_at}
use Rattle.calls.proofs.Readings.{LiveClause, held_words}

pub record LiveThere (h : Held) (o : ℕ) : Type 0 where
  pub place : ℕ
  pub listed : place < length h.clauses
  pub there : at h.clauses place ≡ o
  pub live : deleted_at h.words o ≡ false
  pub ends : end_at h.words o ≤ h.used
  pub clause : LiveClause h.words h.vars o
  pub tier : tier_at h.words o < 4
  pub counted : 0 < at h.counts (tier_at h.words o)

pub live_there : (h : Held) (o : ℕ) → words_pass h ≡ true → is_live h.words h.clauses o ≡ true → LiveThere h o
unfolding is_live live_in live_at
live_there h o e l =
    let w = held_words h e in
    let p = elem_place o h.clauses (and_left _ _ l) in
    let d : deleted_at h.words o ≡ false = not-true (deleted_at h.words o) (and_right (elem o h.clauses) _ l) in
    let d' : deleted_at h.words (at h.clauses p.0) ≡ false = ap (deleted_at h.words) p.2 ∙ d in
    let t : tier_at h.words o < 4 = mod-lt (head_at h.words o / 2 ^ 0) (pow_pos 2) in
    record {
      place = p.0;
      listed = p.1;
      there = p.2;
      live = d;
      ends = subst (λ (x : ℕ). end_at h.words x ≤ h.used) p.2 (w.ends p.0 p.1);
      clause = subst (LiveClause h.words h.vars) p.2 (w.clause p.0 p.1 d');
      tier = t;
      counted = subst (λ (x : ℕ). 0 < x) (sym (w.counts (tier_at h.words o) t))
          (count_pos (live_in h.words h.clauses (tier_at h.words o)) (length h.clauses) p.0 p.1
          (and_both (not (deleted_at h.words (at h.clauses p.0))) _ (ap not d') (eq-eqb _ _ (ap (tier_at h.words) p.2))));
    }
