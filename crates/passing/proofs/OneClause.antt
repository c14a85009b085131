-- Changes of one clause keep what passing says: a tier change, a flag, a deletion with its line. Assumes nothing.
use mathlib.Core.Path.{◌≡◌, refl, sym, ◌∙◌, subst}
use mathlib.Core.Bool.{Bool, true, false, cond, ◌&&◌, true≢false}
use mathlib.Core.List.{List}
use Prim.Native.Nat.{ℕ, ◌<◌}
use lib.ListN.{length}
use lib.Dec.{eqb}
use borrow.Author.Tests.{eq-eqb, eqb-false}
use Rattle.laws.specs.Lists.{at}
use Rattle.laws.proofs.Folds.{and_both}
use Rattle.laws.proofs.Members.{In}
use Rattle.kinds.specs.Header.{glue_of, with_tier}
use Rattle.kinds.specs.Clauses.{head_at, first_at, tier_at, deleted_at, lits_at, original_at, change_head}
use Rattle.kinds.specs.Lines.{Line, line, strike_kind}
use Rattle.kinds.specs.Held.{Held, noted, asserting, is_true, kind_of, reason_word, with_words}
use Rattle.calls.specs.Adding.{moved_to, tier_set, removed, strike_noted, struck}
use Rattle.passing.proofs.Good.{Good, Whole}
use Rattle.passing.proofs.Heads.{tier_plain, tier_deleted, Alike}
use Rattle.passing.proofs.Changes.{moved_store, head_quiet, head_reasons, removed_store, removed_quiet, removed_reasons, head_store}
use Rattle.passing.proofs.Store.{Live}

-- nothing but the clauses still to be entered changes
abbrev pub Still : ℕ → List ℕ → List ℕ → Type 0
Still o p p' = (x : ℕ) → (x ≡ o → ⊥) → In x p → In x p'

pub still_all : (o : ℕ) (p : List ℕ) → Still o p p
still_all o p x n m = m

-- the record is no part of passing
pub noted_good : (h : Held) (l p : List ℕ) (n : Line) → Good h l p → Good (noted n h) l p
noted_good h l p n d = record { store = d.store; quiet = d.quiet; rows = d.rows; tuned = d.tuned; sided = d.sided; reasons = d.reasons }

module _ (h : Held) (l p : List ℕ) (d : Good h l p) (o : ℕ) (m : In o l) (live : deleted_at h.words o ≡ false) where
  pub moved_good : (t : ℕ) → t < 4 → (tier_at h.words o ≡ t → ⊥) → (t ≡ 0 → glue_of (head_at h.words o) ≡ 0) → (p' : List ℕ) → Still o p p' → Good (moved_to t o h) l p'
  unfolding moved_to
  moved_good t k other glue p' still =
      let w = h.words in
      record {
        store = moved_store d.store o m live t k other glue p' still;
        quiet = head_quiet d.store o m live (with_tier t) (tier_plain (head_at w o) t k) (tier_deleted (head_at w o) t k) d.quiet;
        rows = d.rows;
        tuned = d.tuned;
        sided = d.sided;
        reasons = head_reasons d.store o m live (with_tier t) (tier_plain (head_at w o) t k) (tier_deleted (head_at w o) t k) h.host d.reasons;
      }

  -- "nothing for an equal tier"
  pub tier_set_good : (t : ℕ) → t < 4 → ((tier_at h.words o ≡ t → ⊥) → t ≡ 0 → glue_of (head_at h.words o) ≡ 0) → Good (tier_set t o h) l p
  unfolding tier_set
  tier_set_good t k glue = go (eqb (tier_at h.words o) t) refl
    where
      go : (b : Bool) → eqb (tier_at h.words o) t ≡ b → Good (cond b h (moved_to t o h)) l p
      go true e = d
      go false e = moved_good t k (eqb-false (tier_at h.words o) t e) (glue (eqb-false (tier_at h.words o) t e)) p (still_all o p)

  -- "an asserting clause: first literal true, its reason this clause": no other clause is a reason
  pub no_reason : asserting h o ≡ false → (j : ℕ) → j < length h.host.trail → kind_of h.host (at h.host.trail j) ≡ 3 → reason_word h.host (at h.host.trail j) ≡ o → ⊥
  unfolding asserting
  no_reason a j k q e =
      let s = h.host in
      let x = at s.trail j in
      let c = d.reasons j k q in
      let f : first_at h.words o ≡ x = subst (λ (z : ℕ). first_at h.words z ≡ x) e c.first in
      let hit : is_true s.values x && (eqb (kind_of s x) 3 && eqb (reason_word s x) o) ≡ true =
      and_both _ _ (d.sided.side.lits j k).true_there (and_both _ _ (eq-eqb (kind_of s x) 3 q) (eq-eqb (reason_word s x) o e)) in
      true≢false (sym hit ∙ subst (λ (z : ℕ). is_true s.values z && (eqb (kind_of s z) 3 && eqb (reason_word s z) o) ≡ false) f a)

  pub removed_good : ((j : ℕ) → j < length h.host.trail → kind_of h.host (at h.host.trail j) ≡ 3 → reason_word h.host (at h.host.trail j) ≡ o → ⊥) → (p' : List ℕ) → Still o p p' → Good (removed o h) l p'
  unfolding removed
  removed_good none p' still = record {
    store = removed_store d.store o m live p' still;
    quiet = removed_quiet d.store o m live p' still d.quiet;
    rows = d.rows;
    tuned = d.tuned;
    sided = d.sided;
    reasons = removed_reasons d.store o m live p' still h.host none d.reasons;
  }

-- struck: the line, then the deletion
pub struck_good : (h : Held) (l p : List ℕ) → Good h l p → (o : ℕ) → In o l → deleted_at h.words o ≡ false → (k : ℕ)
    → ((j : ℕ) → j < length h.host.trail → kind_of h.host (at h.host.trail j) ≡ 3 → reason_word h.host (at h.host.trail j) ≡ o → ⊥)
    → (p' : List ℕ) → Still o p p' → Good (struck k o h) l p'
unfolding struck strike_noted
struck_good h l p d o m live k none p' still =
    removed_good (noted (line (strike_kind (original_at h.words o) k) (lits_at h.words o)) h) l p (noted_good h l p (line (strike_kind (original_at h.words o) k) (lits_at h.words o)) d) o m live none p' still

-- ---- with the clause list that is held

-- a change of word 1 that keeps tier, deleted bit and glue
pub alike_good : (h : Held) (p : List ℕ) → Whole h p → (o : ℕ) → Live h.words h.clauses o → (f : ℕ → ℕ) → Alike (head_at h.words o) (f (head_at h.words o))
    → Whole (with_words (change_head f o h.words) h) p
alike_good h p d o a f e = record {
  store = head_store d.store o a.0 a.1 f e.plain e.deleted e.tier (λ z. e.glue ∙ (d.store.clause o a.0 a.1).glue z);
  quiet = head_quiet d.store o a.0 a.1 f e.plain e.deleted d.quiet;
  rows = d.rows;
  tuned = d.tuned;
  sided = d.sided;
  reasons = head_reasons d.store o a.0 a.1 f e.plain e.deleted h.host d.reasons;
}

tier_clauses : (t o : ℕ) (h : Held) → (tier_set t o h).clauses ≡ h.clauses
unfolding tier_set moved_to
tier_clauses t o h = go (eqb (tier_at h.words o) t)
  where
    go : (b : Bool) → (cond b h (moved_to t o h)).clauses ≡ h.clauses
    go true = refl
    go false = refl

pub tier_set_whole : (h : Held) (p : List ℕ) → Whole h p → (o : ℕ) → Live h.words h.clauses o → (t : ℕ) → t < 4 → ((tier_at h.words o ≡ t → ⊥) → t ≡ 0 → glue_of (head_at h.words o) ≡ 0) → Whole (tier_set t o h) p
tier_set_whole h p d o a t k g = subst (λ (l : List ℕ). Good (tier_set t o h) l p) (sym (tier_clauses t o h)) (tier_set_good h h.clauses p d o a.0 a.1 t k g)
