-- The entries that a tier's list keeps, in a store that passes. Assumes nothing.
use mathlib.Core.Path.{◌≡◌, sym, ◌∙◌, subst}
use mathlib.Core.Bool.{Bool, true, false, not, ◌&&◌, true≢false}
use mathlib.Core.Logic.{⊎_elim, ◌⊎◌, inl, inr}
use mathlib.Core.List.{List, []}
use Prim.Native.Nat.{ℕ, ◌+◌, ◌*◌, ◌/◌, ◌%◌, ◌^◌, ◌≤◌, ◌<◌}
use native.Mathlib.Omega.{arith}
use lib.ListN.{length, get_or}
use lib.Dec.{eqb}
use borrow.Author.Tests.{eqb-true}
use Rattle.laws.specs.Fold.{fold_list, one}
use Rattle.laws.specs.Lists.{at, list_at}
use Rattle.laws.proofs.Members.{In, Distinct, sum_part}
use Rattle.laws.proofs.Entries.{elem_none, elem_index}
use Rattle.laws.proofs.Subsets.{sum_few}
use Rattle.kinds.specs.Header.{deleted_of}
use Rattle.kinds.specs.Clauses.{head_at, size_at, end_at, first_at, tier_at, deleted_at}
use Rattle.calls.specs.Reducing.{kept_first}
use Rattle.passing.proofs.Store.{Store, Live, Stale, in_tier_lem, live_words, chain_in}
use Rattle.passing.proofs.Changes.{in_tier_yes, words_live}
use Rattle.passing.proofs.Reduce.{Ready, firsts_in, in_firsts, firsts_distinct, fresh_deleted, fresh_tier, fresh}
use Rattle.dedup.specs.Marks.{Entry, Entries}

module _ {v : ℕ} {w : List ℕ} {used : ℕ} {l cs : List ℕ} {g : ℕ} {ts : List (List ℕ)} (S : Store v w used l cs g ts []) where
  -- ---- a live clause
  module _ (o : ℕ) (a : Live w l o) where
    pub live_ends : end_at w o ≤ length w
    live_ends = let b = (chain_in 0 used w l S.chain o a.0).1 in omega arith

    pub live_size_lem : g + size_at w o ≤ used
    live_size_lem = let c = sum_part (live_words w) o l a.0 in let d = words_live w o a.1 in omega arith

    pub live_counted : (t : ℕ) → tier_at w o ≡ t → 0 < at cs t
    live_counted t e =
        let n = S.counts (tier_at w o) (omega arith) in
        let b = sum_part (in_tier_lem w (tier_at w o)) o l a.0 in
        let c = in_tier_yes w o a.1 in
        subst (λ (z : ℕ). 0 < at cs z) e (omega arith)

    pub live_first : first_at w o < 2 * v
    live_first = let c = S.clause o a.0 a.1 in subst (λ (x : ℕ). at w x < 2 * v) (plain (o + 3)) (c.lits.below 0 (omega arith))
      where
        plain : (x : ℕ) → x + 0 ≡ x
        plain x = omega arith

  at_most_one : (t x : ℕ) → in_tier_lem w t x ≤ 1
  unfolding in_tier_lem
  at_most_one t x = small (not (deleted_at w x) && eqb (tier_at w x) t)
    where
      small : (b : Bool) → one b ≤ 1
      small true = omega arith
      small false = omega arith

  pub counts_most : (t : ℕ) → t < 4 → at cs t ≤ length l
  counts_most t h = let a = S.counts t h in let b = sum_few (in_tier_lem w t) l (at_most_one t) in omega arith

  -- ---- the entries of tier t's list
  module _ (t : ℕ) (h : t < 4) where
    abbrev kept : List ℕ
    kept = fold_list (kept_first w t) [] (list_at ts t)

    pub kept_ready : Ready w l t kept
    kept_ready x m = ⊎_elim (λ q. absurd (elem_none x q)) (λ q. ⊎_elim
        (λ a. (a, fresh_tier w t x q.1))
        (λ s. absurd (true≢false (sym s.deleted ∙ fresh_deleted w t x q.1)))
        (S.entry t x h q.0)) (firsts_in w t (list_at ts t) [] x m)

    pub kept_distinct : Distinct kept
    kept_distinct = firsts_distinct w t (list_at ts t) [] tt

    pub kept_covers : (x : ℕ) → Live w l x → tier_at w x ≡ t → In x kept
    kept_covers x a e = in_firsts w t (list_at ts t) [] x
        (⊎_elim (λ m. subst (λ (z : ℕ). In x (list_at ts z)) e m) (λ m. absurd (elem_none x m)) (S.covered x a.0 a.1))
        (fresh w t x a.1 e)

    entry_of : (e : ℕ) → Live w l e ⊎ Stale w used l e → Entry w t e
    entry_of e (inl a) =
        let q = live_ends e a in
        let m : head_at w e / 2 ^ 3 % 2 ^ 1 ≡ 0 = (S.clause e a.0 a.1).mark in
        record { within = omega arith; plain = λ z. omega arith }
    entry_of e (inr s) =
        let d : head_at w e / 2 ^ 2 % 2 ^ 1 ≡ 1 = eqb-true (deleted_of (head_at w e)) 1 s.deleted in
        record { within = omega arith; plain = λ z. absurd (omega arith) }

    -- what dropping them asks for
    pub entries : Entries w t (list_at ts t)
    entries j b = entry_of (get_or (list_at ts t) j 0) (S.entry t (get_or (list_at ts t) j 0) h (elem_index (list_at ts t) j b))
