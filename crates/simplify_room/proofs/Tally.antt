-- What each clause adds to the record and to the rows, by its verdict. Assumes nothing.
use mathlib.Core.Path.{◌≡◌, refl, sym, ◌∙◌}
use mathlib.Core.Bool.{Bool, true, false, cond}
use mathlib.Core.List.{List, [], ◌∷◌}
use Prim.Native.Nat.{ℕ, ◌+◌, ◌*◌, ◌^◌, ◌≤◌, ◌<◌}
use native.Mathlib.Omega.{arith}
use native.Mathlib.Decide.{dec_lt, ℕ_discrete}
use lib.ListN.{length, length-set, get_or-eq_default}
use lib.Seq.{sets, get_or-set_same, get_or-set_other}
use lib.Dec.{eqb}
use borrow.Author.Tests.{eq-eqb, ne_eqb}
use Rattle.laws.specs.Lists.{at, more}
use Rattle.laws.specs.Fold.{fold_below, sum_below}
use Rattle.laws.proofs.Reading.{length_read}
use Rattle.laws.proofs.Sums.{sum_more}
use Rattle.laws.proofs.Folds.{fold_next}
use Rattle.kinds.specs.Clauses.{len_at, lits_at, deleted_at, neg}
use Rattle.kinds.specs.declared.Verdict.{Verdict}
use Rattle.kinds.specs.declared.Verdict.TheVariants.{Satisfied, Same, Shorter}
use Rattle.calls.specs.Simplifying.{any_true, unfalsified, verdict_of}
use Rattle.simplify_lines.proofs.Literals.{unfalsified_length, is_satisfied, is_same, is_shorter}
use Rattle.simplify_room.specs.Needed.{verdict_words, clause_words, becomes_pair, pair_tallied}

pub more_le : (l : List ℕ) (k c : ℕ) → at (more k l) c ≤ at l c + 1
more_le l k c = go (ℕ_discrete c k) (dec_lt k (length l))
  where
    go : Dec (c ≡ k) → Dec (k < length l) → at (more k l) c ≤ at l c + 1
    go (yes e) (yes h) = rw (e, get_or-set_same l k (at l k + 1) 0 h) (omega arith)
    go (yes e) (no h) = rw e (omega (arith, get_or-eq_default (more k l) 0 {n = k} (omega (arith, length-set l k (at l k + 1)))))
    go (no e) d = rw (get_or-set_other l k c (at l k + 1) 0 e) (omega arith)

pub two_list : (r m : List ℕ) → length r ≡ 2 → m ≡ sets (0 ∷ 0 ∷ []) 0 r → m ≡ r
two_list [] m h e = absurd (omega arith)
two_list (x ∷ []) m h e = absurd (omega arith)
two_list (x ∷ y ∷ []) m h e = e
two_list (x ∷ y ∷ z ∷ r) m h e = absurd (omega arith)

-- ---- words
pub record Summed (a ws l : List ℕ) (i sum : ℕ) : Type 0 where
  pub is : sum ≡ sum_below (clause_words a ws l) i
  pub most : sum ≤ i * 2 ^ 34

module _ {a ws l : List ℕ} {i sum : ℕ} (S : Summed a ws l i sum) {o : ℕ} (q : o ≡ at l i) where
  pub summed_dead : deleted_at ws o ≡ true → Summed a ws l (i + 1) sum
  unfolding clause_words
  summed_dead d = record { is = rw (sum_more (clause_words a ws l) i, ← q, d) (omega (arith, S.is)); most = omega (arith, S.most) }

  pub summed_live : deleted_at ws o ≡ false → {v : Verdict} → v ≡ verdict_of a (lits_at ws o) → {w : ℕ} → (w ≡ verdict_words v (len_at ws o)) × (w < 2 ^ 34) → Summed a ws l (i + 1) (sum + w)
  unfolding clause_words
  summed_live d e w = record { is = rw (sum_more (clause_words a ws l) i, ← q, d, ← e) (omega (arith, S.is, w.0)); most = omega (arith, S.most, w.1) }

pub verdict_small : (a ws : List ℕ) (o : ℕ) → len_at ws o < 2 ^ 32 → {v : Verdict} → v ≡ verdict_of a (lits_at ws o) → verdict_words v (len_at ws o) < 2 ^ 34
unfolding verdict_of
verdict_small a ws o h e = rw e (go (any_true a (lits_at ws o)) (eqb (length (unfalsified a (lits_at ws o))) (length (lits_at ws o))))
  where
    go : (t s : Bool) → verdict_words (cond t Satisfied (cond s Same (Shorter (length (unfalsified a (lits_at ws o)))))) (len_at ws o) < 2 ^ 34
    go true s = omega arith
    go false true = omega arith
    go false false = omega (arith, unfalsified_length a (lits_at ws o), length_read ws (o + 3) (len_at ws o))

-- ---- rows
-- the tests of `becomes_pair`
module _ (a ws : List ℕ) (o : ℕ) where
  abbrev ls : List ℕ
  ls = lits_at ws o

  abbrev r : List ℕ
  r = unfalsified a (lits_at ws o)

  pub pair_dead : deleted_at ws o ≡ true → becomes_pair a ws o ≡ false
  unfolding becomes_pair
  pair_dead d = rw d

  module _ (d : deleted_at ws o ≡ false) {v : Verdict} (e : v ≡ verdict_of a (lits_at ws o)) where
    pub pair_none : ((m : ℕ) → v ≡ Shorter m → ⊥) → becomes_pair a ws o ≡ false
    unfolding becomes_pair
    pair_none f = go v refl f
      where
        go : (u : Verdict) → u ≡ v → ((m : ℕ) → u ≡ Shorter m → ⊥) → becomes_pair a ws o ≡ false
        go Satisfied g f = rw (d, is_satisfied a ls e (sym g))
        go Same g f = let s = is_same a ls e (sym g) in rw (d, s.0, eq-eqb (length r) (length ls) s.1)
        go (Shorter m) g f = absurd (f m refl)

    module _ (m : ℕ) (g : v ≡ Shorter m) where
      pub left_is : m ≡ length (unfalsified a (lits_at ws o))
      left_is = (is_shorter a ls e m g).1

      by_length : becomes_pair a ws o ≡ eqb (length r) 2
      unfolding becomes_pair
      by_length = let s = is_shorter a ls e m g in rw (d, s.0, ne_eqb (length r) (length ls) (λ z. s.2 (s.1 ∙ z)))

      pub pair_many : (m ≡ 2 → ⊥) → becomes_pair a ws o ≡ false
      pair_many n = by_length ∙ ne_eqb (length r) 2 (λ z. n (left_is ∙ z))

      pub pair_two : m ≡ 2 → becomes_pair a ws o ≡ true
      pair_two w = by_length ∙ eq-eqb (length r) 2 (sym left_is ∙ w)

-- ---- the loop over the entries
pub record Tallied (a ws l t₀ : List ℕ) (i : ℕ) (t : List ℕ) : Type 0 where
  pub is : t ≡ fold_below (pair_tallied a ws l) t₀ i
  pub size : length t ≡ length t₀
  pub bound : (c : ℕ) → at t c ≤ 2 ^ 24 + 2 * i

module _ {a ws l t₀ : List ℕ} {i : ℕ} {t : List ℕ} (T : Tallied a ws l t₀ i t) {o : ℕ} (q : o ≡ at l i) where
  pub tallied_same : becomes_pair a ws o ≡ false → Tallied a ws l t₀ (i + 1) t
  unfolding pair_tallied
  tallied_same b = record { is = fold_next (pair_tallied a ws l) t₀ i T.is (rw (← q, b)); size = T.size; bound = λ c. omega (arith, T.bound c) }

  pub tallied_pair : becomes_pair a ws o ≡ true → {two : List ℕ} → two ≡ unfalsified a (lits_at ws o) → {t' : List ℕ} → t' ≡ more (neg (at two 1)) (more (neg (at two 0)) t) → Tallied a ws l t₀ (i + 1) t'
  unfolding pair_tallied
  tallied_pair b {two} e f = record {
    is = fold_next (pair_tallied a ws l) t₀ i T.is (f ∙ rw (← q, b, ← e));
    size = rw f (length-set (more (neg (at two 0)) t) (neg (at two 1)) _ ∙ length-set t (neg (at two 0)) _ ∙ T.size);
    bound = λ c. rw f (omega (arith, more_le (more (neg (at two 0)) t) (neg (at two 1)) c, more_le t (neg (at two 0)) c, T.bound c));
  }
