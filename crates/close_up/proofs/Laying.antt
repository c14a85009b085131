-- Clauses that lie one behind the other, and what their live ones come to. Assumes nothing.
use mathlib.Core.Path.{◌≡◌, refl, ap, ◌∙◌, subst}
use mathlib.Core.Bool.{Bool, true, false, cond}
use mathlib.Core.List.{List, [], ◌∷◌, ◌++◌}
use Prim.Native.Nat.{ℕ, zero, suc, ◌+◌, ◌≤◌, ◌<◌}
use native.Mathlib.Omega.{arith}
use lib.ListN.{length, length-append}
use Rattle.laws.specs.Lists.{at, joined, starts}
use Rattle.laws.proofs.Reading.{length_read}
use Rattle.kinds.specs.Clauses.{size_at, end_at, words_at, deleted_at, undeleted}
use Rattle.calls.specs.Collecting.{blocks}
use Rattle.calls.specs.StorePasses.{placed}
use Rattle.calls.proofs.Readings.{ends_read, next_read}

-- each clause begins at lo or later and ends by the next one's start and by the used length
unfoldable pub Laid : List ℕ → ℕ → ℕ → List ℕ → Type 0
Laid ws used lo [] = lo ≤ used
Laid ws used lo (o ∷ os) = (lo ≤ o) × Laid ws used (end_at ws o) os

pub laid_le : (ws : List ℕ) (used lo : ℕ) (os : List ℕ) → Laid ws used lo os → lo ≤ used
unfolding Laid
laid_le ws used lo [] l = l
laid_le ws used lo (o ∷ os) l = omega (arith, l.0, laid_le ws used (end_at ws o) os l.1)

laid_of : (ws : List ℕ) (used lo : ℕ) (l : List ℕ) → ((i : ℕ) → i < length l → end_at ws (at l i) ≤ used) → ((i : ℕ) → suc i < length l → end_at ws (at l i) ≤ at l (suc i)) → lo ≤ used → (0 < length l → lo ≤ at l 0) → Laid ws used lo l
unfolding Laid
laid_of ws used lo [] e n h k = h
laid_of ws used lo (o ∷ l) e n h k =
    (k (omega arith), laid_of ws used (end_at ws o) l (λ i m. e (suc i) (omega arith)) (λ i m. n (suc i) (omega arith)) (e zero (omega arith)) (λ m. n zero (omega arith)))

pub laid_placed : (ws : List ℕ) (used : ℕ) (l : List ℕ) (n : ℕ) → length l ≡ n → placed ws used l n ≡ true → Laid ws used 0 l
laid_placed ws used l n e p =
    laid_of ws used 0 l (λ i h. ends_read ws used l n p i (omega arith))
    (λ i h. let s : i + 1 ≡ suc i = omega arith in subst (λ (j : ℕ). end_at ws (at l i) ≤ at l j) s (next_read ws used l n p i (omega arith)))
    (omega arith) (λ h. omega arith)

-- the live clauses' words, and their new places from k on
abbrev pub kept : List ℕ → List ℕ → List ℕ
kept ws os = joined (blocks ws (undeleted ws os))

abbrev pub offsets : List ℕ → ℕ → List ℕ → List ℕ
offsets ws k os = starts k (blocks ws (undeleted ws os))

module _ (ws : List ℕ) (o : ℕ) (os : List ℕ) where
  pub kept_live : deleted_at ws o ≡ false → kept ws (o ∷ os) ≡ words_at ws o ++ kept ws os
  unfolding undeleted blocks joined
  kept_live e = ap (λ (b : Bool). joined (blocks ws (cond b (undeleted ws os) (o ∷ undeleted ws os)))) e

  pub kept_deleted : deleted_at ws o ≡ true → kept ws (o ∷ os) ≡ kept ws os
  unfolding undeleted
  kept_deleted e = ap (λ (b : Bool). joined (blocks ws (cond b (undeleted ws os) (o ∷ undeleted ws os)))) e

  pub offsets_live : (k : ℕ) → deleted_at ws o ≡ false → offsets ws k (o ∷ os) ≡ k ∷ offsets ws (k + size_at ws o) os
  unfolding undeleted blocks starts
  offsets_live k e =
      ap (λ (b : Bool). starts k (blocks ws (cond b (undeleted ws os) (o ∷ undeleted ws os)))) e
      ∙ ap (λ (n : ℕ). k ∷ starts (k + n) (blocks ws (undeleted ws os))) (length_read ws o (size_at ws o))

  pub offsets_deleted : (k : ℕ) → deleted_at ws o ≡ true → offsets ws k (o ∷ os) ≡ offsets ws k os
  unfolding undeleted
  offsets_deleted k e = ap (λ (b : Bool). starts k (blocks ws (cond b (undeleted ws os) (o ∷ undeleted ws os)))) e

pub kept_none : (ws : List ℕ) → kept ws [] ≡ []
unfolding undeleted blocks joined
kept_none ws = refl

pub offsets_none : (ws : List ℕ) (k : ℕ) → offsets ws k [] ≡ []
unfolding undeleted blocks starts
offsets_none ws k = refl

-- the live words lie within the used ones
pub kept_fits : (ws : List ℕ) (used lo : ℕ) (os : List ℕ) → Laid ws used lo os → lo + length (kept ws os) ≤ used
unfolding Laid
kept_fits ws used lo [] l = let e : length (kept ws []) ≡ 0 = ap length (kept_none ws) in omega arith
kept_fits ws used lo (o ∷ os) l = go (deleted_at ws o) refl (kept_fits ws used (end_at ws o) os l.1)
  where
    go : (b : Bool) → deleted_at ws o ≡ b → end_at ws o + length (kept ws os) ≤ used → lo + length (kept ws (o ∷ os)) ≤ used
    go true e h = let q : length (kept ws (o ∷ os)) ≡ length (kept ws os) = ap length (kept_deleted ws o os e) in let z = l.0 in omega arith
    go false e h =
        let q : length (kept ws (o ∷ os)) ≡ length (words_at ws o) + length (kept ws os) = ap length (kept_live ws o os e) ∙ length-append (words_at ws o) (kept ws os) in
        let n = length_read ws o (size_at ws o) in
        let z = l.0 in omega arith
