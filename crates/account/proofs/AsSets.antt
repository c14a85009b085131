-- "for each clause seen as a set": the weight that counts a clause as a set ignores the order of literals. Assumes nothing.
use mathlib.Core.Path.{◌≡◌, refl, ◌∙◌}
use mathlib.Core.Bool.{Bool, true, false, cond, ◌&&◌, ◌||◌, beq}
use mathlib.Core.List.{List, [], ◌∷◌, Permᴰ}
use Prim.Native.Nat.{ℕ, suc, ◌+◌}
use native.Mathlib.Omega.{arith}
use lib.Dec.{eqb}
use Rattle.laws.specs.Fold.{one}
use Rattle.laws.specs.Lists.{elem}
use Rattle.kinds.specs.Clauses.{Clause}
use Rattle.demands.specs.Sets.{all_in, same_set, times}
use Rattle.account.specs.Weights.{total, Blind}
use Rattle.account.specs.Originals.{originals}

-- 1 for the clauses of class b that are c as a set
unfoldable pub as_set : Bool → List ℕ → Clause → ℕ
as_set b c d = cond (beq b d.original && same_set c d.lits) 1 0

pub times_total : (b : Bool) (c : List ℕ) (ds : List Clause) → times b c ds ≡ total (as_set b c) ds
unfolding times total as_set
times_total b c [] = refl
times_total b c (d ∷ ds) = rw (times_total b c ds) (go (beq b d.original && same_set c d.lits))
  where
    go : (t : Bool) → cond t (suc (total (as_set b c) ds)) (total (as_set b c) ds) ≡ cond t 1 0 + total (as_set b c) ds
    go true = omega arith
    go false = omega arith

or_swap : (a b c : Bool) → (a || (b || c)) ≡ (b || (a || c))
or_swap true true c = refl
or_swap true false c = refl
or_swap false true c = refl
or_swap false false c = refl

and_swap : (a b c : Bool) → (a && (b && c)) ≡ (b && (a && c))
and_swap true true c = refl
and_swap true false c = refl
and_swap false true c = refl
and_swap false false c = refl

elem_perm : (x : ℕ) {c d : List ℕ} → Permᴰ c d → elem x c ≡ elem x d
unfolding elem
elem_perm x Permᴰ.nil = refl
elem_perm x (Permᴰ.cons e p) = rw (e, elem_perm x p)
elem_perm x (Permᴰ.swap {l = l} e f) = rw (e, f) (or_swap (eqb x _) (eqb x _) (elem x l))
elem_perm x (Permᴰ.trans p q) = elem_perm x p ∙ elem_perm x q

all_in_perm : (b : List ℕ) {c d : List ℕ} → Permᴰ c d → all_in c b ≡ all_in d b
unfolding all_in
all_in_perm b Permᴰ.nil = refl
all_in_perm b (Permᴰ.cons e p) = rw (e, all_in_perm b p)
all_in_perm b (Permᴰ.swap {l = l} e f) = rw (e, f) (and_swap (elem _ b) (elem _ b) (all_in l b))
all_in_perm b (Permᴰ.trans p q) = all_in_perm b p ∙ all_in_perm b q

all_in_perm_right : (b c d : List ℕ) → Permᴰ c d → all_in b c ≡ all_in b d
unfolding all_in
all_in_perm_right [] c d p = refl
all_in_perm_right (x ∷ b) c d p = rw (elem_perm x p, all_in_perm_right b c d p)

pub blind_set : (b : Bool) (c : List ℕ) → Blind (as_set b c)
unfolding as_set same_set
blind_set b e o c d p = rw (all_in_perm e p, all_in_perm_right e c d p)

-- 1 for each original
unfoldable pub as_original : Clause → ℕ
as_original d = one d.original

pub originals_total : (ds : List Clause) → originals ds ≡ total as_original ds
unfolding originals total as_original
originals_total [] = refl
originals_total (d ∷ ds) = rw (originals_total ds)

pub blind_original : Blind as_original
unfolding as_original
blind_original o c d p = refl
