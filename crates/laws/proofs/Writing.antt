-- Numbers written over others in a list, and numbers read back from it. Assumes nothing.
use mathlib.Core.Path.{◌≡◌, refl, ap, ap₂, ◌∙◌}
use mathlib.Core.List.{List, [], ◌∷◌, Permᴰ}
use Prim.Native.Nat.{ℕ, zero, suc, ◌+◌, ◌≤◌, ◌<◌}
use native.Mathlib.Omega.{arith}
use native.Mathlib.Nat.{add-suc, suc-add, add-zero}
use lib.ListN.{length, get_or, set, length-set}
use lib.Seq.{get_or-set_same, get_or-set_other, sets}
use Rattle.laws.specs.Lists.{read_n, lengths, fill_each}

-- ---- writing

pub sets_below : (l : List ℕ) (i : ℕ) (vs : List ℕ) (j : ℕ) → j < i → get_or (sets l i vs) j 0 ≡ get_or l j 0
sets_below l i [] j h = refl
sets_below l i (v ∷ vs) j h = sets_below (set l i v) (suc i) vs j (omega arith) ∙ get_or-set_other l i j v 0 (omega arith)

pub sets_above : (l : List ℕ) (i : ℕ) (vs : List ℕ) (j : ℕ) → i + length vs ≤ j → get_or (sets l i vs) j 0 ≡ get_or l j 0
sets_above l i [] j h = refl
sets_above l i (v ∷ vs) j h = sets_above (set l i v) (suc i) vs j (omega arith) ∙ get_or-set_other l i j v 0 (omega arith)

pub sets_at : (l : List ℕ) (i : ℕ) (vs : List ℕ) (j : ℕ) → j < length vs → i + length vs ≤ length l → get_or (sets l i vs) (i + j) 0 ≡ get_or vs j 0
sets_at l i [] j h k = absurd (omega arith)
sets_at l i (v ∷ vs) zero h k = rw add-zero (sets_below (set l i v) (suc i) vs i (omega arith) ∙ get_or-set_same l i v 0 (omega arith))
sets_at l i (v ∷ vs) (suc j) h k = rw (add-suc, ← suc-add) (sets_at (set l i v) (suc i) vs j (omega arith) (rw length-set (omega arith)))

-- ---- reading

pub length_read_n : (l : List ℕ) (i n : ℕ) → length (read_n l i n) ≡ n
unfolding read_n
length_read_n l i zero = refl
length_read_n l i (suc n) = ap suc (length_read_n l (suc i) n)

pub get_d_read_n : (ws : List ℕ) (o n i : ℕ) → i < n → get_or (read_n ws o n) i 0 ≡ get_or ws (o + i) 0
unfolding read_n
get_d_read_n ws o zero i h = absurd (omega arith)
get_d_read_n ws o (suc n) zero h = rw add-zero
get_d_read_n ws o (suc n) (suc i) h = rw (add-suc, ← suc-add) (get_d_read_n ws (suc o) n i (omega arith))

pub read_n_tail : (x : ℕ) (ys : List ℕ) (k n : ℕ) → read_n (x ∷ ys) (suc k) n ≡ read_n ys k n
unfolding read_n
read_n_tail x ys k zero = refl
read_n_tail x ys k (suc n) = ap (λ (l : List ℕ). get_or ys k 0 ∷ l) (read_n_tail x ys (suc k) n)

pub read_n_all : (ys : List ℕ) → read_n ys 0 (length ys) ≡ ys
unfolding read_n
read_n_all [] = refl
read_n_all (y ∷ ys) = ap (λ (l : List ℕ). y ∷ l) (read_n_tail y ys 0 (length ys) ∙ read_n_all ys)

-- what was written
pub read_n_sets : (l : List ℕ) (i : ℕ) (vs : List ℕ) (j n : ℕ) → j + n ≤ length vs → i + length vs ≤ length l → read_n (sets l i vs) (i + j) n ≡ read_n vs j n
unfolding read_n
read_n_sets l i vs j zero h k = refl
read_n_sets l i vs j (suc n) h k = ap₂ ◌∷◌ (sets_at l i vs j (omega arith) k) (rw (← add-suc i j) (read_n_sets l i vs (suc j) n (omega arith) k))

-- the same numbers from a up to b
abbrev pub SameFrom : ℕ → ℕ → List ℕ → List ℕ → Type 0
SameFrom a b ws vs = (i : ℕ) → a ≤ i → i < b → get_or ws i 0 ≡ get_or vs i 0

pub same_part : (a b c d : ℕ) (ws vs : List ℕ) → a ≤ c → d ≤ b → SameFrom a b ws vs → SameFrom c d ws vs
same_part a b c d ws vs h k e i l m = e i (omega arith) (omega arith)

pub read_n_same : (ws vs : List ℕ) (o n : ℕ) → SameFrom o (o + n) ws vs → read_n ws o n ≡ read_n vs o n
unfolding read_n
read_n_same ws vs o zero e = refl
read_n_same ws vs o (suc n) e = ap₂ ◌∷◌ (e o (omega arith) (omega arith)) (read_n_same ws vs (suc o) n (λ i h k. e i (omega arith) (omega arith)))

-- n numbers from p on in vs are those from o on in ws
abbrev pub Moved : ℕ → ℕ → ℕ → List ℕ → List ℕ → Type 0
Moved p o n vs ws = (i : ℕ) → i < n → get_or vs (p + i) 0 ≡ get_or ws (o + i) 0

pub read_n_moved : (p o n : ℕ) (vs ws : List ℕ) → Moved p o n vs ws → read_n vs p n ≡ read_n ws o n
unfolding read_n
read_n_moved p o zero vs ws m = refl
read_n_moved p o (suc n) vs ws m = ap₂ ◌∷◌ (simp add-zero at (m 0 (omega arith)))
    (read_n_moved (suc p) (suc o) n vs ws (λ i h. simp (suc-add) (simp add-suc at (m (suc i) (omega arith)))))

-- ---- lengths

pub perm_length : {c d : List ℕ} → Permᴰ c d → length c ≡ length d
perm_length Permᴰ.nil = refl
perm_length (Permᴰ.cons e d) = ap suc (perm_length d)
perm_length (Permᴰ.swap e f) = refl
perm_length (Permᴰ.trans d e) = perm_length d ∙ perm_length e

pub length_fill_each : (bs : List (List ℕ)) (ns : List ℕ) (ls : List (List ℕ)) → length (fill_each bs ns ls) ≡ length bs
unfolding fill_each
length_fill_each [] ns ls = refl
length_fill_each (b ∷ bs) [] ls = refl
length_fill_each (b ∷ bs) (n ∷ ns) [] = refl
length_fill_each (b ∷ bs) (n ∷ ns) (l ∷ ls) = ap suc (length_fill_each bs ns ls)

pub length_lengths : (ls : List (List ℕ)) → length (lengths ls) ≡ length ls
unfolding lengths
length_lengths [] = refl
length_lengths (l ∷ ls) = ap suc (length_lengths ls)
