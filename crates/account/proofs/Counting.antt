-- Where a store passes, the Irred count and the binary count are the number of originals held: each pair stands in two rows, and is told once. Assumes nothing.
use mathlib.Core.Path.{◌≡◌, refl, sym, ap, ap₂, ◌∙◌, subst}
use mathlib.Core.Bool.{Bool, true, false, cond, not, ◌&&◌}
use mathlib.Core.List.{List, [], ◌∷◌, ◌++◌}
use Prim.Native.Nat.{ℕ, zero, suc, ◌+◌, ◌-◌, ◌*◌, ◌^◌, ◌<◌}
use native.Mathlib.Omega.{arith}
use native.Mathlib.Nat.{add-zero}
use lib.ListN.{length}
use lib.Dec.{eqb, ltb, leb}
use borrow.Author.Tests.{ltb-true, ltb-false, eqb-true}
use Rattle.laws.specs.Fold.{one, sum_below}
use Rattle.laws.specs.Lists.{at, list_at}
use Rattle.laws.specs.Counts.{count}
use Rattle.laws.proofs.Folds.{and_left, and_right}
use Rattle.laws.proofs.Sums.{count_sum, sum_same, sum_add, sum_first, sum_swap, passing, passing_split, count_places, passing_sum}
use Rattle.kinds.specs.Clauses.{Clause, clause_at, pair, deleted_at, tier_at, longs, pairs_in, pairs, neg, var_of}
use Rattle.kinds.specs.Lent.{Lent, room_of}
use Rattle.kinds.specs.Held.{Held}
use Rattle.kinds.specs.Layout.{view}
use Rattle.demands.specs.Runs.{all_held}
use Rattle.demands.specs.Demands.{whole_passes}
use Rattle.calls.specs.Call.{everything}
use Rattle.calls.specs.Size.{vars_in_range, words_sized, tiers_sized, rows_sized, sizes_ok}
use Rattle.calls.specs.StorePasses.{live_at, live_in, stands_at, times_in, row_length, store_passes}
use Rattle.calls.proofs.Readings.{Rows, held_words, rows_read, words_pass_lem, rows_pass_lem}
use Rattle.calls.proofs.After.{rows_length}
use Rattle.account.specs.Originals.{originals}
use Rattle.account.proofs.Pairs.{neg_neg}

-- ---- sums over codes: a literal's negation for each literal

sum_negated : (f : ℕ → ℕ) (v : ℕ) → sum_below (λ b. f (neg b)) (2 * v) ≡ sum_below f (2 * v)
unfolding sum_below
sum_negated f zero = refl
sum_negated f (suc v) =
    let e : 2 * suc v ≡ suc (suc (2 * v)) = omega arith in
    let a : neg (2 * v) ≡ suc (2 * v) = omega arith in
    let b : neg (suc (2 * v)) ≡ 2 * v = omega arith in
    rw e (omega (arith, sum_negated f v, ap f a, ap f b))

-- ---- the rows

module _ (h : Held) (r : Rows h) where
  abbrev top : ℕ
  top = 2 * h.vars

  abbrev row : ℕ → List ℕ
  row c = list_at h.rows c

  -- entries above, and below, the literal whose negation is the row's
  abbrev above : ℕ → ℕ
  above c = passing (λ b. ltb (neg c) b) (row c)

  abbrev below : ℕ → ℕ
  below c = passing (λ b. ltb b (neg c)) (row c)

  one_way : (a b : ℕ) → (a ≡ b → ⊥) → one (ltb a b) + one (ltb b a) ≡ 1
  one_way a b n = go (ltb a b) refl (ltb b a) refl
    where
      go : (s : Bool) → ltb a b ≡ s → (t : Bool) → ltb b a ≡ t → one s + one t ≡ 1
      go true p true q = let x = ltb-true a b p in let y = ltb-true b a q in absurd (omega arith)
      go true p false q = refl
      go false p true q = refl
      go false p false q = let x = ltb-false a b p in let y = ltb-false b a q in absurd (n (omega arith))

  whole_row : (c : ℕ) → c < top → above c + below c ≡ length (row c)
  whole_row c l = passing_split (λ b. ltb (neg c) b) (λ b. ltb b (neg c)) (row c)
      (λ k m. one_way (neg c) (at (row c) k) (λ e. r.apart c k l m (ap var_of (sym e) ∙ (let v : var_of (neg c) ≡ var_of c = omega arith in v))))

  times_count : (c x : ℕ) → times_in h c x ≡ count x (row c)
  unfolding times_in stands_at
  times_count c x = count_sum (stands_at (row c) x) (length (row c)) ∙ count_places x (row c)

  -- "b stands in the row of not-a as often as a in the row of not-b"
  even_count : (a b : ℕ) → a < top → b < top → count b (row (neg a)) ≡ count a (row (neg b))
  even_count a b l m = sym (times_count (neg a) b) ∙ r.even a b l m ∙ times_count (neg b) a

  -- what the entry b of row c adds below
  abbrev low : ℕ → ℕ → ℕ
  low c b = cond (ltb b (neg c)) (count b (row c)) 0

  above_low : (c : ℕ) → c < top → above c ≡ sum_below (λ b. low (neg b) (neg c)) top
  above_low c l =
      sym (passing_sum (λ b. ltb (neg c) b) top (row c) (λ k m. r.below c k l m))
      ∙ sum_same (λ b. cond (ltb (neg c) b) (count b (row c)) 0) (λ b. low (neg b) (neg c)) top
      (λ b m. ap₂ (λ (x y : ℕ). cond (ltb (neg c) x) y 0) (sym (neg_neg b))
      (subst (λ (x : ℕ). count b (row x) ≡ count (neg c) (row (neg b))) (neg_neg c) (even_count (neg c) b (omega arith) m)))

  below_low : (c : ℕ) → c < top → below c ≡ sum_below (λ b. low c b) top
  below_low c l = sym (passing_sum (λ b. ltb b (neg c)) top (row c) (λ k m. r.below c k l m))

  above_below : sum_below above top ≡ sum_below below top
  above_below =
      sum_same above (λ c. sum_below (λ b. low (neg b) (neg c)) top) top above_low
      ∙ sum_same (λ c. sum_below (λ b. low (neg b) (neg c)) top) (λ c. sum_below (λ b. low b (neg c)) top) top (λ c l. sum_negated (λ b. low b (neg c)) h.vars)
      ∙ sum_negated (λ c. sum_below (λ b. low b c) top) h.vars
      ∙ sum_swap (λ c b. low b c) top top
      ∙ sym (sum_same below (λ c. sum_below (λ b. low c b) top) top below_low)

  -- "The binary count is half the entries."
  above_binary : sum_below above top ≡ h.binary
  unfolding row_length
  above_binary =
      let e : sum_below (λ c. above c + below c) top ≡ sum_below (row_length h) top = sum_same (λ c. above c + below c) (row_length h) top whole_row in
      omega (arith, e, sum_add above below top, above_below, r.half)

-- ---- originals among clauses

originals_append : (cs ds : List Clause) → originals (cs ++ ds) ≡ originals cs + originals ds
unfolding originals
originals_append [] ds = omega arith
originals_append (c ∷ cs) ds = omega (arith, originals_append cs ds)

originals_row : (c : ℕ) (row : List ℕ) → originals (pairs_in c row) ≡ passing (λ b. ltb (neg c) b) row
unfolding originals pairs_in passing
originals_row c [] = refl
originals_row c (b ∷ row) = go (ltb (neg c) b) (originals_row c row)
  where
    go : (t : Bool) → originals (pairs_in c row) ≡ passing (λ b. ltb (neg c) b) row → originals (cond t (pair (neg c) b ∷ pairs_in c row) (pairs_in c row)) ≡ one t + passing (λ b. ltb (neg c) b) row
    go true e = omega arith
    go false e = omega arith

originals_rows : (k : ℕ) (rows : List (List ℕ)) → originals (pairs k rows) ≡ sum_below (λ c. passing (λ b. ltb (neg (k + c)) b) (list_at rows c)) (length rows)
unfolding pairs sum_below originals
originals_rows k [] = refl
originals_rows k (row ∷ rows) =
    originals_append (pairs_in k row) (pairs (suc k) rows)
    ∙ ap₂ (λ (x y : ℕ). x + y)
    (originals_row k row ∙ ap (λ (x : ℕ). passing (λ b. ltb (neg x) b) row) (sym (add-zero k)))
    (originals_rows (suc k) rows ∙ sum_same (λ c. passing (λ b. ltb (neg (suc k + c)) b) (list_at rows c)) (λ c. passing (λ b. ltb (neg (k + suc c)) b) (list_at rows c)) (length rows)
    (λ c l. ap (λ (x : ℕ). passing (λ b. ltb (neg x) b) (list_at rows c)) (let e : suc k + c ≡ k + suc c = omega arith in e)))
    ∙ sym (sum_first (λ c. passing (λ b. ltb (neg (k + c)) b) (list_at (row ∷ rows) c)) (length rows))

originals_longs : (ws l : List ℕ) → originals (longs ws l) ≡ sum_below (λ i. one (live_in ws l 0 i)) (length l)
unfolding longs originals sum_below live_in live_at
originals_longs ws [] = refl
originals_longs ws (o ∷ l) = go (deleted_at ws o) (originals_longs ws l) ∙ sym (sum_first (λ i. one (live_in ws (o ∷ l) 0 i)) (length l))
  where
    go : (b : Bool) → originals (longs ws l) ≡ sum_below (λ i. one (live_in ws l 0 i)) (length l) → originals (cond b (longs ws l) (clause_at ws o ∷ longs ws l)) ≡ one (not b && eqb (tier_at ws o) 0) + sum_below (λ i. one (live_in ws l 0 i)) (length l)
    go true e = omega arith
    go false e = omega arith

-- ---- the counts of a store that passes

module _ (k : Lent) (w : whole_passes k ≡ true) where
  abbrev v : Held
  v = view k

  sizes_pass : sizes_ok everything k ≡ true
  unfolding whole_passes
  sizes_pass = and_left _ _ w

  store_pass : store_passes everything v ≡ true
  unfolding whole_passes
  store_pass = and_left _ _ (and_right (sizes_ok everything k) _ w)

  rows_sized_lem : rows_sized k ≡ true
  unfolding sizes_ok
  rows_sized_lem = and_left _ _ (and_right (tiers_sized k) _ (and_right (words_sized k) _ (and_right (vars_in_range k.state.vars) _ sizes_pass)))

  rows_two : length v.rows ≡ 2 * v.vars
  unfolding view rows_sized
  rows_two =
      rows_length (room_of k.state.vars k.rows) k.counts k.rows
      ∙ eqb-true (length k.counts) (2 * k.state.vars) (and_left _ _ (and_right (leb (length k.rows) (2 ^ 24)) _ rows_sized_lem))

  originals_binary : originals (pairs 0 v.rows) ≡ v.binary
  originals_binary =
      originals_rows 0 v.rows
      ∙ sum_same (λ c. passing (λ b. ltb (neg (0 + c)) b) (list_at v.rows c)) (above v (rows_read v (rows_pass_lem everything v store_pass refl))) (length v.rows)
      (λ c l. ap (λ (x : ℕ). passing (λ b. ltb (neg x) b) (list_at v.rows c)) (let e : 0 + c ≡ c = omega arith in e))
      ∙ ap (λ (n : ℕ). sum_below (above v (rows_read v (rows_pass_lem everything v store_pass refl))) n) rows_two
      ∙ above_binary v (rows_read v (rows_pass_lem everything v store_pass refl))

  originals_irred : originals (longs v.words v.clauses) ≡ at v.counts 0
  originals_irred =
      originals_longs v.words v.clauses
      ∙ sym (count_sum (live_in v.words v.clauses 0) (length v.clauses))
      ∙ sym ((held_words v (words_pass_lem everything v store_pass refl)).counts 0 (omega arith))

  -- the originals held are those that the state counts
  pub originals_counted : originals (all_held v) ≡ at k.state.counts 0 + k.state.binary
  unfolding all_held view
  originals_counted = originals_append (longs v.words v.clauses) (pairs 0 v.rows) ∙ ap₂ (λ (x y : ℕ). x + y) originals_irred originals_binary
