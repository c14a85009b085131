-- Clauses apart: a chain, and the clauses that it holds, depend on the words of its range only. Assumes nothing.
use mathlib.Core.Path.{◌≡◌, refl, sym}
use mathlib.Core.Bool.{Bool, true, false, cond}
use mathlib.Core.List.{List, [], ◌∷◌, ◌++◌}
use Prim.Native.Nat.{ℕ, ◌+◌, ◌≤◌, ◌<◌}
use native.Mathlib.Omega.{arith}
use native.Mathlib.Nat.{zero-add}
use lib.ListN.{length, get_or}
use Rattle.laws.proofs.Writing.{SameFrom, same_part, read_n_same}
use Rattle.kinds.specs.Clauses.{Clause, clause_at, len_at, lits_at, end_at, head_at, deleted_at, longs}
use Rattle.account.specs.Weights.{total, weigh, Chain}

pub chain_le : (lo hi : ℕ) (ws os : List ℕ) → Chain lo hi ws os → lo ≤ hi
chain_le lo hi ws [] h = h
chain_le lo hi ws (o ∷ os) (h, k) = let l = chain_le (end_at ws o) hi ws os k in omega arith

module _ (ws vs : List ℕ) (o hi : ℕ) (e : SameFrom o hi ws vs) (fit : end_at ws o ≤ hi) where
  len_same : len_at vs o ≡ len_at ws o
  len_same = sym (e (o + 2) (omega arith) (omega arith))

  lits_same : lits_at vs o ≡ lits_at ws o
  lits_same = rw len_same (sym (read_n_same ws vs (o + 3) (len_at ws o) (λ i h k. e i (omega arith) (omega arith))))

  head_same : head_at vs o ≡ head_at ws o
  head_same = sym (e (o + 1) (omega arith) (omega arith))

-- THE FRAME LEMMA
pub chain_same : (lo hi : ℕ) (ws vs os : List ℕ) → Chain lo hi ws os → SameFrom lo hi ws vs → Chain lo hi vs os
chain_same lo hi ws vs [] h e = h
chain_same lo hi ws vs (o ∷ os) (h, k) e =
    let l = chain_le (end_at ws o) hi ws os k in
    (h, rw (len_same ws vs o hi (same_part lo hi o hi ws vs h (omega arith) e) l) (chain_same (end_at ws o) hi ws vs os k (same_part lo hi _ hi ws vs (omega arith) (omega arith) e)))

pub longs_same : (lo hi : ℕ) (ws vs os : List ℕ) → Chain lo hi ws os → SameFrom lo hi ws vs → longs vs os ≡ longs ws os
unfolding longs
longs_same lo hi ws vs [] h e = refl
longs_same lo hi ws vs (o ∷ os) (h, k) e =
    let l = chain_le (end_at ws o) hi ws os k in
    let s = same_part lo hi o hi ws vs h (omega arith) e in
    rw (head_same ws vs o hi s l, lits_same ws vs o hi s l, longs_same (end_at ws o) hi ws vs os k (same_part lo hi _ hi ws vs (omega arith) (omega arith) e))

-- ---- totals

pub total_append : (w : Clause → ℕ) (c d : List Clause) → total w (c ++ d) ≡ total w c + total w d
unfolding total
total_append w [] d = sym (zero-add _)
total_append w (x ∷ c) d = let ih = total_append w c d in omega arith

pub weigh_live : (w : Clause → ℕ) (ws : List ℕ) (o : ℕ) → deleted_at ws o ≡ false → weigh w ws o ≡ w (clause_at ws o)
unfolding weigh
weigh_live w ws o e = rw e

pub weigh_gone : (w : Clause → ℕ) (ws : List ℕ) (o : ℕ) → deleted_at ws o ≡ true → weigh w ws o ≡ 0
unfolding weigh
weigh_gone w ws o e = rw e

longs_cons_by : (w : Clause → ℕ) (b : Bool) (c : Clause) (cs : List Clause) → total w (cond b cs (c ∷ cs)) ≡ cond b 0 (w c) + total w cs
unfolding total
longs_cons_by w true c cs = sym (zero-add _)
longs_cons_by w false c cs = refl

pub longs_cons : (w : Clause → ℕ) (ws : List ℕ) (o : ℕ) (os : List ℕ) → total w (longs ws (o ∷ os)) ≡ weigh w ws o + total w (longs ws os)
unfolding longs weigh
longs_cons w ws o os = longs_cons_by w (deleted_at ws o) (clause_at ws o) (longs ws os)

pub longs_append : (ws os ps : List ℕ) → longs ws (os ++ ps) ≡ longs ws os ++ longs ws ps
unfolding longs
longs_append ws [] ps = refl
longs_append ws (o ∷ os) ps = rw (longs_append ws os ps) (go (deleted_at ws o) (clause_at ws o) (longs ws os) (longs ws ps))
  where
    go : (b : Bool) (c : Clause) (cs ds : List Clause) → cond b (cs ++ ds) (c ∷ (cs ++ ds)) ≡ cond b cs (c ∷ cs) ++ ds
    go true c cs ds = refl
    go false c cs ds = refl

-- the total around a clause
longs_at : (w : Clause → ℕ) (ws pre : List ℕ) (o : ℕ) (post : List ℕ)
    → total w (longs ws (pre ++ o ∷ post)) ≡ total w (longs ws pre) + (weigh w ws o + total w (longs ws post))
longs_at w ws pre o post = rw (longs_append, total_append, longs_cons)

-- ---- parts of a chain

pub chain_pre : (lo hi : ℕ) (ws pre : List ℕ) (o : ℕ) (post : List ℕ) → Chain lo hi ws (pre ++ o ∷ post) → Chain lo o ws pre
chain_pre lo hi ws [] o post (h, k) = h
chain_pre lo hi ws (p ∷ pre) o post (h, k) = (h, chain_pre (end_at ws p) hi ws pre o post k)

pub chain_post : (lo hi : ℕ) (ws pre : List ℕ) (o : ℕ) (post : List ℕ) → Chain lo hi ws (pre ++ o ∷ post) → Chain (end_at ws o) hi ws post
chain_post lo hi ws [] o post (h, k) = k
chain_post lo hi ws (p ∷ pre) o post (h, k) = chain_post (end_at ws p) hi ws pre o post k

chain_join : (lo hi : ℕ) (ws pre : List ℕ) (o : ℕ) (post : List ℕ) → Chain lo o ws pre → Chain (end_at ws o) hi ws post → Chain lo hi ws (pre ++ o ∷ post)
chain_join lo hi ws [] o post h k = (h, k)
chain_join lo hi ws (p ∷ pre) o post (h, c) k = (h, chain_join (end_at ws p) hi ws pre o post c k)

pub chain_lower : (lo lo' hi : ℕ) (ws os : List ℕ) → lo' ≤ lo → Chain lo hi ws os → Chain lo' hi ws os
chain_lower lo lo' hi ws [] h c = omega arith
chain_lower lo lo' hi ws (o ∷ os) h (c, k) = (omega arith, k)

pub chain_higher : (lo hi hi' : ℕ) (ws os : List ℕ) → hi ≤ hi' → Chain lo hi ws os → Chain lo hi' ws os
chain_higher lo hi hi' ws [] h c = omega arith
chain_higher lo hi hi' ws (o ∷ os) h (c, k) = (c, chain_higher (end_at ws o) hi hi' ws os h k)

pub chain_append : (lo mid hi : ℕ) (ws os ps : List ℕ) → Chain lo mid ws os → Chain mid hi ws ps → Chain lo hi ws (os ++ ps)
chain_append lo mid hi ws [] ps h k = chain_lower mid lo hi ws ps h k
chain_append lo mid hi ws (o ∷ os) ps (h, c) k = (h, chain_append (end_at ws o) mid hi ws os ps c k)

-- ---- a change inside one listed clause

-- the words differ at most from o up to e
pub record Only (o e : ℕ) (ws vs : List ℕ) : Type 0 where
  pub size : length vs ≡ length ws
  pub below : (i : ℕ) → i < o → get_or ws i 0 ≡ get_or vs i 0
  pub above : (i : ℕ) → e ≤ i → get_or ws i 0 ≡ get_or vs i 0

module _ (hi : ℕ) (ws vs pre : List ℕ) (o : ℕ) (post : List ℕ) (c : Chain 0 hi ws (pre ++ o ∷ post)) (u : Only o (end_at ws o) ws vs) where
  -- the other clauses stay as they are
  pub update_pre : longs vs pre ≡ longs ws pre
  update_pre = longs_same 0 o ws vs pre (chain_pre 0 hi ws pre o post c) (λ i h k. u.below i k)

  pub update_post : longs vs post ≡ longs ws post
  update_post = longs_same _ hi ws vs post (chain_post 0 hi ws pre o post c) (λ i h k. u.above i h)

  pub update_total : (w : Clause → ℕ) → total w (longs vs (pre ++ o ∷ post)) + weigh w ws o ≡ total w (longs ws (pre ++ o ∷ post)) + weigh w vs o
  update_total w = rw (longs_at w vs, longs_at w ws, update_pre, update_post) (omega arith)

  -- the list without the clause
  pub drop_total : (w : Clause → ℕ) → total w (longs vs (pre ++ post)) + weigh w ws o ≡ total w (longs ws (pre ++ o ∷ post))
  drop_total w = rw (longs_append vs pre post, total_append, longs_at w ws, update_pre, update_post) (omega arith)

  -- a clause that does not grow
  pub update_chain : len_at vs o ≤ len_at ws o → Chain 0 hi vs (pre ++ o ∷ post)
  update_chain h = chain_join 0 hi vs pre o post
      (chain_same 0 o ws vs pre (chain_pre 0 hi ws pre o post c) (λ i h k. u.below i k))
      (chain_lower (end_at ws o) (end_at vs o) hi vs post (omega arith) (chain_same _ hi ws vs post (chain_post 0 hi ws pre o post c) (λ i h k. u.above i h)))

  pub drop_chain : Chain 0 hi vs (pre ++ post)
  drop_chain =
      chain_append 0 o hi vs pre post (chain_same 0 o ws vs pre (chain_pre 0 hi ws pre o post c) (λ i h k. u.below i k))
      (chain_lower (end_at ws o) o hi vs post (omega arith) (chain_same _ hi ws vs post (chain_post 0 hi ws pre o post c) (λ i h k. u.above i h)))
