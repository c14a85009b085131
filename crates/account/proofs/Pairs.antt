-- The binary rows hold each pair once: what one more pair weighs. Assumes nothing.
use mathlib.Core.Path.{◌≡◌, refl}
use mathlib.Core.Bool.{Bool, true, false, cond}
use mathlib.Core.List.Permᴰ
use mathlib.Core.List.{List, [], ◌∷◌, ◌++◌}
use Prim.Native.Nat.{ℕ, zero, suc, ◌+◌, ◌-◌, ◌<◌}
use native.Mathlib.Omega.{arith}
use native.Mathlib.Nat.{add-suc, suc-add, add-zero, zero-add}
use lib.ListN.{length, length-set}
use lib.Dec.{ltb}
use borrow.Author.Tests.{ltb-true, ltb-false}
use Rattle.laws.specs.Lists.{push}
use Rattle.kinds.specs.Clauses.{Clause, pair, pairs_in, pairs, neg}
use Rattle.kinds.specs.Held.{Held}
use Rattle.calls.specs.Adding.{pair_pushed, added_pair}
use Rattle.account.specs.Weights.{total, Blind, entry, Chained}
use Rattle.account.proofs.Chains.{total_append}
use Rattle.account.proofs.Moves.{Moves, all_split, quiet}

pub row_cons : (w : Clause → ℕ) (r b : ℕ) (bs : List ℕ) → total w (pairs_in r (b ∷ bs)) ≡ entry w r b + total w (pairs_in r bs)
unfolding pairs_in entry total
row_cons w r b bs = go (ltb (neg r) b) (pair (neg r) b) (pairs_in r bs)
  where
    go : (t : Bool) (c : Clause) (cs : List Clause) → total w (cond t (c ∷ cs) cs) ≡ cond t (w c) 0 + total w cs
    go true c cs = refl
    go false c cs = omega arith

row_snoc : (w : Clause → ℕ) (r b : ℕ) (bs : List ℕ) → total w (pairs_in r (bs ++ (b ∷ []))) ≡ total w (pairs_in r bs) + entry w r b
row_snoc w r b [] = rw (row_cons w r b []) (unfold total pairs_in in omega arith)
row_snoc w r b (x ∷ bs) = rw (row_cons w r x (bs ++ (b ∷ [])), row_cons w r x bs, row_snoc w r b bs) (omega arith)

pub rows_cons : (w : Clause → ℕ) (r : ℕ) (row : List ℕ) (rows : List (List ℕ)) → total w (pairs r (row ∷ rows)) ≡ total w (pairs_in r row) + total w (pairs (suc r) rows)
unfolding pairs
rows_cons w r row rows = total_append w (pairs_in r row) (pairs (suc r) rows)

push_total : (w : Clause → ℕ) (k r x : ℕ) (rows : List (List ℕ)) → r < length rows → total w (pairs k (push r x rows)) ≡ total w (pairs k rows) + entry w (k + r) x
push_total w k r x [] h = absurd (omega arith)
push_total w k zero x (row ∷ rows) h = rw (rows_cons, rows_cons, row_snoc, add-zero) (omega arith)
push_total w k (suc r) x (row ∷ rows) h = rw (rows_cons, rows_cons, push_total w (suc k) r x rows (omega arith), add-suc, suc-add) (omega arith)

pub neg_neg : (a : ℕ) → neg (neg a) ≡ a
neg_neg a = omega arith

module _ (w : Clause → ℕ) (blind : Blind w) (a b : ℕ) (ne : a ≡ b → ⊥) where
  two_entries : entry w (neg a) b + entry w (neg b) a ≡ w (pair a b)
  unfolding entry
  two_entries = rw (neg_neg a, neg_neg b) (go (ltb a b) refl (ltb b a) refl)
    where
      go : (t : Bool) → ltb a b ≡ t → (u : Bool) → ltb b a ≡ u → cond t (w (pair a b)) 0 + cond u (w (pair b a)) 0 ≡ w (pair a b)
      go true e true f = let h = ltb-true a b e in let k = ltb-true b a f in absurd (omega arith)
      go true e false f = omega arith
      go false e true f = let q = blind true (b ∷ a ∷ []) (a ∷ b ∷ []) (Permᴰ.swap refl refl) in omega arith
      go false e false f = let h = ltb-false a b e in let k = ltb-false b a f in absurd (ne (omega arith))

  -- adding {a, b}: one pair more
  pub pushed_total : (rows : List (List ℕ)) → neg a < length rows → neg b < length rows → total w (pairs 0 (pair_pushed a b rows)) ≡ total w (pairs 0 rows) + w (pair a b)
  pushed_total rows h k =
      let r1 = push_total w 0 (neg a) b rows h in
      let r2 = push_total w 0 (neg b) a (push (neg a) b rows) (rw length-set k) in
      let e1 = zero-add (neg a) in
      let e2 = zero-add (neg b) in
      rw (r2, r1, e1, e2, ← two_entries) (omega arith)

  pub pair_moves : (asg : List ℕ) (s : Held) → Chained s → neg a < length s.rows → neg b < length s.rows → Moves w asg (pair a b ∷ []) s (added_pair a b s)
  unfolding added_pair
  pair_moves asg s c h k = quiet w asg (pair a b ∷ []) s (added_pair a b s) (record { chain = c.chain; room = c.room }) refl
      (rw (all_split w s, all_split w (added_pair a b s), pushed_total s.rows h k) (unfold total in omega arith))
