-- Collecting: the live clauses close up, and are the same clauses. Assumes nothing.
use mathlib.Core.Path.{◌≡◌, refl, ap, ◌∙◌}
use mathlib.Core.Bool.{Bool, true, false, cond}
use mathlib.Core.List.{List, [], ◌∷◌, ◌++◌, append_assoc}
use Prim.Native.Nat.{ℕ, ◌+◌, ◌-◌, ◌≤◌, max}
use native.Mathlib.Omega.{arith}
use native.Mathlib.Nat.{zero-add, add_assoc}
use lib.ListN.{length, drop, replicate, length-append, get_or-append}
use lib.Seq.{get_or-append-add}
use Rattle.laws.specs.Lists.{at, joined, starts, fill}
use Rattle.laws.proofs.Writing.{length_read_n, get_d_read_n, Moved, read_n_moved}
use Rattle.kinds.specs.Clauses.{Clause, clause_at, head_at, len_at, lits_at, size_at, words_at, end_at, deleted_at, undeleted, longs}
use Rattle.kinds.specs.Held.{Held}
use Rattle.kinds.proofs.Layouts.{length_fill}
use Rattle.demands.specs.Runs.{all_held}
use Rattle.calls.specs.Collecting.{due, blocks, live_blocks, closed_up, collected}
use Rattle.account.specs.Weights.{total, Chain, Chained}
use Rattle.account.proofs.Chains.{chain_lower, chain_higher}
use Rattle.account.proofs.Moves.{Moves, quiet}
use Rattle.account.proofs.Heads.{unmoved_refl, unmoved_moves}
use Rattle.account.proofs.Bumping.{undeleted_longs, undeleted_chain}

-- ---- a clause moved whole from o to p

module _ (p o : ℕ) (vs ws : List ℕ) (m : Moved p o (size_at ws o) vs ws) where
  moved_len : len_at vs p ≡ len_at ws o
  moved_len = m 2 (omega arith)

  moved_head : head_at vs p ≡ head_at ws o
  moved_head = m 1 (omega arith)

  moved_lits : lits_at vs p ≡ lits_at ws o
  moved_lits = rw moved_len (read_n_moved (p + 3) (o + 3) (len_at ws o) vs ws (λ i h. simp add_assoc (m (3 + i) (omega arith))))

-- the block of o behind pre
block_moved : (ws : List ℕ) (o : ℕ) (pre x y : List ℕ) → Moved (length pre) o (size_at ws o) (pre ++ ((words_at ws o ++ x) ++ y)) ws
block_moved ws o pre x y i h =
    let c : List ℕ = words_at ws o in
    let n = length_read_n ws o (size_at ws o) in
    get_or-append-add pre ((c ++ x) ++ y) i 0
    ∙ get_or-append (c ++ x) y 0 i (omega (arith, length-append c x))
    ∙ get_or-append c x 0 i (omega arith)
    ∙ get_d_read_n ws o (size_at ws o) i h

-- ---- the blocks of os, one behind the other, behind pre and before more

pub record Packed (ws os pre more : List ℕ) : Type 0 where
  pub clauses : longs (pre ++ (joined (blocks ws os) ++ more)) (starts (length pre) (blocks ws os)) ≡ longs ws os
  pub chain : Chain (length pre) (length pre + length (joined (blocks ws os))) (pre ++ (joined (blocks ws os) ++ more)) (starts (length pre) (blocks ws os))

module _ (ws : List ℕ) (o : ℕ) (pre more : List ℕ) (cs : List (List ℕ)) where
  abbrev block : List ℕ
  block = words_at ws o

  abbrev buf : List ℕ
  buf = pre ++ ((block ++ joined cs) ++ more)

  here : Moved (length pre) o (size_at ws o) buf ws
  here = block_moved ws o pre (joined cs) more

  regroup : (pre ++ block) ++ (joined cs ++ more) ≡ buf
  regroup = simp append_assoc

  one_held : (x : List Clause) → longs ((pre ++ block) ++ (joined cs ++ more)) (starts (length (pre ++ block)) cs) ≡ x → longs buf (length pre ∷ starts (length pre + length block) cs) ≡ cond (deleted_at ws o) x (clause_at ws o ∷ x)
  unfolding longs
  one_held x h = rw (moved_head (length pre) o buf ws here, moved_lits (length pre) o buf ws here) (ap (λ (y : List Clause). cond (deleted_at ws o) y (clause_at ws o ∷ y)) (rw (regroup, length-append) at h))

  one_chain : (n : ℕ) → Chain (length (pre ++ block)) (length (pre ++ block) + n) ((pre ++ block) ++ (joined cs ++ more)) (starts (length (pre ++ block)) cs)
      → Chain (length pre) (length pre + (length block + n)) buf (length pre ∷ starts (length pre + length block) cs)
  one_chain n h = (
    omega arith,
    rw (moved_len (length pre) o buf ws here)
        (let k = length_read_n ws o (size_at ws o) in
        chain_lower (length pre + length block) (length pre + (len_at ws o + 3)) (length pre + (length block + n)) buf (starts (length pre + length block) cs) (omega arith)
        (chain_higher (length pre + length block) (length pre + length block + n) (length pre + (length block + n)) buf (starts (length pre + length block) cs) (omega arith) (rw (regroup, length-append) at h))),
  )

packed : (ws os pre more : List ℕ) → Packed ws os pre more
unfolding longs blocks joined starts
packed ws [] pre more = record { clauses = refl; chain = omega arith }
packed ws (o ∷ os) pre more =
    let k = packed ws os (pre ++ words_at ws o) more in
    record {
      clauses = one_held ws o pre more (blocks ws os) (longs ws os) k.clauses;
      chain = rw (length-append (words_at ws o) (joined (blocks ws os))) (one_chain ws o pre more (blocks ws os) (length (joined (blocks ws os))) k.chain);
    }

-- the blocks fit the used words
joined_fits : (lo hi : ℕ) (ws os : List ℕ) → Chain lo hi ws os → lo + length (joined (blocks ws os)) ≤ hi
unfolding blocks joined
joined_fits lo hi ws [] c = omega arith
joined_fits lo hi ws (o ∷ os) (h, k) = let r = joined_fits (end_at ws o) hi ws os k in rw (length-append, length_read_n) (omega arith)

module _ (s : Held) (c : Chained s) where
  abbrev live : List ℕ
  live = undeleted s.words s.clauses

  abbrev xs : List ℕ
  xs = joined (live_blocks s)

  fits : length xs ≤ s.used
  fits = let h = joined_fits 0 s.used s.words live (undeleted_chain s.words 0 s.used s.clauses c.chain) in omega arith

  closed_chained : Chained (closed_up s)
  unfolding closed_up fill
  closed_chained = record {
    chain = rw zero-add at (packed s.words live [] (replicate (s.used - length xs) 0 ++ drop (max s.used (length xs)) s.words)).chain;
    room = let l : length (fill s.words s.used xs) ≡ length s.words = length_fill s.words s.used xs c.room (omega (arith, fits, c.room)) in omega (arith, fits, c.room);
  }

  closed_held : all_held (closed_up s) ≡ all_held s
  unfolding closed_up fill all_held
  closed_held = rw ((packed s.words live [] (replicate (s.used - length xs) 0 ++ drop (max s.used (length xs)) s.words)).clauses, undeleted_longs s.words s.clauses)

  pub collect_moves : (w : Clause → ℕ) (a : List ℕ) → Moves w a [] s (collected s)
  unfolding collected
  collect_moves w a = go (due s)
    where
      go : (b : Bool) → Moves w a [] s (cond b (closed_up s) s)
      go true = quiet w a [] s (closed_up s) closed_chained (unfold closed_up in refl) (rw closed_held (unfold total in omega arith))
      go false = unmoved_moves w a s s c (unmoved_refl s)
