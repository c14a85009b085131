-- Adding a long clause: one clause more. Assumes nothing.
use mathlib.Core.Path.{◌≡◌, refl, sym, ◌∙◌}
use mathlib.Core.Bool.{false}
use mathlib.Core.List.{List, [], ◌∷◌, ◌++◌}
use Prim.Native.Nat.{ℕ, ◌+◌, ◌≤◌, ◌<◌}
use native.Mathlib.Omega.{arith}
use lib.ListN.{length}
use lib.Seq.{sets, length-sets}
use lib.Dec.{eqb}
use borrow.Author.Tests.{ne_eqb}
use Rattle.laws.proofs.Writing.{SameFrom, sets_below, sets_at, read_n_sets, read_n_tail, read_n_all}
use Rattle.kinds.specs.Header.{tier_of, deleted_of, new_head}
use Rattle.kinds.specs.Clauses.{Clause, head_at, len_at, lits_at, deleted_at, original_at, longs}
use Rattle.kinds.specs.Held.{Held}
use Rattle.calls.specs.Adding.{new_words, added_long}
use Rattle.account.specs.Weights.{total, Chained}
use Rattle.account.proofs.Chains.{total_append, longs_append, longs_same, chain_same, chain_append}
use Rattle.account.proofs.Moves.{Moves, all_split, quiet}

-- ---- word 1 of a new clause

new_undeleted : (t g : ℕ) → t < 4 → deleted_of (new_head t g) ≡ 0
new_undeleted t g h = omega arith

new_tier : (t g : ℕ) → t < 4 → tier_of (new_head t g) ≡ t
new_tier t g h = omega arith

-- ---- the words of a new clause at p

module _ (ws : List ℕ) (p t g : ℕ) (ls : List ℕ) (tier : t < 4) (room : p + (length ls + 3) ≤ length ws) where
  abbrev vs : List ℕ
  vs = sets ws p (new_words t g ls)

  new_len : len_at vs p ≡ length ls
  new_len = sets_at ws p (new_words t g ls) 2 (omega arith) (omega arith)

  new_lits : lits_at vs p ≡ ls
  new_lits = rw new_len (read_n_sets ws p (new_words t g ls) 3 (length ls) (omega arith) (omega arith) ∙ rw (read_n_tail, read_n_tail, read_n_tail) (read_n_all ls))

  new_head_lem : head_at vs p ≡ new_head t g
  new_head_lem = sets_at ws p (new_words t g ls) 1 (omega arith) (omega arith)

  new_live : deleted_at vs p ≡ false
  new_live = rw new_head_lem (ne_eqb (deleted_of (new_head t g)) 1 (λ z. let e = new_undeleted t g tier in omega arith))

  new_class : original_at vs p ≡ eqb t 0
  new_class = rw (new_head_lem, new_tier t g tier)

  before_same : SameFrom 0 p ws vs
  before_same i g k = sym (sets_below ws p (new_words _ _ ls) i k)

module _ (w : Clause → ℕ) (a : List ℕ) (s : Held) (c : Chained s) (t g : ℕ) (ls : List ℕ) (tier : t < 4) (room : s.used + (length ls + 3) ≤ length s.words) where
  abbrev new : Clause
  new = record { original = eqb t 0; lits = ls }

  long_chained : Chained (added_long t g ls s)
  unfolding added_long
  long_chained = record {
    room = rw length-sets room;
    chain =
        chain_append 0 s.used (s.used + (length ls + 3)) _ s.clauses (s.used ∷ [])
        (chain_same 0 s.used s.words _ s.clauses c.chain (before_same s.words s.used t g ls tier room))
        (omega arith, rw (new_len s.words s.used t g ls tier room) (omega arith));
  }

  -- the list of clauses held has the new one behind the others
  pub long_longs : longs (added_long t g ls s).words (added_long t g ls s).clauses ≡ longs s.words s.clauses ++ (new ∷ [])
  unfolding added_long longs
  long_longs = rw (
    longs_append,
    longs_same 0 s.used s.words _ s.clauses c.chain (before_same s.words s.used t g ls tier room),
    new_live s.words s.used t g ls tier room,
    new_class s.words s.used t g ls tier room,
    new_lits s.words s.used t g ls tier room,
  )

  pub long_moves : Moves w a (new ∷ []) s (added_long t g ls s)
  long_moves = quiet w a (new ∷ []) s (added_long t g ls s) long_chained (unfold added_long in refl)
      (rw (all_split w s, all_split w (added_long t g ls s), long_longs, total_append) (unfold total added_long in omega arith))
