-- A listed clause struck: one clause less, and one line more. Assumes nothing.
use mathlib.Core.Path.{◌≡◌, refl, sym}
use mathlib.Core.Bool.{Bool, true, false, true≢false}
use mathlib.Core.List.{List, [], ◌∷◌}
use Prim.Native.Nat.{ℕ, ◌+◌, ◌≤◌, ◌<◌}
use native.Mathlib.Omega.{arith}
use lib.ListN.{length, length-set}
use lib.Seq.{get_or-set_same, get_or-set_other}
use borrow.Author.Tests.{eq-eqb}
use Rattle.laws.specs.Lists.{at, elem}
use Rattle.laws.proofs.Entries.{elem_at}
use Rattle.kinds.specs.Header.{deleted_of, with_deleted}
use Rattle.kinds.specs.Clauses.{Clause, head_at, len_at, lits_at, end_at, deleted_at, original_at, change_head, longs}
use Rattle.kinds.specs.Lines.{Line, line, of_kind, is_entry, is_strike, strike_kind}
use Rattle.kinds.specs.Held.{Held}
use Rattle.demands.specs.Demands.{AllReasoned, Reasoned, none_struck}
use Rattle.calls.specs.Adding.{removed, strike_noted, struck}
use Rattle.account.specs.Weights.{total, weigh, entered, struck_in, Chain, Chained}
use Rattle.account.proofs.Chains.{Only, weigh_live, weigh_gone, update_total, update_chain}
use Rattle.account.proofs.Lines.{flat_one}
use Rattle.account.proofs.Moves.{Moves, all_split}
use Rattle.account.proofs.Heads.{chain_above}

-- ---- the deleted bit

abbrev pub marked : ℕ → List ℕ → List ℕ
marked o ws = change_head (with_deleted true) o ws

bit_set : (x : ℕ) → deleted_of (with_deleted true x) ≡ 1
bit_set x = omega arith

pub marked_only : (o : ℕ) (ws : List ℕ) → Only o (end_at ws o) ws (marked o ws)
marked_only o ws = record {
  size = length-set ws (o + 1) _;
  below = λ i h. sym (get_or-set_other ws (o + 1) i _ 0 (omega arith));
  above = λ i h. sym (get_or-set_other ws (o + 1) i _ 0 (omega arith));
}

marked_len : (o : ℕ) (ws : List ℕ) → len_at (marked o ws) o ≡ len_at ws o
marked_len o ws = get_or-set_other ws (o + 1) (o + 2) _ 0 (omega arith)

pub marked_deleted : (o : ℕ) (ws : List ℕ) → o + 1 < length ws → deleted_at (marked o ws) o ≡ true
marked_deleted o ws h = rw (get_or-set_same ws (o + 1) (with_deleted true (head_at ws o)) 0 h) (eq-eqb (deleted_of (with_deleted true (head_at ws o))) 1 (bit_set (head_at ws o)))

-- ---- the line that strikes a clause of class b

pub record Strikes (k : ℕ) (b : Bool) : Type 0 where
  pub none_entered : (w : Clause → ℕ) (ls : List ℕ) → entered w (line (strike_kind b k) ls ∷ []) ≡ 0
  pub weight : (w : Clause → ℕ) (ls : List ℕ) → struck_in w (line (strike_kind b k) ls ∷ []) ≡ w (record { original = b; lits = ls })

-- "A redundant clause is always struck as 4", whatever the kind for an original
pub strikes_redundant : (k : ℕ) → Strikes k false
unfolding of_kind total is_entry is_strike
strikes_redundant k = record { none_entered = λ w ls. refl; weight = λ w ls. omega arith }

pub strikes_satisfied : (b : Bool) → Strikes 5 b
unfolding of_kind total is_entry is_strike
strikes_satisfied true = record { none_entered = λ w ls. refl; weight = λ w ls. omega arith }
strikes_satisfied false = strikes_redundant 5

-- a redundant clause is struck with no reason asked
pub redundant_reason : (a : List ℕ) (b : Bool) → b ≡ false → (q : Line) (ls : List ℕ) → Reasoned a q (line (strike_kind b 4) ls)
redundant_reason a true e q ls = absurd (true≢false e)
redundant_reason a false e q ls = none_struck refl

-- ---- any change inside the listed clause at o

module _ (w : Clause → ℕ) (s : Held) (c : Chained s) (o : ℕ) (listed : elem o s.clauses ≡ true) where
  abbrev ws : List ℕ
  ws = s.words

  pub at_fits : end_at ws o ≤ s.used
  at_fits = (chain_above 0 s.used ws s.clauses c.chain o listed).1

  pub at_chain : (vs : List ℕ) → Only o (end_at ws o) ws vs → len_at vs o ≤ len_at ws o → Chain 0 s.used vs s.clauses
  at_chain vs u h = let p = elem_at o s.clauses listed in rw p.split (update_chain s.used ws vs p.pre o p.post (rw p.split at c.chain) u h)

  pub at_total : (vs : List ℕ) → Only o (end_at ws o) ws vs → total w (longs vs s.clauses) + weigh w ws o ≡ total w (longs ws s.clauses) + weigh w vs o
  at_total vs u = let p = elem_at o s.clauses listed in rw p.split (update_total s.used ws vs p.pre o p.post (rw p.split at c.chain) u w)

  pub struck_moves : (a : List ℕ) (k : ℕ) → deleted_at ws o ≡ false → Strikes k (original_at ws o) → ((q : Line) → Reasoned a q (line (strike_kind (original_at ws o) k) (lits_at ws o))) → Moves w a [] s (struck k o s)
  unfolding total AllReasoned struck removed strike_noted
  struck_moves a k live st why =
      let f = at_fits in
      let r = c.room in
      let t = at_total (marked o ws) (marked_only o ws) in
      let g = weigh_gone w (marked o ws) o (marked_deleted o ws (omega arith)) in
      let l = weigh_live w ws o live in
      let x = st.none_entered w (lits_at ws o) in
      let y = st.weight w (lits_at ws o) in
      record {
        said = line (strike_kind (original_at ws o) k) (lits_at ws o) ∷ [];
        rec_is = rw flat_one;
        chain = record { chain = at_chain (marked o ws) (marked_only o ws) (rw marked_len (omega arith)); room = rw length-set r };
        reasoned = λ q. (why q, tt);
        even = rw (all_split w s, all_split w (struck k o s)) (omega arith);
      }
