-- One step of the accounts: the lines that it writes make up for what it does to the held clauses. Assumes nothing.
use mathlib.Core.Path.{◌≡◌}
use mathlib.Core.List.{List, [], ◌∷◌, ◌++◌, append_assoc, append-nil}
use Prim.Native.Nat.{ℕ, ◌+◌}
use native.Mathlib.Omega.{arith}
use Rattle.kinds.specs.Clauses.{Clause, longs, pairs}
use Rattle.kinds.specs.Lines.{Line, flat, of_kind}
use Rattle.kinds.specs.Held.{Held}
use Rattle.demands.specs.Runs.{all_held}
use Rattle.demands.specs.Demands.{AllReasoned}
use Rattle.account.specs.Weights.{total, entered, struck_in, Chained}
use Rattle.account.proofs.Chains.{total_append}
use Rattle.account.proofs.Lines.{flat_append, entered_append, struck_append}

-- each line has its reason, whatever line stands before the first
pub reasoned_append : (a : List ℕ) (ls ms : List Line) → ((q : Line) → AllReasoned a q ls) → ((q : Line) → AllReasoned a q ms) → (q : Line) → AllReasoned a q (ls ++ ms)
unfolding AllReasoned
reasoned_append a [] ms f g q = g q
reasoned_append a (l ∷ ls) ms f g q = ((f q).0, go ls l (f q).1)
  where
    go : (ls : List Line) (q : Line) → AllReasoned a q ls → AllReasoned a q (ls ++ ms)
    go [] q h = g q
    go (l ∷ ls) q (h, k) = (h, go ls l k)

module _ (w : Clause → ℕ) where
  pub all_split : (h : Held) → total w (all_held h) ≡ total w (longs h.words h.clauses) + total w (pairs 0 h.rows)
  unfolding all_held
  all_split h = rw total_append

  -- from s to t, with the clauses `new` added, under the assignment a
  pub record Moves (a : List ℕ) (new : List Clause) (s t : Held) : Type 0 where
    pub said : List Line
    pub rec_is : t.rec ≡ s.rec ++ flat said
    pub chain : Chained t
    pub reasoned : (q : Line) → AllReasoned a q said
    pub even : total w new + (entered w said + total w (all_held s)) ≡ total w (all_held t) + struck_in w said

  -- a step that writes no line
  pub quiet : (a : List ℕ) (new : List Clause) (s t : Held) → Chained t → t.rec ≡ s.rec → total w new + total w (all_held s) ≡ total w (all_held t) → Moves a new s t
  unfolding AllReasoned flat of_kind total
  quiet a new s t c r e = record { said = []; rec_is = rw append-nil r; chain = c; reasoned = λ q. tt; even = omega arith }

  pub moves_trans : (a : List ℕ) (s t u : Held) → Moves a [] s t → Moves a [] t u → Moves a [] s u
  unfolding total
  moves_trans a s t u m n = record {
    said = m.said ++ n.said;
    rec_is = rw (n.rec_is, m.rec_is, flat_append, append_assoc);
    chain = n.chain;
    reasoned = reasoned_append a m.said n.said m.reasoned n.reasoned;
    even = rw (entered_append, struck_append) (omega (arith, m.even, n.even));
  }
