-- What the finished call needs: the words of its lines, and the entries of each row; told by the words as they came.
use Rattle.std.specs.Prelude.{◌≡◌, Bool, cond, not, ◌&&◌, List, ℕ, ◌+◌, ◌*◌, ◌^◌, ◌≤◌, length, eqb}
use Rattle.laws.specs.Lists.{at, more}
use Rattle.kinds.specs.Clauses.{len_at, lits_at, deleted_at, neg}
use Rattle.kinds.specs.Lent.{Lent, room_of}
use Rattle.kinds.specs.Layout.{view}
use Rattle.kinds.specs.declared.Verdict.{Verdict}
use Rattle.kinds.specs.declared.Verdict.TheVariants.{Satisfied, Same, Shorter}
use Rattle.calls.specs.Simplifying.{any_true, unfalsified, verdict_of, binaries_cleaned}
use Rattle.binary_clean.specs.Ready.{RowsReady}
use Rattle.simplify_lines.specs.Walk.{Walkable}

-- the words of the lines that a verdict on a clause of n literals asks for
abbrev pub verdict_words : Verdict → ℕ → ℕ
verdict_words Satisfied n = n + 2
verdict_words Same n = 0
verdict_words (Shorter m) n = (m + 2) + (n + 2)

-- of entry i of the clause list
unfoldable pub clause_words : List ℕ → List ℕ → List ℕ → ℕ → ℕ
clause_words a ws l i = cond (deleted_at ws (at l i)) 0 (verdict_words (verdict_of a (lits_at ws (at l i))) (len_at ws (at l i)))

-- two literals of the clause at o are left, and others were false
unfoldable pub becomes_pair : List ℕ → List ℕ → ℕ → Bool
becomes_pair a ws o =
    let ls = lits_at ws o in
    not (deleted_at ws o) && (not (any_true a ls) && (not (eqb (length (unfalsified a ls)) (length ls)) && eqb (length (unfalsified a ls)) 2))

-- the tally by code with the two entries that entry i of the clause list adds
unfoldable pub pair_tallied : List ℕ → List ℕ → List ℕ → List ℕ → ℕ → List ℕ
pair_tallied a ws l tally i =
    let r = unfalsified a (lits_at ws (at l i)) in
    cond (becomes_pair a ws (at l i)) (more (neg (at r 1)) (more (neg (at r 0)) tally)) tally

-- what the judging (1 and 2) and the refusal 10 have established
pub record RoomReady (k : Lent) : Type 0 where
  pub walk : Walkable (binaries_cleaned (view k))
  pub rows : RowsReady (room_of k.state.vars k.rows) k.counts k.rows k.host.values
  pub vars_low : 1 ≤ k.state.vars
  pub vars_high : k.state.vars ≤ 65536
  pub counts_long : length k.counts ≡ 2 * k.state.vars
  pub used : k.state.words ≤ length k.words
  pub words_most : length k.words ≤ 2 ^ 24
  pub listed : k.state.clauses ≤ length k.clauses
  pub list_most : length k.clauses ≤ 2 ^ 22
  pub recorded : k.state.recorded ≤ length k.rec
  pub rec_most : length k.rec ≤ 2 ^ 24
