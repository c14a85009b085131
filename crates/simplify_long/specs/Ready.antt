-- What simplifying the long clauses stands on.
use Rattle.std.specs.Prelude.{◌≡◌, true, ℕ, ◌*◌, ◌^◌, ◌≤◌, ◌<◌, length}
use Rattle.laws.specs.Lists.{at}
use Rattle.kinds.specs.Lent.{Lent, room_of}
use Rattle.kinds.specs.Layout.{view, fit}
use Rattle.simplify_lines.specs.Walk.{Walkable, walk_parts, longs_done}

-- the judging has established the sizes (1) and the clauses (2), the refusals 10 and 11 that no clause lacks literals and that the finished call fits
pub record LongReady (k : Lent) : Type 0 where
  pub walk : Walkable (view k)
  pub vars_low : 1 ≤ k.state.vars
  pub vars_high : k.state.vars ≤ 65536
  pub listed : k.state.clauses ≤ length k.clauses
  pub list_most : length k.clauses ≤ 2 ^ 22
  pub words_most : length k.words ≤ 2 ^ 24
  pub rec_most : length k.rec ≤ 2 ^ 24
  pub recorded : k.state.recorded ≤ length k.rec
  pub rows_most : length k.rows ≤ 2 ^ 24
  pub counts_long : length k.counts ≡ 2 * k.state.vars
  pub counted : (c : ℕ) → c < length k.counts → at k.counts c ≤ room_of k.state.vars k.rows
  pub binary : k.state.binary ≤ 2 ^ 24
  pub room : fit walk_parts k (longs_done (view k)) ≡ true
