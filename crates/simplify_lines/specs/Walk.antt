-- The walk over the long clauses, and what it stands on.
use Rattle.std.specs.Prelude.{◌≡◌, true, false, List, [], ℕ, ◌+◌, ◌^◌, ◌≤◌, ◌<◌, length}
use Rattle.laws.specs.Fold.{count_below, sum_below, fold_list}
use Rattle.laws.specs.Lists.{at}
use Rattle.kinds.specs.Clauses.{len_at, lits_at, end_at, deleted_at, neg, var_of}
use Rattle.kinds.specs.Lent.{Lent, Host, Parts, host_of, lent}
use Rattle.kinds.specs.Held.{Held, with_clauses}
use Rattle.kinds.specs.declared.State.{State}
use Rattle.calls.specs.StorePasses.{live_in, live_size}
use Rattle.calls.specs.Simplifying.{any_true, unfalsified, clause_done}

-- "then takes long clauses in list order"
unfoldable pub longs_done : Held → Held
longs_done h = fold_list clause_done (with_clauses [] h) h.clauses

-- what is written: words, clause list, rows and record; of the host's side the values are read
abbrev pub walk_parts : Parts
walk_parts = record { vars = true; state = true; words = true; tiers = false; rows = true; rec = true; levels = false; host = false }

abbrev pub values_only : List ℕ → Host
values_only values = host_of values [] [] [] [] 0 0

abbrev pub lent_walk : State → List ℕ → List ℕ → List ℕ → List ℕ → List ℕ → List ℕ → Lent
lent_walk s words clauses rows counts rec values = lent s words clauses [] [] [] [] rows counts rec (values_only values)

-- what the judging (2) and the refusal of clauses that lack literals (10) have established of the long clauses
pub record Walkable (h : Held) : Type 0 where
  pub ends : (j : ℕ) → j < length h.clauses → end_at h.words (at h.clauses j) ≤ length h.words
  pub next : (j : ℕ) → j + 1 < length h.clauses → end_at h.words (at h.clauses j) ≤ at h.clauses (j + 1)
  pub vars : (j : ℕ) → j < length h.clauses → deleted_at h.words (at h.clauses j) ≡ false
      → (p : ℕ) → p < len_at h.words (at h.clauses j) → var_of (at h.words (at h.clauses j + 3 + p)) < length h.host.values
  pub codes : (j : ℕ) → j < length h.clauses → deleted_at h.words (at h.clauses j) ≡ false
      → (p : ℕ) → p < len_at h.words (at h.clauses j) → neg (at h.words (at h.clauses j + 3 + p)) < length h.rows
  pub two : (j : ℕ) → j < length h.clauses → deleted_at h.words (at h.clauses j) ≡ false
      → any_true h.host.values (lits_at h.words (at h.clauses j)) ≡ false → 2 ≤ length (unfalsified h.host.values (lits_at h.words (at h.clauses j)))
  pub counts : (t : ℕ) → t < 4 → at h.counts t ≡ count_below (live_in h.words h.clauses t) (length h.clauses)
  pub garbage : h.garbage + sum_below (live_size h.words h.clauses) (length h.clauses) ≤ 2 ^ 24
