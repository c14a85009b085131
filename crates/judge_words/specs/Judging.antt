-- What the judging of the words and the clause list keeps on the way.
use Rattle.std.specs.Prelude.{◌≡◌, List, ℕ, ◌≤◌, ◌<◌}
use Rattle.laws.specs.Fold.{count_below}
use Rattle.laws.specs.Lists.{at}
use Rattle.calls.specs.StorePasses.{live_in}

-- "with different variables": for each variable, the stamp of the last clause that had it. Each stamp is below this one.
pub record Below (stamps : List ℕ) (stamp : ℕ) : Type 0 where
  pub each : (x : ℕ) → at stamps x < stamp

-- c has the number of live clauses of each tier among the first n
pub record Tally (w l : List ℕ) (n : ℕ) (c : List ℕ) : Type 0 where
  pub each : (t : ℕ) → t < 4 → at c t ≡ count_below (live_in w l t) n

-- ---- the binary search: "Clause list offsets rise"

-- the first n offsets rise
pub record Rising (l : List ℕ) (n : ℕ) : Type 0 where
  pub rises : (i j : ℕ) → i < j → j < n → at l i < at l j

-- of the first n offsets, the first k are at most x, and the others above it
pub record Split (l : List ℕ) (n x k : ℕ) : Type 0 where
  pub within : k ≤ n
  pub below : (i : ℕ) → i < k → at l i ≤ x
  pub above : (i : ℕ) → k ≤ i → i < n → x < at l i

-- k is where e stands among the first n offsets, or n where it does not
pub record Found (l : List ℕ) (n e k : ℕ) : Type 0 where
  pub within : k ≤ n
  pub hit : k < n → at l k ≡ e
  pub miss : (i : ℕ) → i < n → (i ≡ k → ⊥) → at l i ≡ e → ⊥
