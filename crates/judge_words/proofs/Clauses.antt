-- Live clauses: the tests from what the code has read and compared. Assumes nothing.
use mathlib.Core.Path.{◌≡◌, sym, ap, ◌∙◌}
use mathlib.Core.Bool.{Bool, true, false, not, ◌||◌}
use mathlib.Core.List.{List}
use Prim.Native.Nat.{ℕ, ◌+◌, ◌<◌}
use native.Mathlib.Omega.{arith}
use Rattle.laws.specs.Lists.{at}
use Rattle.kinds.specs.Clauses.{deleted_at}
use Rattle.calls.specs.StorePasses.{live_at, clause_ok, clause_ok_at, placed}
use Rattle.calls.proofs.Readings.{next_read}
use Rattle.judge_words.specs.Judging.{Below}
use Rattle.judge_words.proofs.Literals.{below_wider}

-- o is clause i's offset
module _ (w l : List ℕ) (i o : ℕ) (eo : o ≡ at l i) {d : Bool} (ed : d ≡ deleted_at w o) where
  pub live_is : live_at w l i ≡ not d
  unfolding live_at
  live_is = ap (λ (z : ℕ). not (deleted_at w z)) (sym eo) ∙ ap not (sym ed)

  pub clause_dead : (v : ℕ) → d ≡ true → true ≡ clause_ok_at w v l i
  unfolding clause_ok_at
  clause_dead v e = sym (ap (λ (b : Bool). not b || clause_ok w v (at l i)) (live_is ∙ ap not e))

  pub clause_live : (v : ℕ) → d ≡ false → {r : Bool} → r ≡ clause_ok w v o → r ≡ clause_ok_at w v l i
  unfolding clause_ok_at
  clause_live v e q = q ∙ ap (clause_ok w v) eo ∙ sym (ap (λ (b : Bool). not b || clause_ok w v (at l i)) (live_is ∙ ap not e))

-- the stamps before clause i
pub record Ahead (l : List ℕ) (n i : ℕ) (stamps : List ℕ) : Type 0 where
  pub below : i < n → Below stamps (at l i + 1)

pub ahead_next : (w : List ℕ) (used : ℕ) (l : List ℕ) (n : ℕ) → placed w used l n ≡ true → (i : ℕ) {stamps : List ℕ} → Below stamps (at l i + 2) → Ahead l n (i + 1) stamps
ahead_next w used l n p i B = record { below = λ h. below_wider B (omega (arith, next_read w used l n p i h)) }
