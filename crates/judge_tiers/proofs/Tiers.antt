-- The ways through the judging of one tier and of all four. Assumes nothing.
use mathlib.Core.Path.{◌≡◌, ap, ◌∙◌}
use mathlib.Core.Bool.{Bool, true}
use mathlib.Core.List.{List}
use Prim.Native.Nat.{ℕ, ◌≤◌}
use lib.ListN.{length, take}
use Rattle.laws.specs.Fold.{all_below}
use Rattle.laws.specs.Lists.{at, list_at}
use Rattle.judge_tiers.specs.Marking.{tier_test, Ready, Prepared}
use Rattle.judge_words.proofs.Whole.{placed_used, clauses_used}
use Rattle.judge_tiers.proofs.Marks.{bare}
use Rattle.judge_tiers.proofs.Whole.{tier_answer, tier_used}

-- what `tiers_pass` is told, for the used part of the clause list
pub prepared : {w : List ℕ} {v used : ℕ} {l : List ℕ} {n : ℕ} → Ready w v used l n → Prepared w used (take n l)
prepared {w} {v} {used} {l} {n} R = record {
  room = R.room;
  lies = placed_used w l n R.listed used ∙ R.lies;
  bare = bare w v (take n l) (length (take n l)) (clauses_used w l n R.listed v ∙ R.good);
}

-- a tier judged on words that are those at entry
module _ (w : List ℕ) (used : ℕ) (l : List ℕ) (n : ℕ) (lists : List (List ℕ)) (lens : List ℕ) (h : n ≤ length l) where
  pub tier_is : (t : ℕ) {x : List ℕ} {r : Bool} → at lens t ≤ length (list_at lists t)
      → r ≡ tier_answer x used (take n l) t (take (at lens t) (list_at lists t)) → x ≡ w → r ≡ tier_test w used l n lists lens t
  unfolding tier_test
  tier_is t g p e = p ∙ ap (λ (y : List ℕ). tier_answer y used (take n l) t (take (at lens t) (list_at lists t))) e ∙ tier_used w used l n h t (list_at lists t) (at lens t) g

  pub tiers_all : tier_test w used l n lists lens 0 ≡ true → tier_test w used l n lists lens 1 ≡ true → tier_test w used l n lists lens 2 ≡ true
      → {r : Bool} → r ≡ tier_test w used l n lists lens 3 → r ≡ all_below (tier_test w used l n lists lens) 4
  unfolding all_below
  tiers_all p₀ p₁ p₂ q = q ∙ simp (p₀, p₁, p₂)
