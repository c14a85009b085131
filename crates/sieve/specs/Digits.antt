-- A set of numbers as binary digits, 64 to a word.
use Rattle.std.specs.Prelude.{◌≡◌, Bool, true, not, List, ℕ, ◌/◌, ◌%◌, ◌^◌, ◌<◌, eqb, length}
use Rattle.laws.specs.Fold.{all_below}
use Rattle.laws.specs.Lists.{at}

-- the digit of x is set in its word
unfoldable pub digit : ℕ → ℕ → Bool
digit w x = eqb (w / 2 ^ (x % 64) % 2) 1

-- the word v is w with the digit of x set
pub record Added (w x v : ℕ) : Type 0 where
  pub own : digit v x ≡ true
  pub others : (y : ℕ) → (y % 64 ≡ x % 64 → ⊥) → digit v y ≡ digit w y

-- x is in the set
abbrev pub has : List ℕ → ℕ → Bool
has s x = digit (at s (x / 64)) x

-- the set t is s with x
pub record Put (s : List ℕ) (x : ℕ) (t : List ℕ) : Type 0 where
  pub long : length t ≡ length s
  pub own : has t x ≡ true
  pub others : (y : ℕ) → (y ≡ x → ⊥) → has t y ≡ has s y

-- the number of index k is not x
unfoldable pub other : (ℕ → ℕ) → ℕ → ℕ → Bool
other f x k = not (eqb (f k) x)

-- 1,025 words, for the numbers up to 65,536: those of the first i indices are in the set, and no others
pub record Marked (f : ℕ → ℕ) (s : List ℕ) (i : ℕ) : Type 0 where
  pub long : length s ≡ 1025
  pub marks : (x : ℕ) → x / 64 < 1025 → not (has s x) ≡ all_below (other f x) i
