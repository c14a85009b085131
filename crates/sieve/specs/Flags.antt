-- A sieve of 128 flags, in which a number has the flag of its remainder.
use Rattle.std.specs.Prelude.{◌≡◌, List, ℕ, ◌%◌, ◌<◌, length}
use Rattle.laws.specs.Lists.{at}

-- the numbers f k of the first i indices have set their flags
pub record Sifted (f : ℕ → ℕ) (s : List ℕ) (i : ℕ) : Type 0 where
  pub long : length s ≡ 128
  pub all : (k : ℕ) → k < i → at s (f k % 128) ≡ 1

-- where the flag of index i is clear, its number is none of those before it
pub record Clear (f : ℕ → ℕ) (flag i : ℕ) : Type 0 where
  pub none : flag ≡ 0 → (k : ℕ) → k < i → f k ≡ f i → ⊥
