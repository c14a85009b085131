-- Numbers that pass through a sieve of 128 flags one by one: a clear flag says that none of those before is the same. Assumes nothing.
use mathlib.Core.Path.{◌≡◌, ap, ◌∙◌}
use mathlib.Core.List.{List}
use Prim.Native.Nat.{ℕ, ◌+◌, ◌%◌, ◌<◌}
use native.Mathlib.Omega.{arith}
use native.Mathlib.Decide.{ℕ_discrete}
use lib.ListN.{set, replicate, length-set, length-replicate}
use lib.Seq.{get_or-set_same, get_or-set_other}
use Rattle.laws.specs.Lists.{at}
use Rattle.sieve.specs.Flags.{Sifted, Clear}

module _ (f : ℕ → ℕ) where
  pub sifted_none : Sifted f (replicate 128 0) 0
  sifted_none = record { long = length-replicate {A = ℕ} 128 0; all = λ k l. absurd (omega arith) }

  pub sifted_more : (s : List ℕ) (i : ℕ) → Sifted f s i → Sifted f (set s (f i % 128) 1) (i + 1)
  sifted_more s i p = record { long = length-set s (f i % 128) 1 ∙ p.long; all = λ k l. go k l (ℕ_discrete (f k % 128) (f i % 128)) }
    where
      go : (k : ℕ) → k < i + 1 → Dec (f k % 128 ≡ f i % 128) → at (set s (f i % 128) 1) (f k % 128) ≡ 1
      go k l (yes e) = ap (at (set s (f i % 128) 1)) e ∙ get_or-set_same s (f i % 128) 1 0 (let g = p.long in omega arith)
      go k l (no n) = get_or-set_other s (f i % 128) (f k % 128) 1 0 n ∙ p.all k (before (ℕ_discrete k i))
        where
          before : Dec (k ≡ i) → k < i
          before (yes q) = absurd (n (ap (λ (j : ℕ). f j % 128) q))
          before (no q) = omega arith

  pub sifted_clear : (s : List ℕ) (i : ℕ) → Sifted f s i → Clear f (at s (f i % 128)) i
  sifted_clear s i p = record {
    none = λ z k l q. let e : at s (f k % 128) ≡ 1 = p.all k l in let g : at s (f k % 128) ≡ 0 = ap (λ (x : ℕ). at s (x % 128)) q ∙ z in omega arith;
  }
