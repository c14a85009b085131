-- What a chain of iterators answers, as a fold.
use mathlib.Core.Path.{◌≡◌, refl, sym, ap, ap₂, ◌∙◌}
use mathlib.Core.List.{List}
use mathlib.Core.Bool.{Bool, true, false, ◌&&◌}
use Prim.Native.Nat.{ℕ, zero, suc, ◌+◌, ◌≤◌, ◌<◌}
use native.Mathlib.Omega.{arith}
use native.Mathlib.Numerals.{add-one}
use lib.ListN.{length, take}
use lib.Seq.{take-length}
use lib.Dec.{leb}
use borrow.Author.Tests.{lt-leb, le-leb}
use Rattle.std.specs.Bool.{one_answer}
use Rattle.std.specs.Prelude.{IsTrue, ◌↔◌}
use Rattle.std.specs.List.{list_all}
use Rattle.std.proofs.lemmas.List.Folds.{list_all_more}
use Rattle.laws.specs.Lists.{at}
use Rattle.laws.specs.Fold.{all_below}
use Rattle.laws.proofs.Folds.{all_of, all_at, all_none, all_fails, all_more, all_end}

-- `all`
pub all_iff : (f : ℕ → Bool) (n : ℕ) {r : Bool} → (IsTrue r ↔ ((k : ℕ) → k < n → IsTrue (f k))) → r ≡ all_below f n
all_iff f n {r} e = one_answer r (all_below f n) e (all_at f n, all_of f n)

module _ (f : ℕ → Bool) where
  -- a loop over a list or a range that leaves at the first test that fails: r is what the test of index i gave
  pub all_stop : (i n : ℕ) {r : Bool} → i < n → r ≡ f i → r ≡ false → false ≡ all_below f n
  all_stop i n l e t = sym (all_fails f i n l (sym e ∙ t))

  pub all_pass : (i : ℕ) {r : Bool} → all_below f i ≡ true → r ≡ f i → r ≡ true → all_below f (i + 1) ≡ true
  all_pass i p e t = all_more f i p (sym e ∙ t)

-- a row of tests that leaves at the first that fails: r is what one gave, q what the rest gave
pub and_stop : {r a : Bool} (b : Bool) → r ≡ a → r ≡ false → false ≡ a && b
and_stop b e t = sym (ap (λ (x : Bool). x && b) (sym e ∙ t))

pub and_pass : {r a q b : Bool} → r ≡ a → r ≡ true → q ≡ b → q ≡ a && b
and_pass {b = b} e t k = k ∙ sym (ap (λ (x : Bool). x && b) (sym e ∙ t))

pub le_stop : (m n : ℕ) (b : Bool) → n < m → false ≡ leb m n && b
le_stop m n b h = sym (ap (λ (x : Bool). x && b) (lt-leb m n h))

pub le_pass : (m n : ℕ) {q b : Bool} → m ≤ n → q ≡ b → q ≡ leb m n && b
le_pass m n {b = b} h k = k ∙ sym (ap (λ (x : Bool). x && b) (le-leb m n h))

pub ruleset row = (and_stop, and_pass, le_stop, le_pass)

pub ruleset tests = (all_none, all_stop, all_pass, all_end)
