-- One step of reading a number. Assumes nothing.
use mathlib.Core.Path.{◌≡◌, refl, ◌∙◌}
use mathlib.Core.Bool.{Bool, true, false, cond}
use mathlib.Core.List.{List, [], ◌∷◌}
use Prim.Native.Nat.{ℕ, suc, ◌+◌, ◌-◌, ◌*◌, ◌^◌, ◌≤◌, ◌<◌}
use native.Mathlib.Nat.{pow-suc}
use native.Mathlib.Numerals.{add-one}
use native.Mathlib.Omega.{arith}
use lib.ListN.{length, get_or, drop, drop_of_length-le}
use lib.Seq.{drop-cons}
use lib.Dec.{ltb}
use borrow.Author.Tests.{lt-ltb, le-ltb, ltb-true}
use Rattle.walk_lines.specs.Lines.{digit, whole, Number, none, is, number}
use Rattle.walk_lines.specs.Told.{number_of, digits_at}
use Rattle.std.proofs.Common.{Some, None}

pub next_power : (k v b : ℕ) → v < 10 ^ k → b < 58 → v * 10 + (b - 48) < 10 ^ suc k
next_power k v b h d = rw pow-suc (omega arith)

-- a number that is whole fits 32 bits
pub whole_small : (k v : ℕ) → whole k v ≡ true → v < 2 ^ 32
unfolding whole
whole_small k v h = go (ltb 0 k) (ltb v (2 ^ 32)) refl refl h
  where
    go : (t u : Bool) → ltb 0 k ≡ t → ltb v (2 ^ 32) ≡ u → whole k v ≡ true → v < 2 ^ 32
    go t true d e h = ltb-true v (2 ^ 32) e
    go true false d e h = let z : ◌≡◌ {A = Bool} false true = rw (d, e) at h in let y : ◌≡◌ {A = ℕ} 0 1 = cc in absurd (omega arith)
    go false false d e h = let z : ◌≡◌ {A = Bool} false true = rw d at h in let y : ◌≡◌ {A = ℕ} 0 1 = cc in absurd (omega arith)

module _ (line : List ℕ) (i k v : ℕ) (goal : Number) (before : number k v (drop i line) ≡ goal) where
  told : (j : ℕ) (b : Bool) → number_of line (cond b (Some (v, j)) None) ≡ cond b (is v (drop j line)) none
  told j true = refl
  told j false = refl

  pub number_digit : i < length line → digit (get_or line i 0) ≡ true → k < 10 → number (k + 1) (v * 10 + (get_or line i 0 - 48)) (drop (i + 1) line) ≡ goal
  unfolding number
  number_digit inside d few =
      let e : drop i line ≡ get_or line i 0 ∷ drop (suc i) line = drop-cons line i 0 inside in
      let f : ltb k 10 ≡ true = lt-ltb k 10 few in
      let g : number k v (get_or line i 0 ∷ drop (suc i) line) ≡ goal = rw e at before in
      let h : number (suc k) (v * 10 + (get_or line i 0 - 48)) (drop (suc i) line) ≡ goal = rw (d, f) at g in
      let p : k + 1 ≡ suc k = add-one k in
      let q : i + 1 ≡ suc i = add-one i in
      rw (p, q) h

  pub number_long : i < length line → digit (get_or line i 0) ≡ true → 10 ≤ k → none ≡ goal
  unfolding number
  number_long inside d many =
      let e : drop i line ≡ get_or line i 0 ∷ drop (suc i) line = drop-cons line i 0 inside in
      let f : ltb k 10 ≡ false = le-ltb k 10 many in
      let g : number k v (get_or line i 0 ∷ drop (suc i) line) ≡ goal = rw e at before in
      rw (d, f) at g

  pub number_stop : i < length line → digit (get_or line i 0) ≡ false → number_of line (digits_at k v i) ≡ goal
  unfolding number
  number_stop inside d =
      let e : drop i line ≡ get_or line i 0 ∷ drop (suc i) line = drop-cons line i 0 inside in
      let g : number k v (get_or line i 0 ∷ drop (suc i) line) ≡ goal = rw e at before in
      let h : cond (whole k v) (is v (get_or line i 0 ∷ drop (suc i) line)) none ≡ goal = rw d at g in
      let t : number_of line (digits_at k v i) ≡ cond (whole k v) (is v (drop i line)) none = told i (whole k v) in
      t ∙ (rw e h)

  pub number_end : (j : ℕ) → length line ≤ i → length line ≤ j → number_of line (digits_at k v j) ≡ goal
  unfolding number
  number_end j out past =
      let e : drop i line ≡ [] = drop_of_length-le line {i = i} out in
      let f : drop j line ≡ [] = drop_of_length-le line {i = j} past in
      let g : number k v [] ≡ goal = rw e at before in
      let t : number_of line (digits_at k v j) ≡ cond (whole k v) (is v (drop j line)) none = told j (whole k v) in
      t ∙ (rw f g)
