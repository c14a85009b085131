-- Two entries in rows: that they fit, and what the rows then hold. Assumes nothing.
use mathlib.Core.Path.{◌≡◌, sym, ap, ap₂, ◌∙◌, subst}
use mathlib.Core.List.{List, [], ◌∷◌}
use Prim.Native.Nat.{ℕ, suc, ◌+◌, ◌*◌, ◌≤◌, ◌<◌}
use native.Mathlib.Omega.{arith}
use native.Mathlib.Nat.{suc-mul, mul-le-mul_right}
use mathlib.Core.Logic.{inl, inr}
use Rattle.std.proofs.lemmas.Bool.{cases_eq}
use Rattle.std.proofs.lemmas.Grind.{get_or-set_at}
use lib.ListN.{length, set, length-set}
use lib.Seq.{get_or-set_same, get_or-set_other}
use Rattle.laws.specs.Lists.{at, list_at, more, push, lengths}
use Rattle.kinds.specs.Layout.{rows_of, fill_rows}
use Rattle.kinds.proofs.Layouts.{Sized, AllFit, sized_of, all_fit_of, rows_fill}
use Rattle.kinds.proofs.RowLayout.{lengths_rows, at_lengths, lengths_push, rows_push, rows_again, growing_push, length_rows}

-- a place in a row lies in the buffer
pub row_fits : (c n m k r : ℕ) → c < n → k ≤ m → n * m ≤ r → c * m + k ≤ r
row_fits c n m k r h g f = let e = mul-le-mul_right {m = suc c} {n = n} m (omega arith) in let s = suc-mul c m in omega arith

-- ---- one more of a count

more_same : (l : List ℕ) (k : ℕ) → k < length l → at (more k l) k ≡ at l k + 1
more_same l k h = get_or-set_same l k (at l k + 1) 0 h

more_le : (l : List ℕ) (k j : ℕ) → j < length l → at l j ≤ at (more k l) j
more_le l k j h =
    elim (cases_eq j k) [
      | inl e ↦ omega (arith, get_or-set_at l k j (at l k + 1) 0 e (omega arith), ap (at l) e)
      | inr n ↦ omega (arith, get_or-set_other l k j (at l k + 1) 0 n)
    ]

module _ (rows counts : List ℕ) (m x y : ℕ) (hx : x < length counts) (hy : y < length counts) (whole : length counts * m ≤ length rows)
    (fits : (c : ℕ) → c < length counts → at (more y (more x counts)) c ≤ m) where
  length_more : length (more x counts) ≡ length counts
  length_more = length-set counts x (at counts x + 1)

  once_fits : (c : ℕ) → c < length counts → at (more x counts) c ≤ m
  once_fits c h =
      let e = length_more in
      let le = more_le (more x counts) y c (omega arith) in
      let f = fits c h in
      omega arith

  counts_fit : (c : ℕ) → c < length counts → at counts c ≤ m
  counts_fit c h = let le = more_le counts x c h in let f = once_fits c h in omega arith

  pub first_fits : at counts x < m
  first_fits = let e = more_same counts x hx in let f = once_fits x hx in omega arith

  pub second_fits : at (more x counts) y < m
  second_fits = let l = length_more in let e = more_same (more x counts) y (omega arith) in let f = fits y hy in omega arith

  -- what they hold
  module _ (a b : ℕ) (rows₁ rows₂ counts₁ counts₂ : List ℕ)
      (r₁ : rows₁ ≡ set rows (x * m + at counts x) b) (c₁ : counts₁ ≡ more x counts)
      (r₂ : rows₂ ≡ set rows₁ (y * m + at counts₁ y) a) (c₂ : counts₂ ≡ more y counts₁) where
    before : List (List ℕ)
    before = rows_of m counts rows

    once : List (List ℕ)
    once = push x b (rows_of m counts rows)

    sized : Sized m counts rows
    sized = sized_of m counts rows counts_fit whole

    counts_once : counts₁ ≡ lengths (push x b (rows_of m counts rows))
    counts_once = c₁ ∙ sym (lengths_push (rows_of m counts rows) x b ∙ ap (more x) (lengths_rows m counts rows sized))

    rows_once : rows₁ ≡ fill_rows m counts (push x b (rows_of m counts rows)) rows
    rows_once = r₁ ∙ rows_push m counts rows x b sized hx first_fits

    length_once : length (push x b (rows_of m counts rows)) ≡ length counts
    length_once = length-set (rows_of m counts rows) x _ ∙ length_rows m counts rows

    once_all : AllFit m (push x b (rows_of m counts rows))
    once_all = all_fit_of m (push x b (rows_of m counts rows)) (λ c h.
        let l = length_once in
        let f = once_fits c (omega arith) in
        let e : at (lengths (push x b (rows_of m counts rows))) c ≡ at (more x counts) c = ap (λ (z : List ℕ). at z c) (sym counts_once ∙ c₁) in
        let g = at_lengths (push x b (rows_of m counts rows)) c in
        omega arith)

    held_once : rows_of m counts₁ rows₁ ≡ push x b (rows_of m counts rows)
    held_once = ap₂ (rows_of m) counts_once rows_once ∙ rows_fill m counts (push x b (rows_of m counts rows)) rows sized once_all length_once

    same_lengths : length counts₁ ≡ length counts
    same_lengths = ap length c₁ ∙ length_more

    sized_once : Sized m counts₁ rows₁
    sized_once = sized_of m counts₁ rows₁
        (λ c h. let l = same_lengths in let f = once_fits c (omega arith) in let e = ap (λ (z : List ℕ). at z c) c₁ in omega arith)
        (subst (λ (n : ℕ). n * m ≤ length rows₁) (sym same_lengths) (subst (λ (n : ℕ). length counts * m ≤ n) (sym (ap length r₁ ∙ length-set rows (x * m + at counts x) b)) whole))

    pub counts_twice : counts₂ ≡ lengths (push y a (push x b (rows_of m counts rows)))
    counts_twice = c₂ ∙ ap (more y) counts_once ∙ sym (lengths_push (push x b (rows_of m counts rows)) y a)

    twice_all : AllFit m (push y a (push x b (rows_of m counts rows)))
    twice_all = all_fit_of m (push y a (push x b (rows_of m counts rows))) (λ c h.
        let l = length_once in
        let k = length-set (push x b (rows_of m counts rows)) y (mathlib.Core.List.◌++◌ (list_at (push x b (rows_of m counts rows)) y) (a ∷ [])) in
        let f = fits c (omega arith) in
        let e : at (lengths (push y a (push x b (rows_of m counts rows)))) c ≡ at (more y (more x counts)) c = ap (λ (z : List ℕ). at z c) (sym counts_twice ∙ c₂ ∙ ap (more y) c₁) in
        let g = at_lengths (push y a (push x b (rows_of m counts rows))) c in
        omega arith)

    pub rows_twice : rows₂ ≡ fill_rows m counts (push y a (push x b (rows_of m counts rows))) rows
    rows_twice =
        r₂
        ∙ rows_push m counts₁ rows₁ y a sized_once (subst (λ (n : ℕ). y < n) (sym same_lengths) hy) (subst (λ (l : List ℕ). at l y < m) (sym c₁) second_fits)
        ∙ ap (λ (z : List (List ℕ)). fill_rows m counts₁ (push y a z) rows₁) held_once
        ∙ ap₂ (λ (u v : List ℕ). fill_rows m u (push y a (push x b (rows_of m counts rows))) v) counts_once rows_once
        ∙ rows_again m counts (push x b (rows_of m counts rows)) (push y a (push x b (rows_of m counts rows))) rows sized twice_all length_once
        (length-set (push x b (rows_of m counts rows)) y _ ∙ length_once) (growing_push (push x b (rows_of m counts rows)) y a)
