-- Literals read until a true one is met, unassigned ones counted; and tests of which none has held yet. Assumes nothing.
use mathlib.Core.Path.{◌≡◌, sym, ◌∙◌}
use mathlib.Core.Bool.{Bool, true, false}
use mathlib.Core.List.{List, [], ◌∷◌}
use Prim.Native.Nat.{ℕ, ◌+◌, ◌≤◌, ◌<◌}
use native.Mathlib.Omega.{arith}
use lib.ListN.{length, drop, drop_of_length-le}
use lib.Seq.{drop-cons}
use native.Mathlib.Numerals.{add-one}
use lib.Dec.{ltb}
use Rattle.laws.specs.Fold.{any_below}
use Rattle.laws.specs.Lists.{at}
use Rattle.laws.proofs.Folds.{any_more, any_at, or_neither}
use Rattle.kinds.specs.Held.{value_of}
use Rattle.kinds.specs.declared.LitValue.{LitValue}
use Rattle.kinds.specs.declared.LitValue.TheVariants.{True, False, Unassigned}
use Rattle.kinds.proofs.Told.{told_true, told_open, told_false}
use Rattle.calls.specs.Refusing.{open_count, lacking}
use Rattle.calls.specs.Simplifying.{any_true}

pub record Looking (a ls : List ℕ) (i free : ℕ) : Type 0 where
  pub few : free ≤ i
  pub true_is : any_true a (drop i ls) ≡ any_true a ls
  pub open_is : free + open_count a (drop i ls) ≡ open_count a ls

module _ {a ls : List ℕ} {i free : ℕ} (L : Looking a ls i free) (h : i < length ls) {v : LitValue} (e : v ≡ value_of a (at ls i)) where
  here : drop i ls ≡ at ls i ∷ drop (i + 1) ls
  here = rw add-one (drop-cons ls i 0 h)

  pub looking_drop : v ≡ False → Looking a ls (i + 1) free
  unfolding any_true open_count
  looking_drop t =
      let b = told_false a (at ls i) e t in
      record { few = omega (arith, L.few); true_is = rw (here, b.0) at L.true_is; open_is = omega (arith, rw (here, b.1) at L.open_is) }

  pub looking_open : v ≡ Unassigned → Looking a ls (i + 1) (free + 1)
  unfolding any_true open_count
  looking_open t =
      let b = told_open a (at ls i) e t in
      record { few = omega (arith, L.few); true_is = rw (here, b.0) at L.true_is; open_is = omega (arith, rw (here, b.1) at L.open_is) }

  pub looking_true : v ≡ True → false ≡ lacking a ls
  unfolding any_true lacking
  looking_true t = rw (← rw (here, told_true a (at ls i) e t) at L.true_is)

pub looking_end : {a ls : List ℕ} {i free : ℕ} → Looking a ls i free → length ls ≤ i → ltb free 2 ≡ lacking a ls
unfolding lacking any_true open_count
looking_end {a} {ls} {i} {free} L h =
    let z : drop i ls ≡ [] = drop_of_length-le ls h in
    let o : free ≡ open_count a ls = omega (arith, rw z at L.open_is) in
    rw (o, ← rw z at L.true_is)

-- ---- none has held yet
module _ (f : ℕ → Bool) where
  pub none_next : (i : ℕ) → any_below f i ≡ false → f i ≡ false → any_below f (i + 1) ≡ false
  none_next i p q = any_more f i ∙ or_neither (any_below f i) (f i) p q

  pub some_out : (i n : ℕ) → i < n → f i ≡ true → true ≡ any_below f n
  some_out i n h e = sym (any_at f n i h e)
