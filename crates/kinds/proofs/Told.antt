-- What a literal's value says of the tests on the literal. Assumes nothing.
use mathlib.Core.Path.{◌≡◌, refl, sym, ◌∙◌}
use mathlib.Core.Bool.{Bool, true, false, cond, not, ◌||◌}
use mathlib.Core.List.{List}
use Prim.Native.Nat.{ℕ}
use Rattle.kinds.specs.Held.{is_true, is_open, is_false, value_of}
use Rattle.kinds.specs.declared.LitValue.{LitValue}
use Rattle.kinds.specs.declared.LitValue.TheVariants.{True, False, Unassigned}

-- what is left where two arms took the others
pub value_left : (v : LitValue) → (v ≡ True → ⊥) → (v ≡ Unassigned → ⊥) → v ≡ False
value_left True f g = absurd (f refl)
value_left False f g = refl
value_left Unassigned f g = absurd (g refl)

module _ (a : List ℕ) (l : ℕ) {v : LitValue} (e : v ≡ value_of a l) where
  pub told_true : v ≡ True → is_true a l ≡ true
  told_true t = go (is_true a l) (is_open a l) (sym e ∙ t)
    where
      go : (t o : Bool) → cond t True (cond o Unassigned False) ≡ True → t ≡ true
      go true o q = refl
      go false true q = cc
      go false false q = cc

  pub told_open : v ≡ Unassigned → (is_true a l ≡ false) × (is_open a l ≡ true)
  told_open t = go (is_true a l) (is_open a l) (sym e ∙ t)
    where
      go : (t o : Bool) → cond t True (cond o Unassigned False) ≡ Unassigned → (t ≡ false) × (o ≡ true)
      go true o q = (cc, cc)
      go false true q = (refl, refl)
      go false false q = (cc, cc)

  pub told_false : v ≡ False → (is_true a l ≡ false) × (is_open a l ≡ false)
  told_false t = go (is_true a l) (is_open a l) (sym e ∙ t)
    where
      go : (t o : Bool) → cond t True (cond o Unassigned False) ≡ False → (t ≡ false) × (o ≡ false)
      go true o q = (cc, cc)
      go false true q = (cc, cc)
      go false false q = (refl, refl)

  pub told_not_false : (v ≡ False → ⊥) → is_false a l ≡ false
  told_not_false f = go (is_true a l) (is_open a l) (λ q. f (e ∙ q))
    where
      go : (t o : Bool) → (cond t True (cond o Unassigned False) ≡ False → ⊥) → not (t || o) ≡ false
      go true o f = refl
      go false true f = refl
      go false false f = absurd (f refl)
