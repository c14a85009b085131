-- What a literal's byte and code choose: the three ways through `lit_value`, and the five through `reason_of`. Assumes nothing.
use mathlib.Core.Path.{◌≡◌, refl, sym, ap, ◌∙◌}
use mathlib.Core.Bool.{cond}
use mathlib.Core.List.{List}
use Prim.Native.Nat.{ℕ, ◌+◌, ◌/◌, ◌%◌, ◌<◌}
use lib.Dec.{eqb}
use lib.ListN.{length, get_or}
use Rattle.laws.proofs.Choices.{pick_yes, pick_no, get_d_any}
use Rattle.kinds.specs.Clauses.{var_of}
use Rattle.kinds.specs.Held.{value_of}
use Rattle.kinds.specs.declared.LitValue.{LitValue}
use Rattle.kinds.specs.declared.LitValue.TheVariants.{True, False, Unassigned}

-- the literal's value by the byte b
abbrev value_by : ℕ → ℕ → LitValue
value_by b l = cond (eqb (b + l % 2) 1) True (cond (eqb b 2) Unassigned False)

module _ (a : List ℕ) (l : ℕ) (h : var_of l < length a) where
  in_range_lem : value_by (get_or a (l / 2) 0) l ≡ value_of a l
  in_range_lem = ap (λ (b : ℕ). value_by b l) (get_d_any a (l / 2) 0 2 h)

  pub is_true : get_or a (l / 2) 0 + l % 2 ≡ 1 → True ≡ value_of a l
  is_true e = pick_yes _ _ _ _ e ∙ in_range_lem

  pub is_open_lem : (get_or a (l / 2) 0 + l % 2 ≡ 1 → ⊥) → get_or a (l / 2) 0 ≡ 2 → Unassigned ≡ value_of a l
  is_open_lem n e = pick_yes _ _ _ _ e ∙ pick_no _ _ _ _ n ∙ in_range_lem

  pub is_false_lem : (get_or a (l / 2) 0 + l % 2 ≡ 1 → ⊥) → (get_or a (l / 2) 0 ≡ 2 → ⊥) → False ≡ value_of a l
  is_false_lem n e = pick_no _ _ _ _ e ∙ pick_no _ _ _ _ n ∙ in_range_lem
