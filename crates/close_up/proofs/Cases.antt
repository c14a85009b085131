-- Each way through `redirect`: l the first literal, x its variable. Assumes nothing.
use mathlib.Core.Path.{◌≡◌, refl, sym, ap, ◌∙◌}
use mathlib.Core.Logic.{◌⊎◌, inl, inr}
use mathlib.Core.List.{List}
use Prim.Native.Nat.{ℕ}
use denote.Enum.Declared.{tag_of}
use lib.ListN.{set}
use borrow.Author.Tests.{eq-eqb, ne_eqb}
use Rattle.laws.specs.Lists.{at}
use Rattle.kinds.specs.Clauses.{var_of}
use Rattle.kinds.specs.Held.{value_of, node_of}
use Rattle.kinds.specs.Numbers.{reason_of}
use Rattle.kinds.specs.declared.ClauseRef.{ClauseRef}
use Rattle.kinds.specs.declared.LitValue.{LitValue}
use Rattle.kinds.specs.declared.LitValue.TheVariants.{True, False, Unassigned}
use Rattle.kinds.specs.contracts.LitValue as value
use Rattle.kinds.specs.declared.Node.{Node}
use Rattle.kinds.specs.contracts.Reason as reason
use Rattle.kinds.specs.declared.Reason.{Reason}
use Rattle.kinds.specs.declared.Reason.TheVariants.{None, Unit, Binary, Long, Removed}
use Rattle.judge_host.proofs.Literals.{true_told, not_true_told, long_told, not_long_told}
use Rattle.close_up.specs.Reasons.{redirected}

-- a value that is not True, and a reason that is no long clause, is one of the others
other_value : (v : LitValue) → (v ≡ True → ⊥) → (tag_of value.the_type v ≡ 1) ⊎ (tag_of value.the_type v ≡ 2)
other_value True f = absurd (f refl)
other_value False f = inl refl
other_value Unassigned f = inr refl

other_reason : (r : Reason) → ((y : ClauseRef) → r ≡ Long y → ⊥)
    → (tag_of reason.the_type r ≡ 0) ⊎ ((tag_of reason.the_type r ≡ 1) ⊎ ((tag_of reason.the_type r ≡ 2) ⊎ (tag_of reason.the_type r ≡ 4)))
other_reason None f = inl refl
other_reason Unit f = inr (inl refl)
other_reason (Binary x) f = inr (inr (inl refl))
other_reason (Long y) f = absurd (f y refl)
other_reason Removed f = inr (inr (inr refl))

module _ (values kinds reasons levels : List ℕ) (l o p : ℕ) {v : LitValue} (told : v ≡ value_of values l) where
  abbrev goal : List ℕ
  goal = redirected values kinds reasons l o p

  pub not_true : (v ≡ True → ⊥) → reasons ≡ goal
  unfolding redirected
  not_true t = rw (← not_true_told values l told (other_value v t))

  module _ (is_true : v ≡ True) (x : ℕ) (var : x ≡ var_of l) (n : Node) (node : n ≡ node_of kinds reasons levels x) where
    t : tag_of value.the_type v ≡ 0
    t = ap (tag_of value.the_type) is_true

    kind_is : n.reason ≡ reason_of (at kinds (var_of l)) (at reasons (var_of l))
    kind_is = ap (λ (m : Node). m.reason) node ∙ ap (λ (y : ℕ). reason_of (at kinds y) (at reasons y)) var

    pub not_long : ((y : ClauseRef) → n.reason ≡ Long y → ⊥) → reasons ≡ goal
    unfolding redirected
    not_long q = rw (← true_told values l told t, ne_eqb (at kinds (var_of l)) 3 (not_long_told (at kinds (var_of l)) (at reasons (var_of l)) kind_is (other_reason n.reason q)))

    module _ (c : ClauseRef) (long : n.reason ≡ Long c) where
      both : (at kinds (var_of l) ≡ 3) × (c.0 ≡ at reasons (var_of l))
      both = long_told (at kinds (var_of l)) (at reasons (var_of l)) c (sym long ∙ kind_is)

      pub other_clause : (c.0 ≡ o → ⊥) → reasons ≡ goal
      unfolding redirected
      other_clause h = rw (← true_told values l told t, eq-eqb (at kinds (var_of l)) 3 both.0, ne_eqb (at reasons (var_of l)) o (λ q. h (both.1 ∙ q)))

      pub this_clause : c.0 ≡ o → (reasons₁ : List ℕ) → reasons₁ ≡ set reasons x p → reasons₁ ≡ goal
      unfolding redirected
      this_clause h reasons₁ e = e ∙ ap (λ (y : ℕ). set reasons y p) var ∙ rw (← true_told values l told t, eq-eqb (at kinds (var_of l)) 3 both.0, eq-eqb (at reasons (var_of l)) o (sym both.1 ∙ h))
