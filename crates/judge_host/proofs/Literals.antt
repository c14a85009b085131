-- What the cases of a literal's value and of a reason say. Assumes nothing.
use mathlib.Core.Path.{◌≡◌, refl, ap}
use mathlib.Core.Bool.{Bool, true, false, cond}
use mathlib.Core.Logic.{⊎_elim, ◌⊎◌}
use mathlib.Core.List.{List}
use Prim.Native.Nat.{ℕ}
use native.Mathlib.Omega.{arith}
use denote.Enum.Declared.{tag_of}
use lib.Dec.{eqb}
use borrow.Author.Tests.{eqb-true}
use Rattle.kinds.specs.Held.{is_true, is_open, value_of}
use Rattle.judge_host.specs.Sides.{standing}
use Rattle.kinds.specs.Numbers.{reason_kind, reason_of}
use Rattle.kinds.specs.declared.ClauseRef.{ClauseRef}
use Rattle.kinds.specs.declared.LitValue.{LitValue}
use Rattle.kinds.specs.contracts.LitValue as value
use Rattle.kinds.specs.declared.LitValue.TheVariants.{True, False, Unassigned}
use Rattle.kinds.specs.declared.Reason.{Reason}
use Rattle.kinds.specs.contracts.Reason as reason
use Rattle.kinds.specs.declared.Reason.TheVariants.{None, Unit, Binary, Long, Removed}

-- ---- literals

abbrev chosen : Bool → Bool → LitValue
chosen t o = cond t True (cond o Unassigned False)

module _ (a : List ℕ) (l : ℕ) {v : LitValue} (e : v ≡ value_of a l) where
  pub true_told : tag_of value.the_type v ≡ 0 → true ≡ is_true a l
  true_told t = go (is_true a l) (is_open a l) (rw e at t)
    where
      go : (t o : Bool) → tag_of value.the_type (chosen t o) ≡ 0 → true ≡ t
      go true o q = refl
      go false true q = absurd (omega arith)
      go false false q = absurd (omega arith)

  pub not_true_told : (tag_of value.the_type v ≡ 1) ⊎ (tag_of value.the_type v ≡ 2) → false ≡ is_true a l
  not_true_told t = go (is_true a l) (is_open a l) (rw e at t)
    where
      go : (t o : Bool) → (tag_of value.the_type (chosen t o) ≡ 1) ⊎ (tag_of value.the_type (chosen t o) ≡ 2) → false ≡ t
      go true o q = absurd (⊎_elim (λ z. omega arith) (λ z. omega arith) q)
      go false o q = refl

-- ---- reasons

-- a byte above 4 is no standing reason, and is read as none
pub standing_of : (k x : ℕ) → standing (reason_kind (reason_of k x)) ≡ standing k
standing_of k x = grind arith

-- a long reason, by its kind byte k and value word x
pub long_told : (k x : ℕ) (o : ClauseRef) → Long o ≡ reason_of k x → (k ≡ 3) × (o.0 ≡ x)
long_told k x o e = go (eqb k 1) (eqb k 2) (eqb k 3) (eqb k 4) refl e
  where
    go : (a b d f : Bool) → eqb k 3 ≡ d → Long o ≡ cond a Unit (cond b (Binary (record { 0 = x })) (cond d (Long (record { 0 = x })) (cond f Removed None))) → (k ≡ 3) × (o.0 ≡ x)
    go true b d f q r = let z : ◌≡◌ {A = ℕ} 0 1 = cc in absurd (omega arith)
    go false true d f q r = let z : ◌≡◌ {A = ℕ} 0 1 = cc in absurd (omega arith)
    go false false true f q r = let same : o ≡ record { 0 = x } = cc in (eqb-true k 3 q, ap (λ (l : ClauseRef). l.0) same)
    go false false false true q r = let z : ◌≡◌ {A = ℕ} 0 1 = cc in absurd (omega arith)
    go false false false false q r = let z : ◌≡◌ {A = ℕ} 0 1 = cc in absurd (omega arith)

pub not_long_told : (k x : ℕ) {r : Reason} → r ≡ reason_of k x → (tag_of reason.the_type r ≡ 0) ⊎ ((tag_of reason.the_type r ≡ 1) ⊎ ((tag_of reason.the_type r ≡ 2) ⊎ (tag_of reason.the_type r ≡ 4))) → k ≡ 3 → ⊥
not_long_told k x {r} e t q =
    let z : tag_of reason.the_type r ≡ 3 = rw (e, q) in
    ⊎_elim (λ a. omega arith) (λ b. ⊎_elim (λ a. omega arith) (λ d. ⊎_elim (λ a. omega arith) (λ a. omega arith) d) b) t
