-- What `prove_units` answers, by the tests of the code: "above level 0 .. 'no new unit'", and as much with an empty trail. Assumes nothing.
use mathlib.Core.Path.{◌≡◌, refl, sym, ap, ap₂, ◌∙◌}
use mathlib.Core.Bool.{Bool, true, false, not, ◌&&◌}
use mathlib.Core.List.{List}
use Prim.Native.Nat.{ℕ}
use lib.ListN.{length, take}
use lib.Seq.{length-take-le}
use lib.Dec.{eqb}
use borrow.Author.Tests.{eq-eqb, ne_eqb}
use Rattle.kinds.specs.Lent.{Lent}
use Rattle.kinds.specs.Layout.{view, side}
use Rattle.calls.specs.Call.{words_record_host}
use Rattle.calls.specs.Simplifying.{new_unit}
use Rattle.calls.specs.Outcome.{judged}
use Rattle.calls.proofs.Judged.{sizes_judged, host_sized_lem}

module _ (k : Lent) where
  -- at level 0, with a trail that is not empty
  tests : {a b : Bool} → eqb k.host.level 0 ≡ a → eqb (length (take k.host.assigned k.host.trail)) 0 ≡ b → a && not b ≡ new_unit (view k)
  unfolding new_unit view side
  tests d e = sym (ap₂ (λ (a b : Bool). a && not b) d e)

  pub above : (k.host.level ≡ 0 → ⊥) → false ≡ new_unit (view k)
  above h = tests (ne_eqb k.host.level 0 h) refl

  pub new_is : judged words_record_host k ≡ 0 → k.host.level ≡ 0 → not (eqb k.host.assigned 0) ≡ new_unit (view k)
  new_is j d =
      let many = length-take-le k.host.assigned k.host.trail (host_sized_lem words_record_host k (sizes_judged words_record_host k j) refl).assigned in
      tests (eq-eqb k.host.level 0 d) (ap (λ (n : ℕ). eqb n 0) many)
