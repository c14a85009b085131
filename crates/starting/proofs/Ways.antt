-- Starting: the ways through the call. Assumes nothing.
use mathlib.Core.Path.{◌≡◌, refl, sym, ap, ap₂, ◌∙◌}
use mathlib.Core.Bool.{Bool, true, false, cond, not}
use mathlib.Core.List.{List}
use Prim.Native.Nat.{ℕ}
use lib.Dec.{eqb}
use lib.Ieee.{Float}
use Rattle.kinds.specs.Floats.{unity, inverse, decay_ok}
use Rattle.kinds.specs.Setters.{activity_of}
use Rattle.kinds.specs.Lent.{Lent, lent, blank, no_host}
use Rattle.kinds.specs.declared.State.{State}
use Rattle.calls.specs.Size.{start_sizes_ok, tier_at_most}
use Rattle.calls.specs.Adding.{zeros, zeros_each, started}
use Rattle.calls.specs.Refusing.{lowest}
use Rattle.calls.specs.Outcome.{nothing, start_number, start_done, refused, accepted}
use Rattle.judge_sizes.specs.Blank.{of_vars}

module _ (s : State) (v : ℕ) (d : Float) (words clauses irred core mid local rows counts rec : List ℕ) where
  abbrev k : Lent
  k = lent s words clauses irred core mid local rows counts rec no_host

  -- the sizes are judged without a look at the old state
  any_state : start_sizes_ok v (lent (of_vars 0) words clauses irred core mid local rows counts rec no_host) ≡ start_sizes_ok v k
  unfolding start_sizes_ok tier_at_most
  any_state = refl

  number_is : (a b : Bool) → start_sizes_ok v k ≡ a → decay_ok d ≡ b → start_number v d k ≡ cond (not a) 1 (cond (not b) 12 0)
  unfolding start_number lowest
  number_is a b e f = ap₂ (λ (x y : Bool). cond (not x) 1 (cond (not y) 12 0)) e f

  done_is : (n : ℕ) → start_number v d k ≡ n → start_done v d k ≡ cond (eqb n 0) (accepted nothing (started v d k)) (refused n k)
  unfolding start_done
  done_is n e = ap (λ (x : ℕ). cond (eqb x 0) (accepted nothing (started v d k)) (refused x k)) e

  pub size_refused : start_sizes_ok v (lent (of_vars 0) words clauses irred core mid local rows counts rec no_host) ≡ false → refused 1 k ≡ start_done v d k
  size_refused e = sym (done_is 1 (number_is false (decay_ok d) (sym any_state ∙ e) refl))

  module _ (sizes : start_sizes_ok v (lent (of_vars 0) words clauses irred core mid local rows counts rec no_host) ≡ true) where
    pub decay_refused : decay_ok d ≡ false → refused 12 k ≡ start_done v d k
    decay_refused e = sym (done_is 12 (number_is true false (sym any_state ∙ sizes) e))

    pub is_started : decay_ok d ≡ true
        → accepted nothing (lent (blank v (activity_of unity (inverse d))) (zeros words) (zeros clauses) (zeros irred) (zeros core) (zeros mid) (zeros local) (zeros rows) (zeros counts) (zeros rec) no_host) ≡ start_done v d k
    unfolding started zeros_each
    is_started e = sym (done_is 0 (number_is true true (sym any_state ∙ sizes) e))
