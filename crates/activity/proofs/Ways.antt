-- What bump, decay and rescale leave: one law for each `return`. Assumes nothing.
use mathlib.Core.Path.{◌≡◌, sym, ap, ◌∙◌}
use mathlib.Core.Bool.{Bool, true, false, cond}
use mathlib.Core.List.{List}
use Prim.Native.Nat.{ℕ, ◌≤◌}
use lib.ListN.{length, set, take}
use lib.Seq.{length-take-le}
use lib.Ieee.{Float, binary32, mul, lt, le, to_bits}
use Rattle.laws.specs.Fold.{fold_list}
use Rattle.laws.specs.Lists.{at, fill}
use Rattle.laws.proofs.Filling.{fill_same}
use Rattle.kinds.specs.Clauses.{undeleted}
use Rattle.kinds.specs.Floats.{limit, factor, bump_sum}
use Rattle.kinds.specs.Setters.{activity_of}
use Rattle.kinds.specs.declared.ClauseActivity.{ClauseActivity}
use Rattle.calls.specs.Bumping.{scaled_at, rescaled, activity_raised, activity_bumped, bump_grown, decayed}
use Rattle.activity.specs.Stored.{Stored, holding, stored}

abbrev stored_of : List ℕ → List ℕ → ℕ → ClauseActivity → Stored
stored_of ws cs n a = record { words = ws; clauses = cs; listed = n; activity = a }

-- nothing was listed anew
kept_list : (ws clauses : List ℕ) (n : ℕ) (a : ClauseActivity) → n ≤ length clauses → stored_of ws clauses n a ≡ stored clauses n (holding ws clauses n a)
kept_list ws clauses n a h = λ i. record { words = ws; clauses = sym (fill_same clauses n h) i; listed = sym (length-take-le n clauses h) i; activity = a }

module _ (ws clauses : List ℕ) (n : ℕ) (a : ClauseActivity) where
  pub rescale_way : (v : List ℕ) (c : List ℕ) (r : ℕ) (b : Float) → c ≡ fill clauses n (undeleted ws (take n clauses)) → r ≡ length (undeleted ws (take n clauses))
      → v ≡ fold_list scaled_at ws (undeleted ws (take n clauses)) → b ≡ mul binary32 a.bump factor
      → record { words = v; clauses = c; listed = r; activity = activity_of b a.inv_decay } ≡ stored clauses n (rescaled (holding ws clauses n a))
  unfolding rescaled
  rescale_way v c r b p q s t = λ i. record { words = s i; clauses = p i; listed = q i; activity = activity_of (t i) a.inv_decay }

  module _ (o : ℕ) where
    bump_chosen : (b : Bool) → lt limit (bump_sum (at ws o) a.bump) ≡ b
        → stored clauses n (activity_bumped o (holding ws clauses n a)) ≡ stored clauses n (cond b (rescaled (activity_raised o (holding ws clauses n a))) (activity_raised o (holding ws clauses n a)))
    unfolding activity_bumped
    bump_chosen b e = ap (λ (x : Bool). stored clauses n (cond x (rescaled (activity_raised o (holding ws clauses n a))) (activity_raised o (holding ws clauses n a)))) e

    pub bump_loud : (v : List ℕ) (t : Bool) (x : Stored) → v ≡ set ws o (to_bits binary32 (bump_sum (at ws o) a.bump)) → t ≡ lt limit (bump_sum (at ws o) a.bump) → t ≡ true
        → x ≡ stored clauses n (rescaled (holding v clauses n a)) → x ≡ stored clauses n (activity_bumped o (holding ws clauses n a))
    bump_loud v t x e f y g = g ∙ ap (λ (z : List ℕ). stored clauses n (rescaled (holding z clauses n a))) e ∙ sym (bump_chosen true (sym f ∙ y))

    pub bump_quiet : (v : List ℕ) (t : Bool) → n ≤ length clauses → v ≡ set ws o (to_bits binary32 (bump_sum (at ws o) a.bump)) → t ≡ lt limit (bump_sum (at ws o) a.bump) → t ≡ false
        → record { words = v; clauses = clauses; listed = n; activity = a } ≡ stored clauses n (activity_bumped o (holding ws clauses n a))
    bump_quiet v t h e f y = kept_list v clauses n a h ∙ ap (λ (z : List ℕ). stored clauses n (holding z clauses n a)) e ∙ sym (bump_chosen false (sym f ∙ y))

  decay_chosen : (b : Bool) → le limit (mul binary32 a.bump a.inv_decay) ≡ b
      → stored clauses n (decayed (holding ws clauses n a)) ≡ stored clauses n (cond b (rescaled (bump_grown (holding ws clauses n a))) (bump_grown (holding ws clauses n a)))
  unfolding decayed
  decay_chosen b e = ap (λ (x : Bool). stored clauses n (cond x (rescaled (bump_grown (holding ws clauses n a))) (bump_grown (holding ws clauses n a)))) e

  abbrev grown : ClauseActivity
  grown = activity_of (mul binary32 a.bump a.inv_decay) a.inv_decay

  pub decay_loud : (l : Float) (x : Stored) → l ≡ limit → le l (mul binary32 a.bump a.inv_decay) ≡ true
      → x ≡ stored clauses n (rescaled (holding ws clauses n (activity_of (mul binary32 a.bump a.inv_decay) a.inv_decay))) → x ≡ stored clauses n (decayed (holding ws clauses n a))
  decay_loud l x e y g = g ∙ sym (decay_chosen true (ap (λ (z : Float). le z (mul binary32 a.bump a.inv_decay)) (sym e) ∙ y))

  pub decay_quiet : (l : Float) → n ≤ length clauses → l ≡ limit → le l (mul binary32 a.bump a.inv_decay) ≡ false
      → record { words = ws; clauses = clauses; listed = n; activity = activity_of (mul binary32 a.bump a.inv_decay) a.inv_decay } ≡ stored clauses n (decayed (holding ws clauses n a))
  decay_quiet l h e y = kept_list ws clauses n grown h ∙ sym (decay_chosen false (ap (λ (z : Float). le z (mul binary32 a.bump a.inv_decay)) (sym e) ∙ y))
