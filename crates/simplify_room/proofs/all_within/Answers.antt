use mathlib.Core.Path.{◌≡◌, sym}
use mathlib.Core.Bool.{Bool, true, false}
use mathlib.Core.List.{List}
use Prim.Native.Nat.{ℕ, ◌≤◌, ◌<◌}
use lib.ListN.{length, take, length-take}
use lib.Seq.{get_or-take}
use borrow.Author.Tests.{tests, le-leb, lt-leb}
use Rattle.std.proofs.Common.{rules}
use Rattle.std.proofs.lemmas.Iterator.{cases_from_all, YieldsList-from_slice}
use Rattle.std.specs.Bool.{MatchBool}
use Rattle.std.specs.List.{AllWithin, HoldsAt}
use Rattle.laws.specs.Fold.{all_below}
use Rattle.laws.specs.Lists.{at}
use Rattle.laws.proofs.Folds.{all_of, all_fails}
use Rattle.laws.proofs.Parts.{in_front}
use Rattle.calls.specs.HostPasses.{at_most_at}
use native.Mathlib.Omega.{arith}
use Rattle.simplify_room.proofs.all_within.Goals as goal

within_is : (r : Bool) (m n : ℕ) (l : List ℕ) → n ≤ length l → MatchBool r (AllWithin (λ x. x ≤ m) (take n l) 0 (length (take n l))) ((k : ℕ) × (k < length (take n l)) × HoldsAt (λ x. m < x) (take n l) k)
    → r ≡ all_below (at_most_at m l) n
unfolding at_most_at
within_is true m n l h f = sym (all_of (at_most_at m l) n (λ k g. le-leb (at l k) m (rw (← get_or-take n l k 0 g) (f k 0 (omega arith) (omega (arith, length-take n l))))))
within_is false m n l h (k, g, f) = let e = in_front n l k g in sym (all_fails (at_most_at m l) k n e.0 (lt-leb (at l k) m (rw (← e.1) (f 0))))

pub returns : goal.returns
returns c =
    let a = c.args in
    within_is c.all.result a.m a.n a.list.now c.requires (cases_from_all _ _ _ (λ x. x ≤ a.m) (λ x. a.m < x) c.all.ensures.ran (YieldsList-from_slice (take a.n a.list.now) cc) (λ x q k. search (rules, tests)) (λ x q k. search (rules, tests)))
