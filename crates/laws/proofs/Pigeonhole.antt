-- Different entries of one list that all stand in another. Assumes nothing.
use mathlib.Core.Path.{◌≡◌, ap, subst}
use mathlib.Core.Logic.{⊎_elim}
use mathlib.Core.List.{List, [], ◌∷◌, ◌++◌}
use Prim.Native.Nat.{ℕ, ◌≤◌}
use native.Mathlib.Omega.{arith}
use lib.ListN.{length, length-append}
use Rattle.laws.proofs.Members.{In, Distinct, in_left, in_right, in_append}
use Rattle.laws.proofs.Entries.{elem_here, elem_later, elem_cases, elem_at}

-- different entries that all stand in b are at most as many as b has
pub no_more : (a b : List ℕ) → Distinct a → ((x : ℕ) → In x a → In x b) → length a ≤ length b
no_more [] b d h = omega arith
no_more (x ∷ a) b d h =
    let p = elem_at x b (h x (elem_here x a)) in
    let pre = p.pre in
    let post = p.post in
    let r : length a ≤ length (pre ++ post) = no_more a (pre ++ post) d.1
    (λ y m. ⊎_elim (λ q. in_left y pre post q)
    (λ q. ⊎_elim (λ e. absurd (d.0 (subst (λ (z : ℕ). In z a) e m))) (λ z. in_right y pre post z) (elem_cases y x post q))
    (in_append y pre (x ∷ post) (subst (In y) p.split (h y (elem_later y x a m))))) in
    let m = length-append pre post in
    let n = length-append pre (x ∷ post) in
    let e : length b ≡ length (pre ++ x ∷ post) = ap length p.split in
    omega arith
