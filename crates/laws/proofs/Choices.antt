-- What a test on numbers chooses, and numbers read with another default. Assumes nothing.
use mathlib.Core.Path.{◌≡◌, refl, ap, ◌∙◌}
use mathlib.Core.Bool.{Bool, cond}
use mathlib.Core.List.{List, [], ◌∷◌}
use Prim.Native.Nat.{ℕ, zero, suc, ◌<◌}
use native.Mathlib.Nat.{le_of_suc-le-suc, not-suc-le-zero}
use lib.Dec.{eqb}
use lib.ListN.{length, get_or}
use borrow.Author.Tests.{eq-eqb, ne_eqb}

pub pick_yes : (x y : ℕ) {A : Type 0} (a b : A) → x ≡ y → a ≡ cond (eqb x y) a b
pick_yes x y a b e = rw (eq-eqb x y e)

pub pick_no : (x y : ℕ) {A : Type 0} (a b : A) → (x ≡ y → ⊥) → b ≡ cond (eqb x y) a b
pick_no x y a b e = rw (ne_eqb x y e)

-- within a list, the default does not matter
pub get_d_any : (l : List ℕ) (k d e : ℕ) → k < length l → get_or l k d ≡ get_or l k e
get_d_any [] k d e h = absurd (not-suc-le-zero h)
get_d_any (x ∷ l) zero d e h = refl
get_d_any (x ∷ l) (suc k) d e h = get_d_any l k d e (le_of_suc-le-suc h)
