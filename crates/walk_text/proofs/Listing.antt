-- A list, number by number. Assumes nothing.
use mathlib.Core.Path.{◌≡◌, ap, ◌∙◌}
use mathlib.Core.List.{List, [], ◌∷◌}
use Prim.Native.Nat.{ℕ, ◌+◌, ◌≤◌, min}
use native.Mathlib.Omega.{arith}
use lib.ListN.{length}
use Rattle.walk_text.specs.Page.{Page, page, written}
use Rattle.walk_text.specs.Numbers.{decimal, further, commas}
use Rattle.walk_text.proofs.Laying.{behind}

-- a comma, then a number
pub comma : (out mid after : List ℕ) (at m to n : ℕ) → page mid m ≡ written (44 ∷ []) (page out at) → page after to ≡ written (decimal n) (page mid m)
    → page after to ≡ written (44 ∷ decimal n) (page out at)
comma out mid after at m to n e so = so ∙ ap (written (decimal n)) e ∙ behind (44 ∷ []) (decimal n) (page out at)

-- a number, and those that are left
pub begun : (out after : List ℕ) (at to n : ℕ) (ns : List ℕ) → page after to ≡ written (decimal n) (page out at) → written (further ns) (page after to) ≡ written (commas (n ∷ ns)) (page out at)
unfolding commas
begun out after at to n ns e = ap (written (further ns)) e ∙ behind (decimal n) (further ns) (page out at)

pub went_on : (out after : List ℕ) (to next n : ℕ) (ns : List ℕ) (whole : Page) → page after next ≡ written (44 ∷ decimal n) (page out to)
    → written (further (n ∷ ns)) (page out to) ≡ whole → written (further ns) (page after next) ≡ whole
unfolding further
went_on out after to next n ns whole e so = ap (written (further ns)) e ∙ behind (44 ∷ decimal n) (further ns) (page out to) ∙ so

pub ended : (out : List ℕ) (to : ℕ) (whole : Page) → to ≤ length out → written (further []) (page out to) ≡ whole → page out to ≡ whole
unfolding further written
ended out to whole g so = let place : to ≡ min (length out) (to + 0) = omega arith in ap (λ (n : ℕ). page out n) place ∙ so

-- the place behind a text is on the page, or its end
pub within : (out after text : List ℕ) (at to : ℕ) → page after to ≡ written text (page out at) → length after ≡ length out → to ≤ length after
unfolding written
within out after text at to e same = let place : to ≡ min (length out) (at + length text) = ap (λ (p : Page). p.next) e in omega arith
