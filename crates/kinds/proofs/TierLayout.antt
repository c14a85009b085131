-- Several lists in their buffers: one more entry of one of them. Assumes nothing.
use mathlib.Core.Path.{◌≡◌, refl, sym, ap, ap₂, ◌∙◌}
use mathlib.Core.List.{List, [], ◌∷◌}
use Prim.Native.Nat.{ℕ, zero, suc, ◌≤◌, ◌<◌}
use native.Mathlib.Omega.{arith}
use lib.ListN.{length, take, set}
use lib.Seq.{length-take-le}
use Rattle.laws.specs.Lists.{at, list_at, snoc, more, push, lengths, take_each, fill, fill_each}
use Rattle.laws.proofs.Fills.{fill_same, fill_push}
use Rattle.kinds.proofs.RowLayout.{lengths_push}

-- as many used lengths as lists, each within its buffer
abbrev pub Within : List ℕ → List (List ℕ) → Type 0
Within [] [] = Unit {0}
Within [] (b ∷ bs) = ⊥
Within (n ∷ ns) [] = ⊥
Within (n ∷ ns) (b ∷ bs) = (n ≤ length b) × Within ns bs

pub within_of : (ns : List ℕ) (bs : List (List ℕ)) → length ns ≡ length bs → ((t : ℕ) → t < length bs → at ns t ≤ length (list_at bs t)) → Within ns bs
within_of [] [] e h = tt
within_of [] (b ∷ bs) e h = absurd (omega arith)
within_of (n ∷ ns) [] e h = absurd (omega arith)
within_of (n ∷ ns) (b ∷ bs) e h = (h 0 (omega arith), within_of ns bs (omega arith) (λ t g. h (suc t) (omega arith)))

pub lengths_each : (ns : List ℕ) (bs : List (List ℕ)) → Within ns bs → lengths (take_each ns bs) ≡ ns
unfolding lengths take_each
lengths_each [] [] w = refl
lengths_each [] (b ∷ bs) w = absurd w
lengths_each (n ∷ ns) [] w = absurd w
lengths_each (n ∷ ns) (b ∷ bs) (h, w) = ap₂ (λ (x : ℕ) (y : List ℕ). x ∷ y) (length-take-le n b h) (lengths_each ns bs w)

pub each_same : (ns : List ℕ) (bs : List (List ℕ)) → Within ns bs → fill_each bs ns (take_each ns bs) ≡ bs
unfolding fill_each take_each
each_same [] [] w = refl
each_same [] (b ∷ bs) w = absurd w
each_same (n ∷ ns) [] w = absurd w
each_same (n ∷ ns) (b ∷ bs) (h, w) = ap₂ (λ (x : List ℕ) (y : List (List ℕ)). x ∷ y) (fill_same b n h) (each_same ns bs w)

pub each_push : (ns : List ℕ) (bs : List (List ℕ)) (t x : ℕ) → Within ns bs → t < length bs → at ns t < length (list_at bs t)
    → set bs t (set (list_at bs t) (at ns t) x) ≡ fill_each bs ns (push t x (take_each ns bs))
unfolding fill_each take_each
each_push [] [] t x w h g = absurd (omega arith)
each_push [] (b ∷ bs) t x w h g = absurd w
each_push (n ∷ ns) [] t x w h g = absurd w
each_push (n ∷ ns) (b ∷ bs) zero x (k, w) h g = ap₂ (λ (y : List ℕ) (z : List (List ℕ)). y ∷ z) (sym (fill_push b n x g)) (sym (each_same ns bs w))
each_push (n ∷ ns) (b ∷ bs) (suc t) x (k, w) h g = ap₂ (λ (y : List ℕ) (z : List (List ℕ)). y ∷ z) (sym (fill_same b n k)) (each_push ns bs t x w (omega arith) g)

pub lengths_each_push : (ns : List ℕ) (bs : List (List ℕ)) (t x : ℕ) → Within ns bs → more t ns ≡ lengths (push t x (take_each ns bs))
lengths_each_push ns bs t x w = sym (lengths_push (take_each ns bs) t x ∙ ap (more t) (lengths_each ns bs w))
