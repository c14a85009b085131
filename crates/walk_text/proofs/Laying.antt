-- Text laid on a page, byte by byte and piece by piece. Assumes nothing.
use mathlib.Core.Path.{◌≡◌, refl, sym, ap, ap₂, ◌∙◌}
use mathlib.Core.List.{List, [], ◌∷◌, ◌++◌}
use Prim.Native.Nat.{ℕ, suc, ◌+◌, ◌≤◌, ◌<◌, min}
use native.Mathlib.Decide.{dec_lt}
use native.Mathlib.Omega.{arith}
use native.Mathlib.Numerals.{add-one}
use native.Mathlib.Nat.{min-eq_right}
use lib.ListN.{length, get_or, set, drop, length-set, length-append, drop_of_length-le}
use lib.Seq.{sets, set_out, length-sets, drop-cons}
use Rattle.walk_text.specs.Page.{Page, page, written}

-- nothing is written past the end
sets_past : (vs l : List ℕ) (i : ℕ) → length l ≤ i → sets l i vs ≡ l
sets_past [] l i h = refl
sets_past (v ∷ vs) l i h = rw (set_out l i v h) (sets_past vs l (suc i) (omega arith))

-- one text behind another
sets_append : (us vs l : List ℕ) (i : ℕ) → sets (sets l i us) (i + length us) vs ≡ sets l i (us ++ vs)
sets_append [] vs l i = let e : i + 0 ≡ i = omega arith in rw e
sets_append (u ∷ us) vs l i = let e : i + suc (length us) ≡ suc i + length us = omega arith in rw e (sets_append us vs (set l i u) (suc i))

-- a place past the end is as good as the end
sets_cut : (vs l : List ℕ) (n i : ℕ) → n ≡ length l → sets l (min n i) vs ≡ sets l i vs
sets_cut vs l n i e = go (dec_lt i n)
  where
    go : Dec (i < n) → sets l (min n i) vs ≡ sets l i vs
    go (yes h) = ap (λ (k : ℕ). sets l k vs) (min-eq_right {n = i} {m = n} (omega arith))
    go (no h) = sets_past vs l (min n i) (omega arith) ∙ sym (sets_past vs l i (omega arith))

-- no room for the rest of a text
pub full : (out rest : List ℕ) (to : ℕ) → length out ≤ to → to ≤ length out → written rest (page out to) ≡ page out to
unfolding written
full out rest to h g = ap₂ (λ (b : List ℕ) (n : ℕ). page b n) (sets_past rest out to h) (omega arith)

-- nor for a text from a place past the end
pub past_end : (out text : List ℕ) (at : ℕ) → length out ≤ at → page out (length out) ≡ written text (page out at)
unfolding written
past_end out text at h = ap₂ (λ (b : List ℕ) (n : ℕ). page b n) (sym (sets_past text out at h)) (omega arith)

-- no rest of a text
pub ended : (out text : List ℕ) (i to : ℕ) → length text ≤ i → to ≤ length out → written (drop i text) (page out to) ≡ page out to
unfolding written
ended out text i to h g =
    let none : drop i text ≡ [] = drop_of_length-le text {i = i} h in
    let place : min (length out) (to + 0) ≡ to = omega arith in
    rw none (ap (λ (n : ℕ). page out n) place)

-- one byte of a text
pub turn : (out text : List ℕ) (i to : ℕ) → i < length text → written (drop i text) (page out to) ≡ written (drop (i + 1) text) (page (set out to (get_or text i 0)) (to + 1))
unfolding written
turn out text i to h =
    let place : to + suc (length (drop (suc i) text)) ≡ suc to + length (drop (suc i) text) = omega arith in
    rw (drop-cons text i 0 h, add-one, add-one, length-set out to (get_or text i 0), place)

pub fits : (out : List ℕ) (to x : ℕ) → to < length out → to + 1 ≤ length (set out to x)
fits out to x h = rw (length-set out to x) (omega arith)

-- a text behind a text
pub behind : (us vs : List ℕ) (p : Page) → written vs (written us p) ≡ written (us ++ vs) p
unfolding written
behind us vs p =
    let n = length p.bytes in
    let same = length-sets p.bytes p.next us in
    let both = length-append us vs in
    let place : min (length (sets p.bytes p.next us)) (min n (p.next + length us) + length vs) ≡ min n (p.next + length (us ++ vs)) = omega (arith, same, both) in
    let bytes : sets (sets p.bytes p.next us) (min n (p.next + length us)) vs ≡ sets p.bytes p.next (us ++ vs)
    = sets_cut vs (sets p.bytes p.next us) n (p.next + length us) (sym same) ∙ sets_append us vs p.bytes p.next in
    ap₂ (λ (b : List ℕ) (n : ℕ). page b n) bytes place
