-- The four tier lists, of which the lists of Mid and Local may change. Assumes nothing.
use mathlib.Core.Path.{◌≡◌, refl, sym, ap, ◌∙◌}
use mathlib.Core.List.{List, [], ◌∷◌, ◌++◌}
use Prim.Native.Nat.{ℕ, zero, suc, ◌-◌, ◌≤◌, ◌<◌, max}
use native.Mathlib.Omega.{arith}
use lib.ListN.{length, set, take, drop, replicate, take-append-drop}
use lib.Seq.{sets, length-take-le}
use Rattle.laws.specs.Lists.{at, list_at, lengths, take_each, fill, fill_each}
use Rattle.laws.proofs.Fills.{fill_more, fill_same, fill_cut}
use Rattle.kinds.proofs.TierLayout.{Within}

-- tier lists of four, by number
pub four_lists : (ts : List (List ℕ)) → length ts ≡ 4 → ts ≡ list_at ts 0 ∷ list_at ts 1 ∷ list_at ts 2 ∷ list_at ts 3 ∷ []
four_lists [] e = absurd (omega arith)
four_lists (a ∷ []) e = absurd (omega arith)
four_lists (a ∷ b ∷ []) e = absurd (omega arith)
four_lists (a ∷ b ∷ c ∷ []) e = absurd (omega arith)
four_lists (a ∷ b ∷ c ∷ d ∷ []) e = refl
four_lists (a ∷ b ∷ c ∷ d ∷ f ∷ ts) e = absurd (omega arith)

-- the used part of a list
pub used_part : (ns : List ℕ) (bs : List (List ℕ)) → Within ns bs → (t : ℕ) → t < length bs → list_at (take_each ns bs) t ≡ take (at ns t) (list_at bs t)
unfolding take_each
used_part [] [] w t h = absurd (omega arith)
used_part [] (b ∷ bs) w t h = absurd w
used_part (n ∷ ns) [] w t h = absurd w
used_part (n ∷ ns) (b ∷ bs) (g, w) zero h = refl
used_part (n ∷ ns) (b ∷ bs) (g, w) (suc t) h = used_part ns bs w t (omega arith)

-- what the buffers become: the lists of Mid and Local hold m and l
pub four_fills : (ns : List ℕ) (irred core mid local m l : List ℕ) → Within ns (irred ∷ core ∷ mid ∷ local ∷ [])
    → irred ∷ core ∷ fill mid (at ns 2) m ∷ fill local (at ns 3) l ∷ []
    ≡ fill_each (irred ∷ core ∷ mid ∷ local ∷ []) ns (list_at (take_each ns (irred ∷ core ∷ mid ∷ local ∷ [])) 0 ∷ list_at (take_each ns (irred ∷ core ∷ mid ∷ local ∷ [])) 1 ∷ m ∷ l ∷ [])
unfolding fill_each take_each
four_fills [] irred core mid local m l w = absurd w
four_fills (a ∷ []) irred core mid local m l w = absurd w.1
four_fills (a ∷ b ∷ []) irred core mid local m l w = absurd w.1.1
four_fills (a ∷ b ∷ c ∷ []) irred core mid local m l w = absurd w.1.1.1
four_fills (a ∷ b ∷ c ∷ d ∷ []) irred core mid local m l w = λ i. sym (fill_same irred a w.0) i ∷ sym (fill_same core b w.1.0) i ∷ fill mid c m ∷ fill local d l ∷ []
four_fills (a ∷ b ∷ c ∷ d ∷ e ∷ ns) irred core mid local m l w = absurd w.1.1.1.1

pub four_lengths : (ns : List ℕ) (irred core mid local m l : List ℕ) → Within ns (irred ∷ core ∷ mid ∷ local ∷ [])
    → set (set ns 2 (length m)) 3 (length l)
    ≡ lengths (list_at (take_each ns (irred ∷ core ∷ mid ∷ local ∷ [])) 0 ∷ list_at (take_each ns (irred ∷ core ∷ mid ∷ local ∷ [])) 1 ∷ m ∷ l ∷ [])
unfolding lengths take_each
four_lengths [] irred core mid local m l w = absurd w
four_lengths (a ∷ []) irred core mid local m l w = absurd w.1
four_lengths (a ∷ b ∷ []) irred core mid local m l w = absurd w.1.1
four_lengths (a ∷ b ∷ c ∷ []) irred core mid local m l w = absurd w.1.1.1
four_lengths (a ∷ b ∷ c ∷ d ∷ []) irred core mid local m l w = λ i. sym (length-take-le a irred w.0) i ∷ sym (length-take-le b core w.1.0) i ∷ length m ∷ length l ∷ []
four_lengths (a ∷ b ∷ c ∷ d ∷ e ∷ ns) irred core mid local m l w = absurd w.1.1.1.1

-- ---- a list cut to its first k, in a buffer that was changed in its used part only
pub fill_kept : (buf now : List ℕ) (n k : ℕ) → k ≤ n → n ≤ length now → drop n now ≡ drop n buf → sets now k (replicate (n - k) 0) ≡ fill buf n (take k now)
unfolding fill
fill_kept buf now n k h g e =
    let t : length (take k now) ≡ k = length-take-le k now (omega arith) in
    let m : max n (length (take k now)) ≡ n = omega arith in
    sym (fill_cut now n k h g) ∙ ap (λ (l : List ℕ). take k now ++ (replicate (n - length (take k now)) 0 ++ l)) (ap (λ (x : ℕ). drop x now) m ∙ e ∙ sym (ap (λ (x : ℕ). drop x buf) m))

-- a list that grew to k entries, with the rest of the buffer as it was
pub fill_grown : (buf now : List ℕ) (n k : ℕ) → n ≤ k → k ≤ length now → drop k now ≡ drop k buf → now ≡ fill buf n (take k now)
fill_grown buf now n k h g e =
    let t : length (take k now) ≡ k = length-take-le k now g in
    sym (fill_more buf n (take k now) (omega arith) ∙ ap (λ (x : ℕ). take k now ++ drop x buf) t ∙ ap (λ (l : List ℕ). take k now ++ l) (sym e) ∙ take-append-drop k now)

-- the same where the list of Local alone changes
pub local_fills : (ns : List ℕ) (irred core mid local l : List ℕ) → Within ns (irred ∷ core ∷ mid ∷ local ∷ [])
    → irred ∷ core ∷ mid ∷ fill local (at ns 3) l ∷ []
    ≡ fill_each (irred ∷ core ∷ mid ∷ local ∷ []) ns (list_at (take_each ns (irred ∷ core ∷ mid ∷ local ∷ [])) 0 ∷ list_at (take_each ns (irred ∷ core ∷ mid ∷ local ∷ [])) 1 ∷ list_at (take_each ns (irred ∷ core ∷ mid ∷ local ∷ [])) 2 ∷ l ∷ [])
unfolding take_each
local_fills [] irred core mid local l w = absurd w
local_fills (a ∷ []) irred core mid local l w = absurd w.1
local_fills (a ∷ b ∷ []) irred core mid local l w = absurd w.1.1
local_fills (a ∷ b ∷ c ∷ []) irred core mid local l w = absurd w.1.1.1
local_fills (a ∷ b ∷ c ∷ d ∷ []) irred core mid local l w = ap (λ (x : List ℕ). irred ∷ core ∷ x ∷ fill local d l ∷ []) (sym (fill_same mid c w.1.1.0)) ∙ four_fills (a ∷ b ∷ c ∷ d ∷ []) irred core mid local (take c mid) l w
local_fills (a ∷ b ∷ c ∷ d ∷ e ∷ ns) irred core mid local l w = absurd w.1.1.1.1

pub local_lengths : (ns : List ℕ) (irred core mid local l : List ℕ) → Within ns (irred ∷ core ∷ mid ∷ local ∷ [])
    → set ns 3 (length l)
    ≡ lengths (list_at (take_each ns (irred ∷ core ∷ mid ∷ local ∷ [])) 0 ∷ list_at (take_each ns (irred ∷ core ∷ mid ∷ local ∷ [])) 1 ∷ list_at (take_each ns (irred ∷ core ∷ mid ∷ local ∷ [])) 2 ∷ l ∷ [])
unfolding lengths take_each
local_lengths [] irred core mid local l w = absurd w
local_lengths (a ∷ []) irred core mid local l w = absurd w.1
local_lengths (a ∷ b ∷ []) irred core mid local l w = absurd w.1.1
local_lengths (a ∷ b ∷ c ∷ []) irred core mid local l w = absurd w.1.1.1
local_lengths (a ∷ b ∷ c ∷ d ∷ []) irred core mid local l w = λ i. sym (length-take-le a irred w.0) i ∷ sym (length-take-le b core w.1.0) i ∷ sym (length-take-le c mid w.1.1.0) i ∷ length l ∷ []
local_lengths (a ∷ b ∷ c ∷ d ∷ e ∷ ns) irred core mid local l w = absurd w.1.1.1.1
