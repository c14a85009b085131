-- The record read back: whole lines one behind the other are read as those lines. Assumes nothing.
use mathlib.Core.Path.{◌≡◌, refl, ap, ap₂, ◌∙◌}
use mathlib.Core.Bool.{Bool, true, false, cond}
use mathlib.Core.List.{List, [], ◌∷◌, ◌++◌, append_assoc, append-nil}
use Prim.Native.Nat.{ℕ, zero, suc, ◌+◌, ◌≤◌}
use native.Mathlib.Omega.{arith}
use lib.ListN.{length, length-append}
use lib.Seq.{take-append_seam, drop-append_seam}
use Rattle.kinds.specs.Clauses.{Clause}
use Rattle.kinds.specs.Lines.{Line, line, flat, lines_in, lines, told, of_kind, line_words}
use Rattle.account.specs.Weights.{entered, struck_in}
use Rattle.account.proofs.Chains.{total_append}

pub flat_append : (ls ms : List Line) → flat (ls ++ ms) ≡ flat ls ++ flat ms
unfolding flat
flat_append [] ms = refl
flat_append (l ∷ ls) ms = rw (flat_append ls ms, append_assoc)

pub flat_one : (l : Line) → flat (l ∷ []) ≡ line_words l
unfolding flat
flat_one l = simp append-nil

lines_in_flat : (f : ℕ) (ls : List Line) → length (flat ls) ≤ f → lines_in f (flat ls) ≡ ls
unfolding flat lines_in
lines_in_flat zero [] h = refl
lines_in_flat (suc f) [] h = refl
lines_in_flat zero (l ∷ ls) h = absurd (omega arith)
lines_in_flat (suc f) (l ∷ ls) h =
    let k = length-append l.lits (flat ls) in
    ap₂ (λ (c : List ℕ) (ms : List Line). line l.kind c ∷ ms) (take-append_seam l.lits (flat ls)) (ap (lines_in f) (drop-append_seam l.lits (flat ls)) ∙ lines_in_flat f ls (omega arith))

lines_flat : (ls : List Line) → lines (flat ls) ≡ ls
unfolding lines
lines_flat ls = lines_in_flat (length (flat ls)) ls (omega arith)

-- what was emptied, with what stands now
pub lines_whole : (a b : List ℕ) (ls ms : List Line) → a ≡ flat ls → b ≡ flat ms → lines (a ++ b) ≡ ls ++ ms
lines_whole a b ls ms p q = rw (p, q, ← flat_append, lines_flat)

of_kind_append : (p : ℕ → Bool) (ls ms : List Line) → of_kind p (ls ++ ms) ≡ of_kind p ls ++ of_kind p ms
unfolding of_kind
of_kind_append p [] ms = refl
of_kind_append p (l ∷ ls) ms = rw (of_kind_append p ls ms) (go (p l.kind) (of_kind p ls))
  where
    go : (b : Bool) (cs : List Clause) → cond b (told l ∷ (cs ++ of_kind p ms)) (cs ++ of_kind p ms) ≡ cond b (told l ∷ cs) cs ++ of_kind p ms
    go true cs = refl
    go false cs = refl

module _ (w : Clause → ℕ) where
  pub entered_append : (ls ms : List Line) → entered w (ls ++ ms) ≡ entered w ls + entered w ms
  entered_append ls ms = rw (of_kind_append, total_append)

  pub struck_append : (ls ms : List Line) → struck_in w (ls ++ ms) ≡ struck_in w ls + struck_in w ms
  struck_append ls ms = rw (of_kind_append, total_append)
