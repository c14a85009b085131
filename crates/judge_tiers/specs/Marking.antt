-- The judging of the tier lists: what a tier's test is on lent buffers, and the marks that decide it.
use Rattle.std.specs.Prelude.{◌≡◌, Bool, true, false, not, ◌&&◌, ◌||◌, cond, List, ℕ, ◌+◌, ◌≤◌, ◌<◌, length, eqb}
use Rattle.laws.specs.Fold.{any_below, fold_below}
use Rattle.laws.specs.Lists.{at, list_at}
use Rattle.kinds.specs.Header.{mark_of, with_mark}
use Rattle.kinds.specs.Clauses.{head_at, change_head}
use Rattle.calls.specs.StorePasses.{placed, clauses_ok, live_at, live_in, ref_at, covered, entries_ok}

-- the two sentences on tier t: of the four lists the first numbers are used
unfoldable pub tier_test : List ℕ → ℕ → List ℕ → ℕ → List (List ℕ) → List ℕ → ℕ → Bool
tier_test w used l n lists lens t = covered w l n t (list_at lists t) (at lens t) && entries_ok w used l n (list_at lists t) (at lens t)

-- what refusal 1 and the judging of the words (`words_pass`) have established
pub record Ready (w : List ℕ) (v used : ℕ) (l : List ℕ) (n : ℕ) : Type 0 where
  pub room : used ≤ length w
  pub listed : n ≤ length l
  pub lies : placed w used l n ≡ true
  pub good : clauses_ok w v l n ≡ true

-- word 1 of each of the first n clauses is in a buffer of len words
pub record Inside (l : List ℕ) (n len : ℕ) : Type 0 where
  pub inside : (i : ℕ) → i < n → at l i + 1 < len

-- the live clauses among the first n are not marked
unfoldable pub Bare : List ℕ → List ℕ → ℕ → Type 0
Bare w l n = (i : ℕ) → i < n → live_at w l i ≡ true → mark_of (head_at w (at l i)) ≡ 0

-- the same for a clause list that is its used part, as far as a tier's test needs it
pub record Prepared (w : List ℕ) (used : ℕ) (l : List ℕ) : Type 0 where
  pub room : used ≤ length w
  pub lies : placed w used l (length l) ≡ true
  pub bare : Bare w l (length l)

-- ---- marking

-- the words with the mark set on the clause at e, if that is a live clause's reference
unfoldable pub mark_at : List ℕ → ℕ → List ℕ → ℕ → List ℕ
mark_at l n v e = cond (any_below (ref_at v l e) n) (change_head (with_mark true) e v) v

unfoldable pub mark_entry : List ℕ → ℕ → List ℕ → List ℕ → ℕ → List ℕ
mark_entry l n tl v q = mark_at l n v (at tl q)

unfoldable pub marks : List ℕ → ℕ → List ℕ → List ℕ → ℕ → List ℕ
marks l n tl v m = fold_below (mark_entry l n tl) v m

-- clause i, if it is live and of tier t, is marked
unfoldable pub marked_at : List ℕ → List ℕ → ℕ → ℕ → Bool
marked_at w l t i = not (live_in w l t i) || eqb (mark_of (head_at w (at l i))) 1

-- clause i's mark cleared, if it is live
unfoldable pub clear_at : List ℕ → List ℕ → ℕ → List ℕ
clear_at l v i = cond (live_at v l i) (change_head (with_mark false) (at l i) v) v

unfoldable pub clears : List ℕ → List ℕ → ℕ → List ℕ
clears l v n = fold_below (clear_at l) v n
