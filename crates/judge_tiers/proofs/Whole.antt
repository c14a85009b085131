-- The judging of the whole tier buffers is that of what they hold. Assumes nothing.
use mathlib.Core.Path.{◌≡◌, refl, sym, ap, ap₂, ◌∙◌}
use mathlib.Core.Bool.{Bool, true, not, ◌&&◌, ◌||◌}
use mathlib.Core.List.{List, [], ◌∷◌}
use Prim.Native.Nat.{ℕ, zero, suc, ◌+◌, ◌^◌, ◌≤◌, ◌<◌}
use lib.Dec.{eqb, leb, ltb}
use lib.ListN.{length, take}
use lib.Seq.{get_or-take, length-take-le, take-nil}
use borrow.Author.Tests.{leb-true}
use Rattle.laws.specs.Fold.{all_below, any_below}
use Rattle.laws.specs.Lists.{at, list_at, take_each}
use Rattle.laws.proofs.Folds.{all_same, any_same, all_at, and_left, and_right}
use Rattle.kinds.specs.Clauses.{end_at, deleted_at}
use Rattle.kinds.specs.Lent.{Lent, Host, lent}
use Rattle.kinds.specs.declared.State.{State}
use lib.Dec.{lit<}
use Rattle.kinds.specs.Layout.{view}
use Rattle.calls.specs.Size.{sized, tier_sized, tiers_sized}
use Rattle.calls.specs.StorePasses.{placed, clauses_ok, words_pass, stands_at, covered_at, covered, ref_at, inside_at, stale_ok, entry_ok, entries_ok, tier_ok, tiers_ok}
use Rattle.judge_words.proofs.Whole.{live_same, live_in_same, words_whole, WordsSized}
use Rattle.judge_tiers.specs.Marking.{tier_test, Ready}

-- clause lists a and l that agree in their first n entries, tier lists b and tl in their first m
module _ (w a l : List ℕ) (n : ℕ) (same : (i : ℕ) → i < n → at a i ≡ at l i) (b tl : List ℕ) (m : ℕ) (alike : (q : ℕ) → q < m → at b q ≡ at tl q) where
  stands_same : (o : ℕ) → any_below (stands_at b o) m ≡ any_below (stands_at tl o) m
  unfolding stands_at
  stands_same o = any_same (stands_at b o) (stands_at tl o) m (λ q h. ap (λ (z : ℕ). eqb z o) (alike q h))

  covered_same : (t : ℕ) → covered w a n t b m ≡ covered w l n t tl m
  unfolding covered covered_at
  covered_same t =
      all_same (covered_at w a t b m) (covered_at w l t tl m) n
      (λ i h. ap₂ (λ (x y : Bool). not x || y) (live_in_same w a l n same t i h) (stands_same (at a i) ∙ ap (λ (o : ℕ). any_below (stands_at tl o) m) (same i h)))

  refs_same : (e : ℕ) → any_below (ref_at w a e) n ≡ any_below (ref_at w l e) n
  unfolding ref_at
  refs_same e = any_same (ref_at w a e) (ref_at w l e) n (λ i h. ap₂ (λ (x : Bool) (z : ℕ). x && eqb z e) (live_same w a l n same i h) (same i h))

  inside_same : (x : ℕ) → any_below (inside_at w a x) n ≡ any_below (inside_at w l x) n
  unfolding inside_at
  inside_same x = any_same (inside_at w a x) (inside_at w l x) n (λ i h. ap₂ (λ (y : Bool) (z : ℕ). y && (leb z x && ltb x (end_at w z))) (live_same w a l n same i h) (same i h))

  entry_same : (used q : ℕ) → q < m → entry_ok w used a n b q ≡ entry_ok w used l n tl q
  unfolding entry_ok stale_ok
  entry_same used q h =
      ap (λ (e : ℕ). any_below (ref_at w a e) n || stale_ok w used a n e) (alike q h)
      ∙ ap₂ (λ (x y : Bool). x || (leb (at tl q + 3) used && (deleted_at w (at tl q) && not y))) (refs_same (at tl q)) (inside_same (at tl q + 1))

  entries_same : (used : ℕ) → entries_ok w used a n b m ≡ entries_ok w used l n tl m
  unfolding entries_ok
  entries_same used = all_same (entry_ok w used a n b) (entry_ok w used l n tl) m (entry_same used)

-- what one tier's test answers on used parts
abbrev pub tier_answer : List ℕ → ℕ → List ℕ → ℕ → List ℕ → Bool
tier_answer w used a t b = covered w a (length a) t b (length b) && entries_ok w used a (length a) b (length b)

pub tier_used : (w : List ℕ) (used : ℕ) (l : List ℕ) (n : ℕ) → n ≤ length l → (t : ℕ) (tl : List ℕ) (m : ℕ) → m ≤ length tl
    → tier_answer w used (take n l) t (take m tl) ≡ covered w l n t tl m && entries_ok w used l n tl m
tier_used w used l n h t tl m g =
    let same : (i : ℕ) → i < n → at (take n l) i ≡ at l i = λ i b. get_or-take n l i 0 b in
    let alike : (q : ℕ) → q < m → at (take m tl) q ≡ at tl q = λ q b. get_or-take m tl q 0 b in
    ap₂ (λ (x y : ℕ). covered w (take n l) x t (take m tl) y && entries_ok w used (take n l) x (take m tl) y) (length-take-le n l h) (length-take-le m tl g)
    ∙ ap₂ (λ (x y : Bool). x && y) (covered_same w (take n l) l n same (take m tl) tl m alike t) (entries_same w (take n l) l n same (take m tl) tl m alike used)

-- list t of what several buffers hold
pub take_each_lem : (ns : List ℕ) (ls : List (List ℕ)) (t : ℕ) → list_at (take_each ns ls) t ≡ take (at ns t) (list_at ls t)
unfolding take_each
take_each_lem [] ls t = refl
take_each_lem (n ∷ ns) [] t = sym (take-nil (at (n ∷ ns) t))
take_each_lem (n ∷ ns) (l ∷ ls) zero = refl
take_each_lem (n ∷ ns) (l ∷ ls) (suc t) = take_each_lem ns ls t

-- what refusal 1 has judged, as the `requires` of `tiers_pass` asks it
pub tiers_sized_lem : (k : Lent) → tiers_sized k ≡ true → (t : ℕ) → t < 4 → at k.state.tiers t ≤ length (list_at k.tiers t)
unfolding tiers_sized tier_sized sized
tiers_sized_lem k e t h = leb-true (at k.state.tiers t) (length (list_at k.tiers t)) (and_right (leb (length (list_at k.tiers t)) (2 ^ 22)) _ (all_at (tier_sized k) 4 e t h))

-- what `tiers_pass` answers on lent buffers is whether the tier lists pass
pub tiers_whole : (k : Lent) → k.state.clauses ≤ length k.clauses → ((t : ℕ) → t < 4 → at k.state.tiers t ≤ length (list_at k.tiers t))
    → tiers_ok (view k) ≡ all_below (tier_test k.words k.state.words k.clauses k.state.clauses k.tiers k.state.tiers) 4
unfolding tiers_ok tier_ok view tier_test
tiers_whole k h s =
    all_same (tier_ok (view k)) (tier_test k.words k.state.words k.clauses k.state.clauses k.tiers k.state.tiers) 4
    (λ t g. ap (tier_answer k.words k.state.words (take k.state.clauses k.clauses) t) (take_each_lem k.state.tiers k.tiers t) ∙ tier_used k.words k.state.words k.clauses k.state.clauses h t (list_at k.tiers t) (at k.state.tiers t) (s t g))

-- where the words and the clause list pass, `tiers_pass` may be asked
pub ready_of : (k : Lent) → WordsSized k → words_pass (view k) ≡ true → Ready k.words k.state.vars k.state.words k.clauses k.state.clauses
ready_of k s e =
    let w = k.words in
    let l = k.clauses in
    let n = k.state.clauses in
    let p = sym (words_whole k s.listed) ∙ e in
    record {
      room = s.used;
      listed = s.listed;
      lies = and_left (placed w k.state.words l n) _ p;
      good = and_left (clauses_ok w k.state.vars l n) _ (and_right (placed w k.state.words l n) _ p);
    }

-- the four lists' lengths, as the `requires` of `tiers_pass` asks them
pub lists_sized : (s : State) (words clauses irred core mid local rows counts rec : List ℕ) (host : Host) → tiers_sized (lent s words clauses irred core mid local rows counts rec host) ≡ true
    → (at s.tiers 0 ≤ length irred) × (at s.tiers 1 ≤ length core) × (at s.tiers 2 ≤ length mid) × (at s.tiers 3 ≤ length local)
lists_sized s words clauses irred core mid local rows counts rec host e =
    let f = tiers_sized_lem (lent s words clauses irred core mid local rows counts rec host) e in
    (f 0 (lit< tt), f 1 (lit< tt), f 2 (lit< tt), f 3 (lit< tt))
