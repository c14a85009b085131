-- The judging of the whole buffers is that of what they hold. Assumes nothing.
use mathlib.Core.Path.{◌≡◌, sym, ap, ap₂, ◌∙◌}
use mathlib.Core.Bool.{Bool, true, not, ◌&&◌, ◌||◌}
use mathlib.Core.List.{List}
use Prim.Native.Nat.{ℕ, ◌+◌, ◌*◌, ◌^◌, ◌≤◌, ◌<◌}
use native.Mathlib.Omega.{arith}
use native.Mathlib.Decide.{dec_lt}
use lib.Dec.{eqb, leb}
use lib.ListN.{length, take}
use lib.Seq.{get_or-take, length-take-le}
use borrow.Author.Tests.{le-leb, leb-true}
use Rattle.laws.specs.Fold.{one}
use Rattle.laws.specs.Lists.{at}
use Rattle.laws.proofs.Folds.{all_same, and_left, and_right, or_left}
use Rattle.laws.proofs.Sums.{sum_same, count_same}
use Rattle.kinds.specs.Clauses.{end_at, size_at, tier_at, deleted_at}
use Rattle.kinds.specs.Lent.{Lent}
use Rattle.kinds.specs.Layout.{view}
use Rattle.calls.specs.Size.{sized, words_sized}
use Rattle.calls.specs.StorePasses.{placed_at, placed, live_at, clause_ok, clause_ok_at, clauses_ok, live_in, count_ok, counts_ok, live_size, garbage_ok, words_pass}

-- lists a and l that agree in their first n entries
module _ (w a l : List ℕ) (n : ℕ) (same : (i : ℕ) → i < n → at a i ≡ at l i) where
  pub live_same : (i : ℕ) → i < n → live_at w a i ≡ live_at w l i
  unfolding live_at
  live_same i h = ap (λ (z : ℕ). not (deleted_at w z)) (same i h)

  pub live_in_same : (t i : ℕ) → i < n → live_in w a t i ≡ live_in w l t i
  unfolding live_in
  live_in_same t i h = ap₂ (λ (b : Bool) (z : ℕ). b && eqb (tier_at w z) t) (live_same i h) (same i h)

  pub placed_same : (used : ℕ) → placed w used a n ≡ placed w used l n
  unfolding placed placed_at
  placed_same used = all_same (placed_at w used a n) (placed_at w used l n) n (λ i h. go i h (dec_lt (i + 1) n))
    where
      go : (i : ℕ) → i < n → Dec (i + 1 < n) → placed_at w used a n i ≡ placed_at w used l n i
      go i h (yes q) = ap₂ (λ (x y : ℕ). leb (end_at w x) used && (leb n (i + 1) || leb (end_at w x) y)) (same i h) (same (i + 1) q)
      go i h (no q) =
          ap₂ (λ (x : ℕ) (b : Bool). leb (end_at w x) used && b) (same i h)
          (or_left (leb n (i + 1)) _ (le-leb n (i + 1) (omega arith)) ∙ sym (or_left (leb n (i + 1)) _ (le-leb n (i + 1) (omega arith))))

  pub clauses_same : (v : ℕ) → clauses_ok w v a n ≡ clauses_ok w v l n
  unfolding clauses_ok clause_ok_at
  clauses_same v = all_same (clause_ok_at w v a) (clause_ok_at w v l) n (λ i h. ap₂ (λ (b : Bool) (z : ℕ). not b || clause_ok w v z) (live_same i h) (same i h))

  pub counts_same : (counts : List ℕ) → counts_ok w a n counts ≡ counts_ok w l n counts
  unfolding counts_ok count_ok
  counts_same counts = all_same (count_ok w a n counts) (count_ok w l n counts) 4 (λ t h. ap (eqb (at counts t)) (count_same (live_in w a t) (live_in w l t) n (live_in_same t)))

  pub garbage_same : (used g : ℕ) → garbage_ok w used a n g ≡ garbage_ok w used l n g
  unfolding garbage_ok live_size
  garbage_same used g = ap (λ (z : ℕ). leb (g + z) used) (sum_same (live_size w a) (live_size w l) n (λ i h. ap₂ (λ (b : Bool) (z : ℕ). one b * size_at w z) (live_same i h) (same i h)))

-- the test on a whole clause buffer l, of which n entries are used
abbrev pub words_test_lem : List ℕ → ℕ → ℕ → List ℕ → ℕ → List ℕ → ℕ → Bool
words_test_lem w v used l n counts g = placed w used l n && (clauses_ok w v l n && (counts_ok w l n counts && garbage_ok w used l n g))

-- l as its used part
module _ (w l : List ℕ) (n : ℕ) (h : n ≤ length l) where
  used_same : (i : ℕ) → i < n → at (take n l) i ≡ at l i
  used_same i b = get_or-take n l i 0 b

  pub placed_used : (used : ℕ) → placed w used (take n l) (length (take n l)) ≡ placed w used l n
  placed_used used = ap (placed w used (take n l)) (length-take-le n l h) ∙ placed_same w (take n l) l n used_same used

  pub clauses_used : (v : ℕ) → clauses_ok w v (take n l) (length (take n l)) ≡ clauses_ok w v l n
  clauses_used v = ap (clauses_ok w v (take n l)) (length-take-le n l h) ∙ clauses_same w (take n l) l n used_same v

  pub counts_used : (counts : List ℕ) → counts_ok w (take n l) (length (take n l)) counts ≡ counts_ok w l n counts
  counts_used counts = ap (λ (m : ℕ). counts_ok w (take n l) m counts) (length-take-le n l h) ∙ counts_same w (take n l) l n used_same counts

  pub garbage_used : (used g : ℕ) → garbage_ok w used (take n l) (length (take n l)) g ≡ garbage_ok w used l n g
  garbage_used used g = ap (λ (m : ℕ). garbage_ok w used (take n l) m g) (length-take-le n l h) ∙ garbage_same w (take n l) l n used_same used g

-- what `words_pass` answers on lent buffers is whether the words and the clause list pass
pub words_whole : (k : Lent) → k.state.clauses ≤ length k.clauses
    → words_pass (view k) ≡ words_test_lem k.words k.state.vars k.state.words k.clauses k.state.clauses k.state.counts k.state.garbage
unfolding words_pass view
words_whole k h =
    let w = k.words in
    let l = k.clauses in
    let n = k.state.clauses in
    ap₂ (λ (x y : Bool). x && y) (placed_used w l n h k.state.words)
    (ap₂ (λ (x y : Bool). x && y) (clauses_used w l n h k.state.vars) (ap₂ (λ (x y : Bool). x && y) (counts_used w l n h k.state.counts) (garbage_used w l n h k.state.words k.state.garbage)))

-- what refusal 1 has judged, as the `requires` of `words_pass` asks it
pub record WordsSized (k : Lent) : Type 0 where
  pub used : k.state.words ≤ length k.words
  pub most : length k.words ≤ 2 ^ 24
  pub listed : k.state.clauses ≤ length k.clauses
  pub entries : length k.clauses ≤ 2 ^ 22

pub words_sized_lem : (k : Lent) → words_sized k ≡ true → WordsSized k
unfolding words_sized sized
words_sized_lem k e =
    let a = and_left (sized (2 ^ 24) k.state.words k.words) _ e in
    let b = and_right (sized (2 ^ 24) k.state.words k.words) _ e in
    record {
      used = leb-true k.state.words (length k.words) (and_right (leb (length k.words) (2 ^ 24)) _ a);
      most = leb-true (length k.words) (2 ^ 24) (and_left _ _ a);
      listed = leb-true k.state.clauses (length k.clauses) (and_right (leb (length k.clauses) (2 ^ 22)) _ b);
      entries = leb-true (length k.clauses) (2 ^ 22) (and_left _ _ b);
    }
