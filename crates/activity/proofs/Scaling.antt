-- Rescaling: one listed activity at a time, and the activities that may be rescaled. Assumes nothing.
use mathlib.Core.Path.{◌≡◌, refl, sym, subst}
use mathlib.Core.List.{List, [], ◌∷◌}
use mathlib.Core.Bool.{Bool, true, false, cond}
use Prim.Native.Nat.{ℕ, zero, suc, ◌+◌, ◌≤◌, ◌<◌, suc-le-suc}
use native.Mathlib.Nat.{le_trans, not-suc-le-zero, zero-lt-suc, le_of_suc-le-suc}
use native.Mathlib.Numerals.{add-one}
use native.Mathlib.Omega.{arith}
use lib.Dec.{lit≤}
use lib.ListN.{length, set, take, drop, length-set}
use lib.Seq.{drop-cons, get_or-take, length-take-le, get_or-set_other}
use Rattle.laws.specs.Fold.{fold_list}
use Rattle.laws.specs.Lists.{at}
use Rattle.kinds.specs.Clauses.{deleted_at, head_at, undeleted}
use Rattle.kinds.specs.Floats.{scaled, limit_bits}
use Rattle.kinds.proofs.FloatRanges.{under_set}
use Rattle.calls.specs.Bumping.{scaled_at}
use Rattle.activity.specs.Stored.{Bounded, twice_limit, AllLoud, Away}

-- one turn takes one entry off the list
pub one_turn : (ws list : List ℕ) (i : ℕ) → i < length list → fold_list scaled_at ws (drop i list) ≡ fold_list scaled_at (set ws (at list i) (scaled (at ws (at list i)))) (drop (i + 1) list)
unfolding fold_list scaled_at
one_turn ws list i h = rw (add-one, drop-cons list i 0 h)

-- what holds of the entries that are not deleted holds of those that stay
pub each_undeleted : (ws : List ℕ) (P : ℕ → Type 0) (l : List ℕ) → ((k : ℕ) → k < length l → deleted_at ws (at l k) ≡ false → P (at l k)) → (k : ℕ) → k < length (undeleted ws l) → P (at (undeleted ws l) k)
unfolding undeleted
each_undeleted ws P [] h k g = absurd (not-suc-le-zero g)
each_undeleted ws P (o ∷ os) h k g = go (deleted_at ws o) refl (each_undeleted ws P os (λ j f. h (suc j) (suc-le-suc f))) k g
  where
    go : (d : Bool) → deleted_at ws o ≡ d → ((k : ℕ) → k < length (undeleted ws os) → P (at (undeleted ws os) k))
        → (k : ℕ) → k < length (cond d (undeleted ws os) (o ∷ undeleted ws os)) → P (at (cond d (undeleted ws os) (o ∷ undeleted ws os)) k)
    go true e f k g = f k g
    go false e f zero g = h zero (zero-lt-suc (length os)) e
    go false e f (suc k) g = f k (le_of_suc-le-suc g)

-- the live clauses may be rescaled
pub live_loud : (ws clauses : List ℕ) (n : ℕ) → Bounded twice_limit ws clauses n → AllLoud ws (undeleted ws (take n clauses))
live_loud ws clauses n b =
    let len = length-take-le n clauses b.placed.within in
    each_undeleted ws (λ (o : ℕ). (o < length ws) × (at ws o ≤ twice_limit)) (take n clauses)
    (λ k h d.
    let l : k < n = omega arith in
    let e = get_or-take n clauses k 0 l in
    subst (λ (o : ℕ). (o < length ws) × (at ws o ≤ twice_limit)) (sym e) (let t = b.placed.there k l in omega arith, b.bound k l (subst (λ (o : ℕ). deleted_at ws o ≡ false) e d)))

-- a larger bound
pub looser : (ws clauses : List ℕ) (n : ℕ) → Bounded limit_bits ws clauses n → Bounded twice_limit ws clauses n
looser ws clauses n b = record { placed = b.placed; bound = λ k l d. le_trans (b.bound k l d) (lit≤ tt) }

-- one activity raised, by a sum that is twice the limit at most
pub raised_bounded : (ws clauses : List ℕ) (n o v : ℕ) → v ≤ twice_limit → Away clauses n o → Bounded limit_bits ws clauses n → Bounded twice_limit (set ws o v) clauses n
raised_bounded ws clauses n o v h away b =
    let len = length-set ws o v in
    record {
      placed = record { within = b.placed.within; there = λ k l. let t = b.placed.there k l in omega arith };
      bound = λ k l d.
          let t = b.placed.there k l in
          let same : head_at (set ws o v) (at clauses k) ≡ head_at ws (at clauses k) = get_or-set_other ws o (at clauses k + 1) v 0 (away k l) in
          (under_set twice_limit ws o (at clauses k) v h (omega arith, le_trans (b.bound k l (rw same at d)) (lit≤ tt))).1;
    }
