-- "Each field's reading and writing; setting one leaves the others": one theorem over the table of fields. Assumes nothing.
use mathlib.Core.Path.{◌≡◌, refl}
use mathlib.Core.Bool.{true}
use Prim.Native.Nat.{ℕ, suc, ◌^◌, ◌≤◌, ◌<◌}
use native.Mathlib.Omega.{arith}
use native.Mathlib.Decide.{dec_le}
use borrow.Author.Tests.{leb-true}
use Rattle.laws.specs.Fold.{all_below}
use Rattle.laws.proofs.Folds.{and_left, and_right, all_at}
use Rattle.kinds.specs.Header.{field, put}
use Rattle.header.specs.Fields.{start, width, ends_by, clear_of}
use Rattle.header.proofs.Laws.{put_same, put_above, put_below}

whole_table : all_below clear_of 6 ≡ true
unfolding all_below clear_of ends_by
whole_table = refl

-- field i ends by the start of a later one
in_order : (i j : ℕ) → i < j → j < 6 → start (suc i) ≤ start j
unfolding clear_of ends_by
in_order i j h g = leb-true (start (suc i)) (start j) (all_at (ends_by j) j (and_left _ _ (all_at clear_of 6 whole_table j g)) i h)

to_its_end : (i : ℕ) → i < 6 → start i ≤ start (suc i)
unfolding clear_of
to_its_end i h = leb-true (start i) (start (suc i)) (and_right (all_below (ends_by i) i) _ (all_at clear_of 6 whole_table i h))

-- what is written is read
pub set_then_read : (i v w : ℕ) → v < 2 ^ width i → field (start i) (width i) (put (start i) (width i) v w) ≡ v
set_then_read i v w h = put_same (start i) (width i) v w h

-- and every other field is as it was
pub setting_leaves : (i j v w : ℕ) → i < 6 → j < 6 → (i ≡ j → ⊥) → v < 2 ^ width i → field (start j) (width j) (put (start i) (width i) v w) ≡ field (start j) (width j) w
setting_leaves i j v w hi hj n h = go (dec_le j i)
  where
    go : Dec (j ≤ i) → field (start j) (width j) (put (start i) (width i) v w) ≡ field (start j) (width j) w
    go (yes q) =
        let e = in_order j i (omega arith) (omega arith) in
        let d = to_its_end j hj in
        put_below (start i) (width i) v w h (start j) (width j) (omega arith)
    go (no q) =
        let e = in_order i j (omega arith) (omega arith) in
        let d = to_its_end i hi in
        put_above (start i) (width i) v w h (start j) (width j) (omega arith)
