-- The mark of word 1 beside its other fields. Assumes nothing.
use mathlib.Core.Path.{◌≡◌, refl, ◌∙◌}
use mathlib.Core.Bool.{Bool, true, false}
use Prim.Native.Nat.{ℕ, ◌+◌, ◌*◌, ◌/◌, ◌%◌, ◌^◌, ◌<◌}
use native.Mathlib.Omega.{arith}
use lib.Dec.{lit<, lit≤}
use Rattle.laws.specs.Fold.{one}
use Rattle.kinds.specs.Header.{tier_of, deleted_of, mark_of, with_mark}
use Rattle.header.proofs.Laws.{put_same, put_below}

one_lt : (b : Bool) → one b < 2 ^ 1
one_lt true = lit< tt
one_lt false = lit< tt

pub mark_read : (b : Bool) (x : ℕ) → mark_of (with_mark b x) ≡ one b
mark_read b x = put_same 3 1 (one b) x (one_lt b)

mark_deleted : (b : Bool) (x : ℕ) → deleted_of (with_mark b x) ≡ deleted_of x
mark_deleted b x = put_below 3 1 (one b) x (one_lt b) 2 1 (lit≤ tt)

mark_tier : (b : Bool) (x : ℕ) → tier_of (with_mark b x) ≡ tier_of x
mark_tier b x = put_below 3 1 (one b) x (one_lt b) 0 2 (lit≤ tt)

-- the last mark written counts
mark_mark : (a b : Bool) (x : ℕ) → with_mark a (with_mark b x) ≡ with_mark a x
mark_mark a b x = over (one a) (one b) x (one_lt b)
  where
    over : (u v x : ℕ) → v < 2 → (x / 16 * 16 + (v * 8 + x % 8)) / 16 * 16 + (u * 8 + (x / 16 * 16 + (v * 8 + x % 8)) % 8) ≡ x / 16 * 16 + (u * 8 + x % 8)
    over u v x h =
        let y = x / 16 * 16 + (v * 8 + x % 8) in
        let p : y / 16 ≡ x / 16 = omega arith in
        let q : y % 8 ≡ x % 8 = omega arith in
        omega arith

pub mark_none : (x : ℕ) → mark_of x ≡ 0 → with_mark false x ≡ x
mark_none x h = bare x h
  where
    bare : (x : ℕ) → x / 8 % 2 ≡ 0 → x / 16 * 16 + (0 * 8 + x % 8) ≡ x
    bare x h = omega arith

-- a word, marked where b says so
abbrev pub mark_if : Bool → ℕ → ℕ
mark_if true x = with_mark true x
mark_if false x = x

pub if_deleted : (b : Bool) (x : ℕ) → deleted_of (mark_if b x) ≡ deleted_of x
if_deleted true x = mark_deleted true x
if_deleted false x = refl

pub if_tier : (b : Bool) (x : ℕ) → tier_of (mark_if b x) ≡ tier_of x
if_tier true x = mark_tier true x
if_tier false x = refl

pub if_mark : (b : Bool) (x : ℕ) → mark_of x ≡ 0 → mark_of (mark_if b x) ≡ one b
if_mark true x h = mark_read true x
if_mark false x h = h

pub if_set : (b : Bool) (x : ℕ) → with_mark true (mark_if b x) ≡ with_mark true x
if_set true x = mark_mark true true x
if_set false x = refl

pub if_cleared : (b : Bool) (x : ℕ) → mark_of x ≡ 0 → with_mark false (mark_if b x) ≡ x
if_cleared true x h = mark_mark false true x ∙ mark_none x h
if_cleared false x h = mark_none x h
