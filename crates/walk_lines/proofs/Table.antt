-- The table of ops by place, and the numbers of a line by place. Assumes nothing.
use mathlib.Core.Path.{◌≡◌, refl, sym, ap, ◌∙◌}
use mathlib.Core.List.{List, [], ◌∷◌, map}
use Prim.Native.Nat.{ℕ, zero, suc, ◌+◌, ◌≤◌, ◌<◌}
use native.Mathlib.Numerals.{add-one}
use native.Mathlib.Omega.{arith}
use lib.ListN.{length, get_or, drop}
use Rattle.std.proofs.Common.{lit≤}
use Rattle.std.specs.Borrow.{Bor}
use Rattle.walk_lines.specs.Lines.{codes, Taken, no, taken, matching, Meaning, unreadable, Op, op, ops, heard, first_of, meaning, pattern_in, meant_in, pattern_at, meant_at}

-- ---- an op by its place

pub meant_of : (i k : ℕ) (vs : List ℕ) (m : Meaning) → i ≡ k → m ≡ meant_at k vs → m ≡ meant_at i vs
meant_of i k vs m e h = h ∙ ap (λ (j : ℕ). meant_at j vs) (sym e)

next_op : (os : List Op) (i : ℕ) (line : List ℕ) → i < length os → first_of (drop i os) line ≡ heard (meant_in os i) (matching (pattern_in os i) line) (first_of (drop (suc i) os) line)
unfolding first_of pattern_in meant_in
next_op [] i line inside = absurd (omega arith)
next_op (op p m ∷ os) zero line inside = refl
next_op (op p m ∷ os) (suc i) line inside = next_op os i line (omega arith)

-- the table has 28 ops
ops_length : length ops ≡ 28
unfolding ops
ops_length = refl

after_ops : (line : List ℕ) → first_of (drop 28 ops) line ≡ unreadable
unfolding ops first_of
after_ops line = refl

-- the ops before the i-th are tried
pub record Heard (line values : List ℕ) (i : ℕ) : Type 0 where
  pub room : length values ≡ 2048
  pub count : i ≤ 28
  pub is : first_of (drop i ops) line ≡ meaning line

pub op_start : {line values : List ℕ} → length values ≡ 2048 → Heard line values 0
unfolding meaning
op_start room = record { room = room; count = omega arith; is = refl }

module _ {line before : List ℕ} {i : ℕ} (at : Heard line before i) where
  at_op : i < 28 → heard (meant_at i) (matching (pattern_at i) line) (first_of (drop (suc i) ops) line) ≡ meaning line
  unfolding pattern_at meant_at
  at_op inside =
      let all : length ops ≡ 28 = ops_length in
      sym (next_op ops i line (omega arith)) ∙ at.is

  pub op_found : (ns : List ℕ) {m : Meaning} → i < 28 → taken ns ≡ matching (pattern_at i) line → m ≡ meant_at i ns → m ≡ meaning line
  unfolding heard
  op_found ns inside found means = means ∙ (rw (← found) at (at_op inside))

  pub op_next : (values : List ℕ) → i < 28 → no ≡ matching (pattern_at i) line → length values ≡ 2048 → Heard line values (i + 1)
  unfolding heard
  op_next values inside found room =
      let q : i + 1 ≡ suc i = add-one i in
      record { room = room; count = omega arith; is = rw q (rw (← found) at (at_op inside)) }

  pub op_none : 28 ≤ i → unreadable ≡ meaning line
  op_none out =
      let e : i ≡ 28 = omega arith in
      sym (after_ops line) ∙ (rw e at at.is)

-- ---- the table in the code

unfoldable pub patterns : List Op → List (List ℕ)
patterns [] = []
patterns (op p m ∷ os) = codes p ∷ patterns os

pattern_here : (os : List Op) (table : List (Bor (List ℕ))) (d : Bor (List ℕ)) (i : ℕ) → map (λ (b : Bor (List ℕ)). b.now) table ≡ patterns os → i < length os → (get_or table i d).now ≡ pattern_in os i
unfolding patterns pattern_in
pattern_here [] table d i e h = absurd (omega arith)
pattern_here (op p m ∷ os) [] d i e h = absurd (cc)
pattern_here (op p m ∷ os) (b ∷ table) d zero e h = cc
pattern_here (op p m ∷ os) (b ∷ table) d (suc i) e h = pattern_here os table d i (cc) (omega arith)

bytes : List Op → ℕ
bytes [] = 0
bytes (op p m ∷ os) = length (codes p) + bytes os

pattern_bytes : (os : List Op) (i : ℕ) → length (pattern_in os i) ≤ bytes os
unfolding pattern_in bytes
pattern_bytes [] i = omega arith
pattern_bytes (op p m ∷ os) zero = omega arith
pattern_bytes (op p m ∷ os) (suc i) = let h : length (pattern_in os i) ≤ bytes os = pattern_bytes os i in omega arith

-- a table with the patterns of the ops
pub record Patterns (table : List (Bor (List ℕ))) : Type 0 where
  pub are : map (λ (b : Bor (List ℕ)). b.now) table ≡ patterns ops

module _ {table : List (Bor (List ℕ))} (all : Patterns table) (i : ℕ) (d : Bor (List ℕ)) (inside : i < 28) where
  pattern_is : (get_or table i d).now ≡ pattern_at i
  unfolding pattern_at
  pattern_is = let n : length ops ≡ 28 = ops_length in pattern_here ops table d i all.are (omega arith)

  pub pattern_short : length (get_or table i d).now ≤ 1024
  unfolding ops codes bytes pattern_at
  pattern_short = let n : bytes ops ≤ 1024 = lit≤ tt in let s : length (pattern_in ops i) ≤ bytes ops = pattern_bytes ops i in rw pattern_is (omega arith)

  pub pattern_matching : (t : Taken) (line : List ℕ) → t ≡ matching (get_or table i d).now line → t ≡ matching (pattern_at i) line
  pattern_matching t line found = rw (← pattern_is) found

-- ---- the last arm: a number that is none of the k numbers from l on, as a `match` tells it

abbrev pub NoneOf : ℕ → ℕ → ℕ → Type 0
NoneOf l zero i = Unit {0}
NoneOf l (suc k) i = NoneOf l k i × (i ≡ l + k → ⊥)

none_of : (l k i : ℕ) → NoneOf l k i → l ≤ i → l + k ≤ i
none_of l zero i n h = omega arith
none_of l (suc k) i n h =
    let p : l + k ≤ i = none_of l k i n.0 h in
    let q : i ≡ l + k → ⊥ = n.1 in
    omega arith

pub last_of : (l k i : ℕ) → NoneOf l k i → l ≤ i → i < suc (l + k) → i ≡ l + k
last_of l k i n h less = let p : l + k ≤ i = none_of l k i n h in omega arith

pub last_from_0 : (k i : ℕ) → NoneOf 0 k i → i < suc k → i ≡ k
last_from_0 k i n less = let p : 0 + k ≤ i = none_of 0 k i n (omega arith) in omega arith
