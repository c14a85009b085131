-- One step of reading a list of numbers: `line` is read up to the place i, with k digits of the value v since the last comma; m numbers of the list stand in
-- `values` behind n others. Assumes nothing.
use mathlib.Core.Path.{◌≡◌, refl, sym, ap, ◌∙◌}
use mathlib.Core.Bool.{true, false, cond, ◌&&◌}
use mathlib.Core.List.{List, [], ◌∷◌, ◌++◌, append_assoc, append-nil}
use Prim.Native.Nat.{ℕ, suc, ◌+◌, ◌-◌, ◌*◌, ◌^◌, ◌≤◌, ◌<◌}
use native.Mathlib.Numerals.{add-one}
use native.Mathlib.Omega.{arith}
use lib.ListN.{length, get_or, take, drop, set, drop_of_length-le, length-set}
use lib.Seq.{drop-cons, take-suc-set}
use lib.Dec.{ltb, eqb}
use Rattle.std.proofs.lemmas.Bool.Decides.{nat_tests}
use borrow.Author.Tests.{lt-ltb, le-ltb, eq-eqb, ne_eqb}
use Rattle.walk_lines.specs.Lines.{digit, whole, Taken, no, taken, more, items, listed}
use Rattle.walk_lines.specs.Told.{prefixed}

pub prefixed_none : (t : Taken) → prefixed [] t ≡ t
unfolding prefixed
prefixed_none no = refl
prefixed_none (taken ws) = refl

-- a number more, in front of what follows or behind what was read
pub prefixed_more : (vs : List ℕ) (v : ℕ) (t : Taken) → prefixed (vs ++ v ∷ []) t ≡ prefixed vs (more v t)
unfolding prefixed more
prefixed_more vs v no = refl
prefixed_more vs v (taken ws) = ap taken (append_assoc vs (v ∷ []) ws)

pub prefixed_no : (vs : List ℕ) → prefixed vs no ≡ no
unfolding prefixed
prefixed_no vs = refl

pub prefixed_end : (vs : List ℕ) → prefixed vs (taken []) ≡ taken vs
unfolding prefixed
prefixed_end vs = ap taken (append-nil vs)

-- a list that is empty, and one that is not
pub listed_none : (line values : List ℕ) (from n : ℕ) → length line ≤ from → taken (take n values) ≡ prefixed (take n values) (listed (drop from line))
unfolding listed
listed_none line values from n out =
    let e : drop from line ≡ [] = drop_of_length-le line {i = from} out in
    rw e (sym (prefixed_end (take n values)))

listed_some : (line values : List ℕ) (n : ℕ) → 0 < length line → prefixed (take n values) (items 1024 0 0 line) ≡ prefixed (take n values) (listed line)
unfolding listed
listed_some [] values n some = absurd (omega arith)
listed_some (b ∷ line) values n some = refl

-- how far a list is read: what is done, with what remains, gives the goal
pub record Listing (line values : List ℕ) (i k v n m : ℕ) (goal : Taken) : Type 0 where
  pub behind : n ≤ 1024
  pub count : m ≤ 1024
  pub digits : k ≤ 10
  pub value : v < 10 ^ k
  pub room : length values ≡ 2048
  pub is : prefixed (take (n + m) values) (items (1024 - m) k v (drop i line)) ≡ goal

pub list_start : {line values : List ℕ} {n : ℕ} → n ≤ 1024 → length values ≡ 2048 → 0 < length line → Listing line values 0 0 0 n 0 (prefixed (take n values) (listed line))
list_start {line} {values} {n} behind room some =
    let z : n + 0 ≡ n = omega arith in
    record { behind = behind; count = omega arith; digits = omega arith; value = omega arith; room = room; is = rw z (listed_some line values n some) }

room_left : (m : ℕ) → ltb 0 (1024 - m) ≡ ltb m 1024
room_left m = grind (arith, nat_tests)

module _ {line values : List ℕ} {i k v n m : ℕ} {goal : Taken} (at : Listing line values i k v n m goal) where
  inside_is : i < length line → prefixed (take (n + m) values) (items (1024 - m) k v (get_or line i 0 ∷ drop (suc i) line)) ≡ goal
  inside_is inside = let e : drop i line ≡ get_or line i 0 ∷ drop (suc i) line = drop-cons line i 0 inside in rw e at at.is

  at_comma : i < length line → get_or line i 0 ≡ 44 → prefixed (take (n + m) values) (cond (ltb 0 (1024 - m) && whole k v) (more v (items (1024 - m - 1) 0 0 (drop (suc i) line))) no) ≡ goal
  unfolding items
  at_comma inside comma =
      let f : eqb (get_or line i 0) 44 ≡ true = eq-eqb (get_or line i 0) 44 comma in
      rw f at (inside_is inside)

  at_other : i < length line → (get_or line i 0 ≡ 44 → ⊥) → prefixed (take (n + m) values) (cond (digit (get_or line i 0) && ltb k 10) (items (1024 - m) (suc k) (v * 10 + (get_or line i 0 - 48)) (drop (suc i) line)) no) ≡ goal
  unfolding items
  at_other inside other =
      let f : eqb (get_or line i 0) 44 ≡ false = ne_eqb (get_or line i 0) 44 other in
      rw f at (inside_is inside)

  at_end : length line ≤ i → prefixed (take (n + m) values) (cond (ltb 0 (1024 - m) && whole k v) (taken (v ∷ [])) no) ≡ goal
  unfolding items
  at_end out = let e : drop i line ≡ [] = drop_of_length-le line {i = i} out in rw e at at.is

  pub list_refused : i < length line → get_or line i 0 ≡ 44 → (ltb m 1024 && whole k v) ≡ false → no ≡ goal
  list_refused inside comma w =
      let f : ltb 0 (1024 - m) ≡ ltb m 1024 = room_left m in
      sym (prefixed_no _) ∙ (rw (f, w) at (at_comma inside comma))

  pub list_comma : i < length line → get_or line i 0 ≡ 44 → m < 1024 → whole k v ≡ true → Listing line (set values (n + m) v) (i + 1) 0 0 n (m + 1) goal
  list_comma inside comma fewer w =
      let f : ltb 0 (1024 - m) ≡ true = lt-ltb 0 (1024 - m) (omega arith) in
      let g : prefixed (take (n + m) values) (more v (items (1024 - m - 1) 0 0 (drop (suc i) line))) ≡ goal = rw (f, w) at (at_comma inside comma) in
      let p : n + (m + 1) ≡ suc (n + m) = omega arith in
      let q : 1024 - (m + 1) ≡ 1024 - m - 1 = omega arith in
      let r : i + 1 ≡ suc i = add-one i in
      let s : take (suc (n + m)) (set values (n + m) v) ≡ take (n + m) values ++ v ∷ [] = take-suc-set values (n + m) v (omega arith) in
      record { behind = at.behind; count = omega arith; digits = omega arith; value = omega arith; room = length-set values (n + m) v ∙ at.room; is = rw (p, q, r, s) (prefixed_more _ v _ ∙ g) }

  pub list_other : i < length line → (get_or line i 0 ≡ 44 → ⊥) → digit (get_or line i 0) ≡ false → no ≡ goal
  list_other inside other d = sym (prefixed_no _) ∙ (rw d at (at_other inside other))

  pub list_long : i < length line → (get_or line i 0 ≡ 44 → ⊥) → digit (get_or line i 0) ≡ true → 10 ≤ k → no ≡ goal
  list_long inside other d many =
      let f : ltb k 10 ≡ false = le-ltb k 10 many in
      sym (prefixed_no _) ∙ (rw (d, f) at (at_other inside other))

  pub list_digit : {w : ℕ} → i < length line → (get_or line i 0 ≡ 44 → ⊥) → digit (get_or line i 0) ≡ true → k < 10 → (w ≡ v * 10 + (get_or line i 0 - 48)) × (w < 10 ^ suc k) → Listing line values (i + 1) (k + 1) w n m goal
  list_digit inside other d few next =
      let f : ltb k 10 ≡ true = lt-ltb k 10 few in
      let p : k + 1 ≡ suc k = add-one k in
      let r : i + 1 ≡ suc i = add-one i in
      record { behind = at.behind; count = at.count; digits = omega arith; value = rw p next.1; room = at.room; is = rw (p, r, next.0) (rw (d, f) at (at_other inside other)) }

  pub list_end_refused : length line ≤ i → (ltb m 1024 && whole k v) ≡ false → no ≡ goal
  list_end_refused out w =
      let f : ltb 0 (1024 - m) ≡ ltb m 1024 = room_left m in
      sym (prefixed_no _) ∙ (rw (f, w) at (at_end out))

  pub list_end : length line ≤ i → m < 1024 → whole k v ≡ true → taken (take (n + (m + 1)) (set values (n + m) v)) ≡ goal
  unfolding prefixed
  list_end out fewer w =
      let f : ltb 0 (1024 - m) ≡ true = lt-ltb 0 (1024 - m) (omega arith) in
      let g : prefixed (take (n + m) values) (taken (v ∷ [])) ≡ goal = rw (f, w) at (at_end out) in
      let p : n + (m + 1) ≡ suc (n + m) = omega arith in
      let s : take (suc (n + m)) (set values (n + m) v) ≡ take (n + m) values ++ v ∷ [] = take-suc-set values (n + m) v (omega arith) in
      rw (p, s) g
