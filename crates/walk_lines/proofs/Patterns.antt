-- One step of holding a line against a pattern: the pattern is passed up to the place p and the line up to i, and n numbers stand in `values`. Assumes nothing.
use mathlib.Core.Path.{◌≡◌, sym, ◌∙◌}
use mathlib.Core.Bool.{true, false, cond}
use mathlib.Core.List.{List, [], ◌∷◌, ◌++◌}
use Prim.Native.Nat.{ℕ, suc, ◌+◌, ◌≤◌, ◌<◌}
use native.Mathlib.Numerals.{add-one}
use native.Mathlib.Omega.{arith}
use lib.ListN.{length, get_or, take, drop, set, drop_of_length-le, length-set}
use lib.Seq.{drop-cons, take-suc-set}
use lib.Dec.{eqb}
use borrow.Author.Tests.{eq-eqb, ne_eqb}
use Rattle.walk_lines.specs.Lines.{none, is, number, Taken, no, taken, more, after, listed, byte, matching}
use Rattle.walk_lines.specs.Told.{prefixed}
use Rattle.walk_lines.proofs.Lists.{prefixed_none, prefixed_no, prefixed_more, prefixed_end}

-- what is done, with what remains, gives what the whole line gives
pub record Matching (pattern line values : List ℕ) (p i n : ℕ) : Type 0 where
  pub count : n ≤ p
  pub inside : p ≤ length pattern
  pub short : length pattern ≤ 1024
  pub room : length values ≡ 2048
  pub is : prefixed (take n values) (matching (drop p pattern) (drop i line)) ≡ matching pattern line

pub match_start : {pattern line values : List ℕ} → length pattern ≤ 1024 → length values ≡ 2048 → Matching pattern line values 0 0 0
match_start {pattern} {line} {values} short room = record { count = omega arith; inside = omega arith; short = short; room = room; is = prefixed_none (matching pattern line) }

module _ {pattern line values : List ℕ} {p i n : ℕ} (at : Matching pattern line values p i n) where
  abbrev b : ℕ
  b = get_or pattern p 0

  next_is : p < length pattern → prefixed (take n values) (cond (eqb b 35) (after (number 0 0 (drop i line)) (matching (drop (suc p) pattern))) (cond (eqb b 42) (listed (drop i line)) (byte b (drop i line) (matching (drop (suc p) pattern))))) ≡ matching pattern line
  unfolding matching
  next_is further = let e : drop p pattern ≡ b ∷ drop (suc p) pattern = drop-cons pattern p 0 further in rw e at at.is

  at_number : p < length pattern → b ≡ 35 → prefixed (take n values) (after (number 0 0 (drop i line)) (matching (drop (suc p) pattern))) ≡ matching pattern line
  at_number further hash = let f : eqb b 35 ≡ true = eq-eqb b 35 hash in rw f at (next_is further)

  pub match_none : p < length pattern → b ≡ 35 → none ≡ number 0 0 (drop i line) → no ≡ matching pattern line
  unfolding after
  match_none further hash found = sym (prefixed_no _) ∙ (rw (← found) at (at_number further hash))

  pub match_number : {v next : ℕ} → p < length pattern → b ≡ 35 → is v (drop next line) ≡ number 0 0 (drop i line) → Matching pattern line (set values n v) (p + 1) next (n + 1)
  unfolding after
  match_number {v} {next} further hash found =
      let g : prefixed (take n values) (more v (matching (drop (suc p) pattern) (drop next line))) ≡ matching pattern line = rw (← found) at (at_number further hash) in
      let q : p + 1 ≡ suc p = add-one p in
      let m : n + 1 ≡ suc n = add-one n in
      let s : take (suc n) (set values n v) ≡ take n values ++ v ∷ [] = take-suc-set values n v (omega arith) in
      record { count = omega arith; inside = omega arith; short = at.short; room = length-set values n v ∙ at.room; is = rw (q, m, s) (prefixed_more _ v _ ∙ g) }

  pub match_list : {t : Taken} → p < length pattern → (b ≡ 35 → ⊥) → b ≡ 42 → t ≡ prefixed (take n values) (listed (drop i line)) → t ≡ matching pattern line
  match_list further other star found =
      let f : eqb b 35 ≡ false = ne_eqb b 35 other in
      let g : eqb b 42 ≡ true = eq-eqb b 42 star in
      found ∙ (rw (f, g) at (next_is further))

  at_byte : p < length pattern → (b ≡ 35 → ⊥) → (b ≡ 42 → ⊥) → prefixed (take n values) (byte b (drop i line) (matching (drop (suc p) pattern))) ≡ matching pattern line
  at_byte further hash star =
      let f : eqb b 35 ≡ false = ne_eqb b 35 hash in
      let g : eqb b 42 ≡ false = ne_eqb b 42 star in
      rw (f, g) at (next_is further)

  pub match_out : p < length pattern → (b ≡ 35 → ⊥) → (b ≡ 42 → ⊥) → length line ≤ i → no ≡ matching pattern line
  unfolding byte
  match_out further hash star out =
      let e : drop i line ≡ [] = drop_of_length-le line {i = i} out in
      sym (prefixed_no _) ∙ (rw e at (at_byte further hash star))

  at_both : p < length pattern → (b ≡ 35 → ⊥) → (b ≡ 42 → ⊥) → i < length line → prefixed (take n values) (cond (eqb b (get_or line i 0)) (matching (drop (suc p) pattern) (drop (suc i) line)) no) ≡ matching pattern line
  unfolding byte
  at_both further hash star inside =
      let e : drop i line ≡ get_or line i 0 ∷ drop (suc i) line = drop-cons line i 0 inside in
      rw e at (at_byte further hash star)

  pub match_differs : p < length pattern → (b ≡ 35 → ⊥) → (b ≡ 42 → ⊥) → i < length line → (get_or line i 0 ≡ b → ⊥) → no ≡ matching pattern line
  match_differs further hash star inside differs =
      let f : eqb b (get_or line i 0) ≡ false = ne_eqb b (get_or line i 0) (λ (e : b ≡ get_or line i 0). differs (sym e)) in
      sym (prefixed_no _) ∙ (rw f at (at_both further hash star inside))

  pub match_byte : p < length pattern → (b ≡ 35 → ⊥) → (b ≡ 42 → ⊥) → i < length line → get_or line i 0 ≡ b → Matching pattern line values (p + 1) (i + 1) n
  match_byte further hash star inside same =
      let f : eqb b (get_or line i 0) ≡ true = eq-eqb b (get_or line i 0) (sym same) in
      let q : p + 1 ≡ suc p = add-one p in
      let m : i + 1 ≡ suc i = add-one i in
      record { count = omega arith; inside = omega arith; short = at.short; room = at.room; is = rw (q, m) (rw f at (at_both further hash star inside)) }

  pub match_more : length pattern ≤ p → i < length line → no ≡ matching pattern line
  unfolding matching
  match_more done inside =
      let d : drop p pattern ≡ [] = drop_of_length-le pattern {i = p} done in
      let e : drop i line ≡ get_or line i 0 ∷ drop (suc i) line = drop-cons line i 0 inside in
      sym (prefixed_no _) ∙ (rw (d, e) at at.is)

  pub match_end : length pattern ≤ p → length line ≤ i → taken (take n values) ≡ matching pattern line
  unfolding matching
  match_end done out =
      let d : drop p pattern ≡ [] = drop_of_length-le pattern {i = p} done in
      let e : drop i line ≡ [] = drop_of_length-le line {i = i} out in
      sym (prefixed_end _) ∙ (rw (d, e) at at.is)
