-- The ways through a view, on the definitions: what it shows, whatever other calls are lent.
use mathlib.Core.Path.{◌≡◌, refl, sym, ap, ◌∙◌}
use mathlib.Core.Bool.{Bool, true, false, cond, not, ◌&&◌}
use mathlib.Core.List.{List}
use Prim.Native.Nat.{ℕ, ◌+◌, ◌-◌, ◌<◌, ◌≤◌}
use native.Mathlib.Omega.{arith}
use lib.Dec.{ltb}
use lib.ListN.{length}
use borrow.Author.Tests.{lt-ltb, le-ltb, le-leb, lt-leb}
use Rattle.laws.specs.Lists.{at}
use Rattle.std.specs.Prelude.{Option}
use Rattle.kinds.specs.declared.Lit.{Lit}
use Rattle.kinds.specs.Lent.{Lent}
use Rattle.kinds.specs.Layout.{view, side, lay, lay_state, lay_host, fit}
use Rattle.calls.specs.Call.{view_fields, view_literal, parts}
use Rattle.calls.specs.Size.{sizes_ok}
use Rattle.calls.specs.StorePasses.{store_passes}
use Rattle.calls.specs.HostPasses.{host_passes}
use Rattle.calls.specs.Refusing.{lowest, own}
use Rattle.calls.specs.Viewing.{Fields, header_word, fields_of, has_literal, literal_at}
use Rattle.calls.specs.Outcome.{judged, refused_for, has_room, step, answer, done, refused, accepted, fields, literal}
use Rattle.calls.specs.Answers.{place_number, place_answer}
use Rattle.calls.proofs.Laws.{own_refuses, accepts}
use Rattle.view.specs.Shown.{shown, fields_from}
use Rattle.view.specs.declared.HeaderFields.{HeaderFields}

-- what the contracts ensure of a view's fields, and of its answer at a place
abbrev pub ShowsFields : List ℕ → HeaderFields → Type 0
ShowsFields ws r = (k : Lent) → record { number = 0; answer = fields (shown r); then = k } ≡ done (view_fields ws) k

abbrev pub ShowsPlace : List ℕ → ℕ → Option Lit → Type 0
ShowsPlace ws i r = (k : Lent) → record { number = place_number r; answer = place_answer r; then = k } ≡ done (view_literal ws i) k

-- ---- fields

module _ (ws : List ℕ) (k : Lent) where
  fields_done : done (view_fields ws) k ≡ accepted (fields (fields_of ws)) k
  unfolding judged lowest sizes_ok store_passes host_passes parts refused_for own has_room fit answer view side lay lay_state lay_host step
  fields_done = accepts (view_fields ws) k refl refl refl

  -- f is what a view of ws shows
  fields_shown : (f : Fields) → f ≡ fields_of ws → accepted (fields f) k ≡ done (view_fields ws) k
  fields_shown f e = ap (λ (x : Fields). accepted (fields x) k) e ∙ sym fields_done

header_short : (ws : List ℕ) (i : ℕ) → length ws < 3 → header_word ws i ≡ 0
unfolding header_word
header_short ws i g = ap (λ (b : Bool). cond b (at ws i) 0) (lt-leb 3 (length ws) g)

header_long : (ws : List ℕ) (i : ℕ) → 3 ≤ length ws → header_word ws i ≡ at ws i
unfolding header_word
header_long ws i g = ap (λ (b : Bool). cond b (at ws i) 0) (le-leb 3 (length ws) g)

from_header : (ws : List ℕ) (a b c : ℕ) → header_word ws 0 ≡ a → header_word ws 1 ≡ b → header_word ws 2 ≡ c → fields_from a b c ≡ fields_of ws
unfolding fields_of
from_header ws a b c e₀ e₁ e₂ = rw (← e₀) (rw (← e₁) (rw (← e₂) refl))

pub short_shown : (ws : List ℕ) (f : Fields) → length ws < 3 → f ≡ fields_from 0 0 0 → (k : Lent) → accepted (fields f) k ≡ done (view_fields ws) k
short_shown ws f g e k = fields_shown ws k f (e ∙ from_header ws 0 0 0 (header_short ws 0 g) (header_short ws 1 g) (header_short ws 2 g))

pub long_shown : (ws : List ℕ) (f : Fields) → 3 ≤ length ws → f ≡ fields_from (at ws 0) (at ws 1) (at ws 2) → (k : Lent) → accepted (fields f) k ≡ done (view_fields ws) k
long_shown ws f g e k = fields_shown ws k f (e ∙ from_header ws (at ws 0) (at ws 1) (at ws 2) (header_long ws 0 g) (header_long ws 1 g) (header_long ws 2 g))

-- ---- the literal at a place

module _ (ws : List ℕ) (i : ℕ) (k : Lent) where
  place_refusal : (b : Bool) → has_literal ws i ≡ b → refused_for (view_literal ws i) (view k) ≡ cond (not b) 4 0
  unfolding refused_for own lowest
  place_refusal b e = ap (λ (x : Bool). cond (not x) 4 0) e

  no_place : has_literal ws i ≡ false → refused 4 k ≡ done (view_literal ws i) k
  unfolding judged lowest sizes_ok store_passes host_passes parts
  no_place e = sym (own_refuses (view_literal ws i) k refl 4 (place_refusal false e) (λ z. omega arith))

  a_place : has_literal ws i ≡ true → accepted (literal (literal_at ws i)) k ≡ done (view_literal ws i) k
  unfolding judged lowest sizes_ok store_passes host_passes parts has_room fit answer view side lay lay_state lay_host step
  a_place e = sym (accepts (view_literal ws i) k refl (place_refusal true e) refl)

has_not_below : (ws : List ℕ) (i : ℕ) → header_word ws 2 ≤ i → has_literal ws i ≡ false
unfolding has_literal
has_not_below ws i g = ap (λ (b : Bool). b && ltb (3 + i) (length ws)) (le-ltb i (header_word ws 2) g)

has_not_inside : (ws : List ℕ) (i : ℕ) → i < header_word ws 2 → length ws ≤ 3 + i → has_literal ws i ≡ false
unfolding has_literal
has_not_inside ws i g h = ap (λ (b : Bool). b && ltb (3 + i) (length ws)) (lt-ltb i (header_word ws 2) g) ∙ le-ltb (3 + i) (length ws) h

has_literal_lem : (ws : List ℕ) (i : ℕ) → i < header_word ws 2 → 3 + i < length ws → has_literal ws i ≡ true
unfolding has_literal
has_literal_lem ws i g h = ap (λ (b : Bool). b && ltb (3 + i) (length ws)) (lt-ltb i (header_word ws 2) g) ∙ lt-ltb (3 + i) (length ws) h

-- in the code's terms: n is the number of words, l the length word

pub short_place : (ws : List ℕ) (i : ℕ) → length ws < 3 → (k : Lent) → refused 4 k ≡ done (view_literal ws i) k
short_place ws i g k = no_place ws i k (has_not_below ws i (rw (header_short ws 2 g) (omega arith)))

pub above_length : (ws : List ℕ) (i l : ℕ) → 3 ≤ length ws → l ≡ at ws 2 → l ≤ i → (k : Lent) → refused 4 k ≡ done (view_literal ws i) k
above_length ws i l g e h k = no_place ws i k (has_not_below ws i (rw (header_long ws 2 g) (rw (← e) h)))

pub past_the_end : (ws : List ℕ) (i l : ℕ) → 3 ≤ length ws → l ≡ at ws 2 → i < l → length ws - 3 ≤ i → (k : Lent) → refused 4 k ≡ done (view_literal ws i) k
past_the_end ws i l g e h o k = no_place ws i k (has_not_inside ws i (rw (header_long ws 2 g) (rw (← e) h)) (omega arith))

pub held_at : (ws : List ℕ) (i l : ℕ) → l ≡ at ws 2 → i < l → i < length ws - 3 → (k : Lent) → accepted (literal (at ws (3 + i))) k ≡ done (view_literal ws i) k
unfolding literal_at
held_at ws i l e h o k = a_place ws i k (has_literal_lem ws i (rw (header_long ws 2 (omega arith)) (rw (← e) h)) (omega arith))
