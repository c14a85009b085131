-- Some lines and what they mean, by computation. Assumes nothing.
use mathlib.Core.Path.{◌≡◌, refl}
use mathlib.Core.Bool.{true}
use mathlib.Core.List.{[], ◌∷◌}
use Rattle.calls.specs.Call.{add_clause}
use Rattle.walk_lines.specs.Lines.{codes, number, more, after, items, listed, byte, matching, heard, first_of, ops, digit, whole, nth, switched, meaning, unreadable, start, call, answers}

pub a_long_clause : meaning (codes "op=long tier=0 glue=0 lits=0,2,4") ≡ call (add_clause 0 0 (0 ∷ 2 ∷ 4 ∷ []))
unfolding codes number more after items listed byte matching heard first_of ops digit whole nth switched meaning
a_long_clause = refl

pub an_empty_list : meaning (codes "op=long tier=0 glue=0 lits=") ≡ call (add_clause 0 0 [])
unfolding codes number more after items listed byte matching heard first_of ops digit whole nth switched meaning
an_empty_list = refl

pub no_list : meaning (codes "op=long tier=0 glue=0") ≡ unreadable
unfolding codes number more after items listed byte matching heard first_of ops digit whole nth switched meaning
no_list = refl

pub a_comma_at_the_end : meaning (codes "op=long tier=0 glue=0 lits=0,2,") ≡ unreadable
unfolding codes number more after items listed byte matching heard first_of ops digit whole nth switched meaning
a_comma_at_the_end = refl

pub ten_digits : meaning (codes "op=start vars=0000000003") ≡ start 3
unfolding codes number more after items listed byte matching heard first_of ops digit whole nth switched meaning
ten_digits = refl

pub eleven_digits : meaning (codes "op=start vars=00000000003") ≡ unreadable
unfolding codes number more after items listed byte matching heard first_of ops digit whole nth switched meaning
eleven_digits = refl

pub the_largest_number : meaning (codes "op=start vars=4294967295") ≡ start 4294967295
unfolding codes number more after items listed byte matching heard first_of ops digit whole nth switched meaning
the_largest_number = refl

pub too_large_a_number : meaning (codes "op=start vars=4294967296") ≡ unreadable
unfolding codes number more after items listed byte matching heard first_of ops digit whole nth switched meaning
too_large_a_number = refl

pub a_space_at_the_end : meaning (codes "op=start vars=3 ") ≡ unreadable
unfolding codes number more after items listed byte matching heard first_of ops digit whole nth switched meaning
a_space_at_the_end = refl

pub two_spaces : meaning (codes "op=start  vars=3") ≡ unreadable
unfolding codes number more after items listed byte matching heard first_of ops digit whole nth switched meaning
two_spaces = refl

pub keys_misplaced : meaning (codes "op=tier tier=1 ref=0") ≡ unreadable
unfolding codes number more after items listed byte matching heard first_of ops digit whole nth switched meaning
keys_misplaced = refl

pub a_word_too_many : meaning (codes "op=tails x") ≡ unreadable
unfolding codes number more after items listed byte matching heard first_of ops digit whole nth switched meaning
a_word_too_many = refl

pub answers_on : meaning (codes "op=answers on=01") ≡ answers true
unfolding codes number more after items listed byte matching heard first_of ops digit whole nth switched meaning
answers_on = refl

pub answers_neither : meaning (codes "op=answers on=2") ≡ unreadable
unfolding codes number more after items listed byte matching heard first_of ops digit whole nth switched meaning
answers_neither = refl

pub an_empty_line : meaning [] ≡ unreadable
unfolding codes number more after items listed byte matching heard first_of ops digit whole nth switched meaning
an_empty_line = refl
