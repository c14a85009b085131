use Rattle.simplify_room.proofs.Room.{ends, vars, codes, t₁_bound, room_no, room_is}
use Rattle.simplify_room.proofs.Lines.{lines_few}
use native.Mathlib.Omega.{arith}
use Rattle.simplify_room.proofs.has_room.Goals as goal

pub long_words-long-requires : goal.long_words-long-requires
long_words-long-requires c = let R = c.requires in record { n_in_bounds = (R.listed, R.list_most, ends R); by_index = vars R }

pub overflow_add-s : goal.overflow_add-s
overflow_add-s c = let R = c.requires in omega (arith, lines_few R, c.count_rows-short.ensures.0, R.recorded, R.rec_most)

pub overflow_add-s-2 : goal.overflow_add-s-2
overflow_add-s-2 c = let R = c.requires in omega (arith, lines_few R, c.count_rows-short.ensures.0, c.long_words-long.ensures.1, R.recorded, R.rec_most, R.listed, R.list_most)

pub returns-then-rec-s : goal.returns-then-rec-s
returns-then-rec-s c = room_no c.requires c.count_rows-short.ensures.0 c.long_words-long.ensures.0 c.if-rec-s.true

pub tally_pairs-requires : goal.tally_pairs-requires
tally_pairs-requires c =
    let R = c.requires in
    record { n_in_bounds = (R.listed, R.list_most, ends R); by_index = λ i h d p q. (vars R i h d p q, omega (arith, codes R i h d p q, R.rows.few, c.count_rows-short.auto)); by_index_2 = t₁_bound R c.count_rows-short.ensures.1 }

pub returns : goal.returns
returns c = room_is c.requires c.count_rows-short.ensures.0 c.long_words-long.ensures.0 c.if-rec-s.false c.count_rows-short.ensures.1 c.tally_pairs.ensures c.all_within.ensures
