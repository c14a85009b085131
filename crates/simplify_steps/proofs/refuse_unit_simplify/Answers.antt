use mathlib.Core.Path.{◌≡◌, refl}
use mathlib.Core.Bool.{true, false}
use lib.ListN.{length}
use Rattle.kinds.specs.Lent.{lent, lent_by}
use Rattle.calls.specs.Call.{everything}
use Rattle.calls.proofs.Judged.{sizes_judged, vars_low, vars_high, clauses_sized}
use Rattle.simplify_steps.proofs.Facts.{rows_ready, room_ready}
use Rattle.simplify_steps.proofs.Refuse.{ends_at, vars_at, rows_at, nine_level, nine_trail, ten_long, ten_rows, none_lacks, number_is}
use borrow.Author.Rules.{rules}
use native.Mathlib.Omega.{arith}
use Rattle.simplify_steps.proofs.refuse_unit_simplify.Goals as goal

pub returns-then-level-gt0 : goal.returns-then-level-gt0
returns-then-level-gt0 c =
    let a = c.args in
    let j = c.requires in
    let k = lent a.s a.words.now a.clauses.now a.irred.now a.core.now a.mid.now a.local.now a.rows.now a.counts.now a.rec.now (lent_by a.host) in
    nine_level k j c.if-level-gt0.true

pub returns-then-assigned-gt0 : goal.returns-then-assigned-gt0
returns-then-assigned-gt0 c =
    let a = c.args in
    let j = c.requires in
    let k = lent a.s a.words.now a.clauses.now a.irred.now a.core.now a.mid.now a.local.now a.rows.now a.counts.now a.rec.now (lent_by a.host) in
    nine_trail k j c.if-assigned-gt0.true

pub long_lacks-requires : goal.long_lacks-requires
long_lacks-requires c =
    let a = c.args in
    let j = c.requires in
    let k = lent a.s a.words.now a.clauses.now a.irred.now a.core.now a.mid.now a.local.now a.rows.now a.counts.now a.rec.now (lent_by a.host) in
    record { n_in_bounds = ((clauses_sized everything k (sizes_judged everything k j) refl).used, ends_at k j); by_index = vars_at k j }

pub returns-then-long_lacks : goal.returns-then-long_lacks
returns-then-long_lacks c =
    let a = c.args in
    let j = c.requires in
    let k = lent a.s a.words.now a.clauses.now a.irred.now a.core.now a.mid.now a.local.now a.rows.now a.counts.now a.rec.now (lent_by a.host) in
    ten_long k j c.if-level-gt0.false c.if-assigned-gt0.false c.long_lacks.ensures c.if-long_lacks.true

pub overflow_mul-room : goal.overflow_mul-room
overflow_mul-room c =
    let a = c.args in
    let j = c.requires in
    let k = lent a.s a.words.now a.clauses.now a.irred.now a.core.now a.mid.now a.local.now a.rows.now a.counts.now a.rec.now (lent_by a.host) in
    omega (arith, vars_high everything k (sizes_judged everything k j) refl)

pub nonzero_div-room : goal.nonzero_div-room
nonzero_div-room c =
    let a = c.args in
    let j = c.requires in
    let k = lent a.s a.words.now a.clauses.now a.irred.now a.core.now a.mid.now a.local.now a.rows.now a.counts.now a.rec.now (lent_by a.host) in
    omega (arith, vars_low everything k (sizes_judged everything k j) refl)

pub rows_lack-requires : goal.rows_lack-requires
rows_lack-requires c =
    let a = c.args in
    let j = c.requires in
    let k = lent a.s a.words.now a.clauses.now a.irred.now a.core.now a.mid.now a.local.now a.rows.now a.counts.now a.rec.now (lent_by a.host) in
    let R = rows_ready k j in
    record { room_in_bounds = (R.square, R.codes, R.few, R.counted); by_index = rows_at k j }

pub returns-then-rows_lack : goal.returns-then-rows_lack
returns-then-rows_lack c =
    let a = c.args in
    let j = c.requires in
    let k = lent a.s a.words.now a.clauses.now a.irred.now a.core.now a.mid.now a.local.now a.rows.now a.counts.now a.rec.now (lent_by a.host) in
    ten_rows k j c.if-level-gt0.false c.if-assigned-gt0.false c.rows_lack.ensures c.if-rows_lack.true

pub has_room-requires : goal.has_room-requires
has_room-requires c =
    let a = c.args in
    let j = c.requires in
    let k = lent a.s a.words.now a.clauses.now a.irred.now a.core.now a.mid.now a.local.now a.rows.now a.counts.now a.rec.now (lent_by a.host) in
    room_ready k j (none_lacks k j c.if-level-gt0.false c.if-assigned-gt0.false c.long_lacks.ensures c.if-long_lacks.false c.rows_lack.ensures c.if-rows_lack.false)

pub returns-then-has_room : goal.returns-then-has_room
returns-then-has_room c =
    let four_lengths : length c.args.s.tiers ≡ 4 = search rules in
    let a = c.args in
    let j = c.requires in
    let k = lent a.s a.words.now a.clauses.now a.irred.now a.core.now a.mid.now a.local.now a.rows.now a.counts.now a.rec.now (lent_by a.host) in
    number_is k j c.if-level-gt0.false c.if-assigned-gt0.false c.long_lacks.ensures c.if-long_lacks.false c.rows_lack.ensures c.if-rows_lack.false refl (four_lengths) c.has_room.ensures true c.if-has_room.true

pub returns : goal.returns
returns c =
    let four_lengths : length c.args.s.tiers ≡ 4 = search rules in
    let a = c.args in
    let j = c.requires in
    let k = lent a.s a.words.now a.clauses.now a.irred.now a.core.now a.mid.now a.local.now a.rows.now a.counts.now a.rec.now (lent_by a.host) in
    number_is k j c.if-level-gt0.false c.if-assigned-gt0.false c.long_lacks.ensures c.if-long_lacks.false c.rows_lack.ensures c.if-rows_lack.false refl (four_lengths) c.has_room.ensures false c.if-has_room.false
