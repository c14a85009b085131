use mathlib.Core.Path.{refl}
use Prim.Native.Nat.{◌*◌, ◌<◌}
use native.Mathlib.Omega.{arith}
use lib.ListN.{length}
use Rattle.kinds.specs.Lent.{lent_rows, room_of}
use Rattle.calls.specs.Call.{implied, only_rows, parts}
use Rattle.replies.proofs.Ways.{judge_not_err}
use Rattle.binary_calls.proofs.Reading.{ready}
use Rattle.store_parts.proofs.Parts.{part_judged, implied_wrong, implied_read}
use Rattle.store_parts.proofs.implied.Goals as goal

pub returns-in-Err : goal.returns-in-Err
unfolding parts
returns-in-Err c =
    let a = c.args in
    let e = c.no_part.ensures in
    rw (e.1, e.2) (part_judged (implied a.lit.0) (lent_rows a.s a.rows.now a.counts.now) c.in-Err.refusal c.in-Err.ensures a.rows.now (a.lit.0 * room_of a.s.vars a.rows.now) e.0)

pub overflow_mul-s : goal.overflow_mul-s
overflow_mul-s c =
    let a = c.args in
    let j = judge_not_err only_rows (lent_rows a.s a.rows.now a.counts.now) _ c.judge_rows.ensures c.in_default.not-Err in
    let h = (ready a.s a.rows.now a.counts.now a.lit.0 0 j refl).high in
    omega arith

pub returns-then-s-code : goal.returns-then-s-code
returns-then-s-code c =
    let a = c.args in
    let e = c.no_part-then-s-code.ensures in
    let j = judge_not_err only_rows (lent_rows a.s a.rows.now a.counts.now) _ c.judge_rows.ensures c.in_default.not-Err in
    rw (e.0, e.1, e.2) (implied_wrong a.s a.rows.now a.counts.now a.lit.0 0 j refl c.if-s-code.true)

pub overflow_mul-room : goal.overflow_mul-room
overflow_mul-room c =
    let a = c.args in
    let j = judge_not_err only_rows (lent_rows a.s a.rows.now a.counts.now) _ c.judge_rows.ensures c.in_default.not-Err in
    let h = (ready a.s a.rows.now a.counts.now a.lit.0 0 j refl).high in
    omega arith

pub word-requires : goal.word-requires
word-requires c =
    let a = c.args in
    let j = judge_not_err only_rows (lent_rows a.s a.rows.now a.counts.now) _ c.judge_rows.ensures c.in_default.not-Err in
    let long = (ready a.s a.rows.now a.counts.now a.lit.0 0 j refl).long in
    let below = c.if-s-code.false in
    let h : a.lit.0 < length a.counts.now = omega arith in
    h

pub returns : goal.returns
returns c =
    let a = c.args in
    let j = judge_not_err only_rows (lent_rows a.s a.rows.now a.counts.now) _ c.judge_rows.ensures c.in_default.not-Err in
    implied_read a.s a.rows.now a.counts.now a.lit.0 0 j refl c.if-s-code.false _ c.word.ensures.0
