use native.Mathlib.Omega.{arith}
use Rattle.binary_calls.proofs.Reading.{part_wrong, part_read, ready}
use mathlib.Core.Path.{refl, sym, subst, ◌∙◌, ap}
use Prim.Native.Nat.{ℕ, ◌≤◌, ◌<◌, ◌*◌}
use lib.ListN.{length}
use Rattle.laws.specs.Lists.{at, list_at}
use Rattle.kinds.specs.Layout.{rows_of}
use Rattle.kinds.specs.Lent.{lent_rows}
use Rattle.calls.specs.Call.{implied, only_rows, parts}
use Rattle.replies.proofs.Ways.{judge_erred, judge_fine}
use Rattle.binary_calls.proofs.implied.Goals as goal

pub returns-then-is_err : goal.returns-then-is_err
unfolding parts
returns-then-is_err c =
    let a = c.args in
    judge_erred (implied a.lit.0) (lent_rows a.s a.rows.now a.counts.now) c.judge_rows.result c.judge_rows.ensures (sym c.is_err.ensures.value ∙ c.if-is_err.true)

pub overflow_mul-s : goal.overflow_mul-s
overflow_mul-s c =
    let a = c.args in
    let r = ready a.s a.rows.now a.counts.now a.lit.0 0 (judge_fine only_rows (lent_rows a.s a.rows.now a.counts.now) c.judge_rows.result c.judge_rows.ensures (sym c.is_err.ensures.value ∙ c.if-is_err.false)) refl in
    let h = r.high in
    omega arith

pub returns-then-s-lit : goal.returns-then-s-lit
returns-then-s-lit c =
    let a = c.args in
    part_wrong a.s a.rows.now a.counts.now a.lit.0 0 (judge_fine only_rows (lent_rows a.s a.rows.now a.counts.now) c.judge_rows.result c.judge_rows.ensures (sym c.is_err.ensures.value ∙ c.if-is_err.false)) refl c.if-s-lit.true

pub row_room-room-requires : goal.row_room-room-requires
row_room-room-requires c =
    let a = c.args in
    let r = ready a.s a.rows.now a.counts.now a.lit.0 0 (judge_fine only_rows (lent_rows a.s a.rows.now a.counts.now) c.judge_rows.result c.judge_rows.ensures (sym c.is_err.ensures.value ∙ c.if-is_err.false)) refl in
    (r.low, r.high)

pub implied-requires : goal.implied-requires
implied-requires c =
    let a = c.args in
    let r = ready a.s a.rows.now a.counts.now a.lit.0 0 (judge_fine only_rows (lent_rows a.s a.rows.now a.counts.now) c.judge_rows.result c.judge_rows.ensures (sym c.is_err.ensures.value ∙ c.if-is_err.false)) refl in
    let long = r.long in
    let below = c.if-s-lit.false in
    let h : a.lit.0 < length a.counts.now = omega arith in
    let e = sym c.row_room-room.ensures in
    (h, subst (λ (n : ℕ). at a.counts.now a.lit.0 ≤ n) e (r.within a.lit.0 h), subst (λ (n : ℕ). length a.counts.now * n ≤ length a.rows.now) e r.whole)

pub returns : goal.returns
returns c =
    let a = c.args in
    part_read a.s a.rows.now a.counts.now a.lit.0 0 (judge_fine only_rows (lent_rows a.s a.rows.now a.counts.now) c.judge_rows.result c.judge_rows.ensures (sym c.is_err.ensures.value ∙ c.if-is_err.false)) refl c.if-s-lit.false _ (c.implied.ensures ∙ ap (λ (n : ℕ). list_at (rows_of n a.counts.now a.rows.now) a.lit.0) c.row_room-room.ensures)
