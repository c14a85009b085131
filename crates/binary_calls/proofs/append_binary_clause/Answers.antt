use mathlib.Core.Path.{sym, ap, subst, ◌∙◌}
use Prim.Native.Nat.{ℕ, ◌*◌, ◌^◌, ◌<◌, ◌≤◌}
use native.Mathlib.Omega.{arith}
use lib.ListN.{length}
use Rattle.laws.specs.Lists.{at, more, lengths}
use Rattle.kinds.specs.Clauses.{neg}
use Rattle.kinds.specs.Layout.{rows_of, fill_rows}
use Rattle.calls.specs.Adding.{pair_pushed}
use Rattle.binary_calls.proofs.Pair.{step_ready, pair_laid}
use Rattle.binary_calls.proofs.append_binary_clause.Goals as goal

pub row_room-room-requires : goal.row_room-room-requires
row_room-room-requires c =
    let a = c.args in
    let r = (step_ready a.s a.rows.now a.counts.now a.lits.now c.requires.counts_value c.requires.counts_value_2).room in
    (r.low, r.high)

pub bounds-lits-0 : goal.bounds-lits-0
bounds-lits-0 c =
    let a = c.args in
    let two = (step_ready a.s a.rows.now a.counts.now a.lits.now c.requires.counts_value c.requires.counts_value_2).pair.two in
    omega arith

pub bounds-lits-1 : goal.bounds-lits-1
bounds-lits-1 c =
    let a = c.args in
    let two = (step_ready a.s a.rows.now a.counts.now a.lits.now c.requires.counts_value c.requires.counts_value_2).pair.two in
    omega arith

pub add_binary_clause-requires : goal.add_binary_clause-requires
add_binary_clause-requires c =
    let a = c.args in
    let y = step_ready a.s a.rows.now a.counts.now a.lits.now c.requires.counts_value c.requires.counts_value_2 in
    let e = sym c.row_room-room.ensures in
    record { a_in_bounds = (y.pair.first, y.pair.second, subst (λ (n : ℕ). length a.counts.now * n ≤ length a.rows.now) e y.room.whole, subst (λ (n : ℕ). n < 2 ^ 32) e y.room.room); by_index = λ x h. subst (λ (n : ℕ). at (more (neg (at a.lits.now 1)) (more (neg (at a.lits.now 0)) a.counts.now)) x ≤ n) e (y.fits x h) }

pub overflow_add-result : goal.overflow_add-result
overflow_add-result c =
    let a = c.args in
    let few = (step_ready a.s a.rows.now a.counts.now a.lits.now c.requires.counts_value c.requires.counts_value_2).room.few in
    omega arith

pub returns : goal.returns
returns c =
    let a = c.args in
    let w = c.add_binary_clause.ensures in
    let e = c.row_room-room.ensures in
    pair_laid a.s a.rows.now a.counts.now a.lits.now _ _ (w.0 ∙ ap (λ (n : ℕ). fill_rows n a.counts.now (pair_pushed (at a.lits.now 0) (at a.lits.now 1) (rows_of n a.counts.now a.rows.now)) a.rows.now) e) (w.1 ∙ ap (λ (n : ℕ). lengths (pair_pushed (at a.lits.now 0) (at a.lits.now 1) (rows_of n a.counts.now a.rows.now))) e)
