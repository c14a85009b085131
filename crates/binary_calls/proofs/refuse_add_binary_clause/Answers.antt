use mathlib.Core.Path.{sym, subst, ap}
use Prim.Native.Nat.{ℕ, ◌<◌}
use native.Mathlib.Omega.{arith}
use lib.ListN.{length}
use Rattle.laws.specs.Lists.{at}
use Rattle.laws.proofs.Tests.{passed, failed}
use Rattle.kinds.specs.Clauses.{neg}
use Rattle.kinds.specs.Lent.{room_of}
use Rattle.binary_calls.proofs.Rows.{rows_ready}
use Rattle.binary_calls.proofs.Pair.{pair_ready, full_read, free_read, length_wrong, lits_wrong, own_wrong, first_full, second_full, none_full}
use mathlib.Core.Bool.{not}
use Rattle.binary_calls.proofs.refuse_add_binary_clause.Goals as goal

pub returns-then-lits-ne2 : goal.returns-then-lits-ne2
returns-then-lits-ne2 c =
    let a = c.args in
    own_wrong a.s a.rows.now a.counts.now a.lits.now (length_wrong a.s a.rows.now a.counts.now a.lits.now c.if-lits-ne2.true)

pub lits_pass-requires : goal.lits_pass-requires
lits_pass-requires c =
    let a = c.args in
    (rows_ready a.s a.rows.now a.counts.now c.requires).high

pub returns-then-not-lits_pass : goal.returns-then-not-lits_pass
returns-then-not-lits_pass c =
    let a = c.args in
    own_wrong a.s a.rows.now a.counts.now a.lits.now (lits_wrong a.s a.rows.now a.counts.now a.lits.now (failed c.lits_pass.ensures (ap not c.if-not-lits_pass.true)))

pub row_room-room-requires : goal.row_room-room-requires
row_room-room-requires c =
    let a = c.args in
    let r = rows_ready a.s a.rows.now a.counts.now c.requires in
    (r.low, r.high)

pub row_full-requires : goal.row_full-requires
row_full-requires c =
    let a = c.args in
    subst (λ (n : ℕ). n < length a.counts.now) (sym c.negated-not_a.ensures) (pair_ready a.s a.rows.now a.counts.now a.lits.now (rows_ready a.s a.rows.now a.counts.now c.requires) c.if-lits-ne2.false (passed c.lits_pass.ensures (ap not c.if-not-lits_pass.false))).first

pub returns-then-row_full : goal.returns-then-row_full
returns-then-row_full c =
    let a = c.args in
    first_full a.s a.rows.now a.counts.now a.lits.now c.requires c.if-lits-ne2.false (passed c.lits_pass.ensures (ap not c.if-not-lits_pass.false)) (full_read a.counts.now (room_of a.s.vars a.rows.now) (neg (at a.lits.now 0)) c.row_full.ensures c.row_room-room.ensures c.negated-not_a.ensures c.if-row_full.true)

pub row_full-requires-2 : goal.row_full-requires-2
row_full-requires-2 c =
    let a = c.args in
    subst (λ (n : ℕ). n < length a.counts.now) (sym c.negated-not_b.ensures) (pair_ready a.s a.rows.now a.counts.now a.lits.now (rows_ready a.s a.rows.now a.counts.now c.requires) c.if-lits-ne2.false (passed c.lits_pass.ensures (ap not c.if-not-lits_pass.false))).second

pub returns-then-row_full-2 : goal.returns-then-row_full-2
returns-then-row_full-2 c =
    let a = c.args in
    second_full a.s a.rows.now a.counts.now a.lits.now c.requires c.if-lits-ne2.false (passed c.lits_pass.ensures (ap not c.if-not-lits_pass.false)) (full_read a.counts.now (room_of a.s.vars a.rows.now) (neg (at a.lits.now 1)) c.row_full-2.ensures c.row_room-room.ensures c.negated-not_b.ensures c.if-row_full-2.true)

pub returns : goal.returns
returns c =
    let a = c.args in
    none_full a.s a.rows.now a.counts.now a.lits.now c.requires c.if-lits-ne2.false (passed c.lits_pass.ensures (ap not c.if-not-lits_pass.false)) (free_read a.counts.now (room_of a.s.vars a.rows.now) (neg (at a.lits.now 0)) c.row_full.ensures c.row_room-room.ensures c.negated-not_a.ensures c.if-row_full.false) (free_read a.counts.now (room_of a.s.vars a.rows.now) (neg (at a.lits.now 1)) c.row_full-2.ensures c.row_room-room.ensures c.negated-not_b.ensures c.if-row_full-2.false)
