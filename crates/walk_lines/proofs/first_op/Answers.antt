use mathlib.Core.Path.{◌∙◌, refl}
use Rattle.walk_lines.specs.Lines.{ops, codes}
use Rattle.walk_lines.proofs.Table.{op_start, op_found, op_next, op_none, patterns, pattern_short, pattern_matching}
use Rattle.walk_lines.proofs.first_op.Goals as goal

pub loop-op-init : goal.loop-op-init
unfolding ops codes patterns
loop-op-init c = record { table = record { are = refl }; heard = op_start c.requires }

pub matches-requires : goal.matches-requires
matches-requires c = (pattern_short c.loop-op.invariant.table _ _ c.loop-op-test.true, c.loop-op.invariant.heard.room)

pub returns-in-Some : goal.returns-in-Some
returns-in-Some c =
    let l = c.loop-op in
    op_found l.invariant.heard _ c.loop-op-test.true (pattern_matching l.invariant.table _ _ c.loop-op-test.true _ _ (rw c.in-Some.is at c.matches.ensures)) c.line_of.ensures

pub loop-op-preserved : goal.loop-op-preserved
loop-op-preserved c =
    let l = c.loop-op in
    let next = pattern_matching l.invariant.table _ _ c.loop-op-test.true _ _ (rw c.in_default.is at c.matches.ensures) in
    record { table = l.invariant.table; heard = op_next l.invariant.heard _ c.loop-op-test.true next (c.matches.auto.values ∙ l.invariant.heard.room) }

pub returns : goal.returns
returns c = op_none c.loop-op.invariant.heard c.loop-op-test.false
