use mathlib.Core.Path.{sym}
use native.Mathlib.Nat.{add-zero}
use borrow.Author.Tests.{lt-leb}
use Rattle.laws.proofs.Parts.{in_front}
use Rattle.prove_units.specs.Units.{trail_lines}
use Prim.Native.Nat.{◌+◌}
use Rattle.prove_units.proofs.Trail.{size_next, size_small, lines_le}
use native.Mathlib.Omega.{arith}
use Rattle.prove_units.proofs.lines_fit.Goals as goal

pub loop-lit-init : goal.loop-lit-init
unfolding trail_lines
loop-lit-init c = (sym (add-zero _), c.requires.recorded_le_cap.0)

pub overflow_add-recorded : goal.overflow_add-recorded
overflow_add-recorded c =
    let e = in_front _ _ _ c.loop-lit-test.true in
    omega (arith, c.loop-lit.invariant.1, c.requires.recorded_le_cap.1, size_small c.requires.trail_ready e.0 e.1 c.var.ensures c.node_at-node.ensures c.line_size-recorded.ensures)

pub returns-then-cap-recorded : goal.returns-then-cap-recorded
returns-then-cap-recorded c =
    let e = in_front _ _ _ c.loop-lit-test.true in
    let s = size_next c.requires.trail_ready e.0 e.1 c.var.ensures c.node_at-node.ensures c.args.recorded c.loop-lit.invariant.0 c.line_size-recorded.ensures in
    let m = lines_le c.args.words.now c.args.kinds.now c.args.reasons.now c.args.trail.now (c.loop-lit.lit-index + 1) c.args.n (omega (arith, e.0)) in
    sym (lt-leb _ _ (omega (arith, s, m, c.if-cap-recorded.true)))

pub loop-lit-preserved : goal.loop-lit-preserved
loop-lit-preserved c =
    let e = in_front _ _ _ c.loop-lit-test.true in
    (size_next c.requires.trail_ready e.0 e.1 c.var.ensures c.node_at-node.ensures _ c.loop-lit.invariant.0 c.line_size-recorded.ensures, c.if-cap-recorded.false)
