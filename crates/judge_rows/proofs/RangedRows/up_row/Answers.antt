use Rattle.std.proofs.Common.{arith}
use Rattle.judge_rows.proofs.Numbering.{partner_code, ups_in, ups_small, up_skip, up_more, ups_next}
use Rattle.judge_rows.proofs.RangedRows.up_row.Goals as goal
use Rattle.judge_rows.proofs.RangedRows.up_row.Goals.{then-row-len, else-row-len}

pub loop-b-init : goal.loop-b-init
loop-b-init c = ups_in _ _ _ c.row-row.ensures _ c.requires.1

pub len-requires : goal.len-requires
len-requires c = rw c.negated-other.ensures (partner_code c.args.self _ c.requires.0 _ c.row-row.ensures _ c.loop-b-test.true)

pub bounds-ups-other : goal.bounds-ups-other
bounds-ups-other c = omega (arith, c.args.self.rows.sized.most, c.negated-other.ensures, partner_code c.args.self _ c.requires.0 _ c.row-row.ensures _ c.loop-b-test.true)

pub overflow_add-ups : goal.overflow_add-ups
overflow_add-ups c = rw c.negated-other.ensures (omega (arith, ups_small c.args.self _ c.requires.0 _ c.row-row.ensures _ c.loop-b-test.true _ c.loop-b.invariant))

pub bounds-ups-other-then-row-len : goal.bounds-ups-other-then-row-len
bounds-ups-other-then-row-len c = omega (arith, c.args.self.rows.sized.most, c.negated-other.ensures, partner_code c.args.self _ c.requires.0 _ c.row-row.ensures _ c.loop-b-test.true)

pub loop-b-preserved : goal.loop-b-preserved
loop-b-preserved c =
    let len = rw c.negated-other.ensures at c.len.ensures in
    elim c.if-row-len.branch [
      | then-row-len w ↦ rw (w.ups-is, c.negated-other.ensures) (up_more _ _ _ _ _ c.loop-b.invariant (omega arith) (omega (arith, c.args.self.rows.sized.most, partner_code c.args.self _ c.requires.0 _ c.row-row.ensures _ c.loop-b-test.true)))
      | else-row-len w ↦ rw w.ups-is (up_skip _ _ _ _ _ c.loop-b.invariant (omega arith))
    ]

pub returns : goal.returns
returns c = ups_next _ _ _ c.row-row.ensures _ _ c.loop-b.invariant (omega arith)
