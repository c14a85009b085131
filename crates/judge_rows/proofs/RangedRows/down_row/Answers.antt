use Rattle.std.proofs.Common.{◌∙◌, sym, arith}
use Rattle.laws.proofs.Folds.{count_none}
use Rattle.judge_rows.proofs.Numbering.{partner_code, row_codes, down_few, down_yes, down_no, down_end}
use Rattle.judge_rows.proofs.RangedRows.down_row.Goals as goal
use Rattle.judge_rows.proofs.RangedRows.down_row.Goals.{then-len-row, else-len-row}

pub loop-b-init : goal.loop-b-init
loop-b-init c = sym (count_none _)

pub len-requires : goal.len-requires
len-requires c = rw c.negated-other.ensures (partner_code c.args.self _ c.requires _ c.row-row.ensures _ c.loop-b-test.true)

pub overflow_add-n : goal.overflow_add-n
overflow_add-n c = omega (arith, down_few _ _ _ c.row-row.ensures _ c.loop-b.invariant, (row_codes c.args.self _ c.requires _ c.row-row.ensures).few)

pub loop-b-preserved : goal.loop-b-preserved
loop-b-preserved c =
    let len = rw c.negated-other.ensures at c.len.ensures in
    elim c.if-len-row.branch [
      | then-len-row w ↦ w.n-is ∙ down_yes _ _ _ c.row-row.ensures _ c.loop-b.invariant (omega arith)
      | else-len-row w ↦ w.n-is ∙ down_no _ _ _ c.row-row.ensures _ c.loop-b.invariant (omega arith)
    ]

pub returns : goal.returns
returns c = down_end _ _ _ c.row-row.ensures _ c.loop-b.invariant (omega arith)
