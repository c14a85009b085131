use Rattle.std.proofs.Common.{◌∙◌, sym, arith}
use Rattle.laws.proofs.Folds.{all_none, all_more, all_fails, all_end}
use Rattle.judge_rows.proofs.Numbering.{entry_code, partner_code, row_codes, sparse_skip, sparse_test}
use Rattle.calls.specs.StorePasses.{row_length}
use Rattle.std.proofs.lemmas.Bool.{eq-eqb, ne_eqb}
use Rattle.judge_rows.proofs.RangedRows.entries_sparse.Goals as goal

pub loop-b-init : goal.loop-b-init
loop-b-init c = all_none _

pub len-requires : goal.len-requires
len-requires c = rw c.negated-other.ensures (partner_code c.args.self _ c.requires.0 _ c.row-row.ensures _ c.loop-b-test.true)

pub loop-b-preserved-then-row-len : goal.loop-b-preserved-then-row-len
loop-b-preserved-then-row-len c = all_more _ _ c.loop-b.invariant (sparse_skip _ _ _ c.row-row.ensures _ (rw (c.len.ensures, c.negated-other.ensures) at c.if-row-len.true))

pub bounds-times-b : goal.bounds-times-b
bounds-times-b c = omega (arith, c.args.self.rows.sized.most, entry_code c.args.self _ c.requires.0 _ c.row-row.ensures _ c.loop-b-test.true)

pub row-requires : goal.row-requires
row-requires c = rw c.negated-other.ensures (partner_code c.args.self _ c.requires.0 _ c.row-row.ensures _ c.loop-b-test.true)

pub occurs-requires : goal.occurs-requires
occurs-requires c = omega (arith, (row_codes c.args.self _ (partner_code c.args.self _ c.requires.0 _ c.row-row.ensures _ c.loop-b-test.true) _ (rw c.negated-other.ensures at c.row.ensures)).few)

pub returns-then-times-b : goal.returns-then-times-b
unfolding row_length
returns-then-times-b c =
    let test = sparse_test _ _ _ c.row-row.ensures c.loop-b.b-index _ c.negated-other.ensures (rw c.len.ensures at c.if-row-len.false) _ c.requires.1 _ c.row.ensures _ c.negated-not_c.ensures c.occurs.ensures in
    sym (all_fails _ _ _ (rw c.row-row.ensures at c.loop-b-test.true) (test ∙ ne_eqb _ _ c.if-times-b.true))

pub loop-b-preserved : goal.loop-b-preserved
loop-b-preserved c =
    let test = sparse_test _ _ _ c.row-row.ensures c.loop-b.b-index _ c.negated-other.ensures (rw c.len.ensures at c.if-row-len.false) _ c.requires.1 _ c.row.ensures _ c.negated-not_c.ensures c.occurs.ensures in
    all_more _ _ c.loop-b.invariant (test ∙ eq-eqb _ _ c.if-times-b.false)

pub returns : goal.returns
unfolding row_length
returns c = let e = c.row-row.ensures in all_end _ _ _ c.loop-b.invariant (rw e at c.loop-b.auto.b-index-end) (rw e at c.loop-b-test.false)
