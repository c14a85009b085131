use Rattle.std.proofs.Common.{refl, sym, arith}
use Rattle.laws.proofs.Sums.{sum_none}
use Rattle.laws.proofs.Totals.{sum_next}
use Rattle.judge_rows.proofs.Places.{sum_in, sum_with}
use Rattle.judge_rows.proofs.Rows.entries.Goals as goal

pub loop-c-init : goal.loop-c-init
loop-c-init c = sym (sum_none _)

pub overflow_add-total : goal.overflow_add-total
overflow_add-total c = omega (arith, sum_with _ _ _ c.args.self.sized _ c.loop-c-test.true c.loop-c.invariant c.len-total.ensures)

pub loop-c-preserved : goal.loop-c-preserved
loop-c-preserved c = sum_next _ _ c.loop-c.invariant c.len-total.ensures refl

pub returns-clause-small : goal.returns-clause-small
returns-clause-small c = sum_in _ _ _ c.args.self.sized _ c.loop-c.auto.c-end c.loop-c.invariant
