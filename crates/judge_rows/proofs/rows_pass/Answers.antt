use Rattle.judge_rows.proofs.Ways.{pass_range, pass_symmetric, pass_test, pass_many}
use Rattle.judge_rows.proofs.rows_pass.Goals as goal

pub returns-then-not-in_range : goal.returns-then-not-in_range
returns-then-not-in_range c = pass_range _ c.in_range.ensures c.if-not-in_range.true

pub returns-then-not-symmetric : goal.returns-then-not-symmetric
returns-then-not-symmetric c = pass_symmetric _ c.in_range.ensures c.if-not-in_range.false c.symmetric.ensures c.if-not-symmetric.true

pub returns-then-binary-total : goal.returns-then-binary-total
returns-then-binary-total c = pass_test _ c.in_range.ensures c.if-not-in_range.false c.symmetric.ensures c.if-not-symmetric.false c.entries-total.ensures.value

pub returns-else-binary-total : goal.returns-else-binary-total
returns-else-binary-total c = pass_many _ c.in_range.ensures c.if-not-in_range.false c.symmetric.ensures c.if-not-symmetric.false c.entries-total.ensures.value c.if-binary-total.false
