use borrow.Author.Rules.{rules}
use Rattle.close_up.proofs.Cases.{not_true, not_long, other_clause, this_clause}
use Rattle.close_up.proofs.redirect.Goals as goal

pub returns-in_default : goal.returns-in_default
returns-in_default c = not_true _ _ _ c.args.levels.now _ _ _ c.lit_value-value.ensures (search rules)

pub returns-in_default-reason : goal.returns-in_default-reason
returns-in_default-reason c = not_long _ _ _ c.args.levels.now _ _ _ c.lit_value-value.ensures (search rules) _ c.var-var.ensures _ c.node_at-node.ensures c.in_default-reason.not-Long

pub returns-then-cref-offset : goal.returns-then-cref-offset
returns-then-cref-offset c = this_clause _ _ _ c.args.levels.now _ _ _ c.lit_value-value.ensures (search rules) _ c.var-var.ensures _ c.node_at-node.ensures c.in-Long.cref c.in-Long.is c.if-cref-offset.true _ c.put.ensures

pub returns-else-cref-offset : goal.returns-else-cref-offset
returns-else-cref-offset c = other_clause _ _ _ c.args.levels.now _ _ _ c.lit_value-value.ensures (search rules) _ c.var-var.ensures _ c.node_at-node.ensures c.in-Long.cref c.in-Long.is c.if-cref-offset.false
