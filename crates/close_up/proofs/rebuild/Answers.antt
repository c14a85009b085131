use Rattle.std.proofs.Common.{sym, ◌∙◌, arith}
use Rattle.close_up.proofs.Rebuilding.{rebuild_skip, room_for, rebuild_put, rebuilt_count, rebuilt}
use Rattle.close_up.proofs.rebuild.Goals as goal
use Rattle.close_up.proofs.rebuild.Goals.{then-tier_at-tier, else-tier_at-tier}

pub bounds-list-k : goal.bounds-list-k
bounds-list-k c = let room = room_for c.requires.n_in_bounds.1 c.requires.clauses_len_bound c.loop-offset.invariant c.loop-offset-test.true (sym c.tier_at.ensures.0 ∙ c.if-tier_at-tier.true) in omega arith

pub loop-offset-preserved : goal.loop-offset-preserved
loop-offset-preserved c =
    let fits = c.requires.n_in_bounds.1 in
    let few = c.requires.clauses_len_bound in
    elim c.if-tier_at-tier.branch [
      | then-tier_at-tier w ↦ rw (w.list-is, w.k-is) (rebuild_put fits few c.loop-offset.invariant c.loop-offset-test.true (sym c.tier_at.ensures.0 ∙ w.if-tier_at-tier.true))
      | else-tier_at-tier w ↦ rw (w.list-is, w.k-is) (rebuild_skip fits few c.loop-offset.invariant c.loop-offset-test.true (λ e. w.if-tier_at-tier.false (c.tier_at.ensures.0 ∙ e)))
    ]

pub returns : goal.returns
returns c =
    let fits = c.requires.n_in_bounds.1 in
    let few = c.requires.clauses_len_bound in
    (c.clear.ensures ∙ rebuilt fits few c.loop-offset.invariant c.loop-offset-test.false, rebuilt_count fits few c.loop-offset.invariant c.loop-offset-test.false)
