use native.Mathlib.Omega.{arith}
use Rattle.gc_steps.proofs.Collecting.{collect_ready, not_due, is_due, kept_laid, places_fit, places_inside, tiers_few, collect_laid}
use borrow.Author.Rules.{rules}
use Rattle.gc_steps.proofs.collect.Goals as goal

pub overflow_mul-s : goal.overflow_mul-s
overflow_mul-s c =
    let r = collect_ready _ _ _ _ _ _ _ _ (search rules) c.requires.level_value in
    omega (arith, r.garbage, r.used, r.most)

pub returns-then-s-used : goal.returns-then-s-used
returns-then-s-used c =
    let q = c.if-s-used.true in
    (kept_laid _ _ _ _ _ _ _ _ (search rules) c.requires.level_value q, not_due _ _ _ _ _ _ _ _ (search rules) c.requires.level_value q)

pub follow-requires : goal.follow-requires
follow-requires c =
    let r = collect_ready _ _ _ _ _ _ _ _ (search rules) c.requires.level_value in
    record { used_in_bounds = (r.used, r.most, r.listed); n_value = (r.placed, r.clauses_ok_lem); values_len = (r.values, r.kinds, r.reasons, r.levels) }

pub close_up-closed-requires : goal.close_up-closed-requires
close_up-closed-requires c =
    let r = collect_ready _ _ _ _ _ _ _ _ (search rules) c.requires.level_value in
    record { used_in_bounds = (r.used, r.most, r.listed); n_value = r.placed }

pub rebuild_tiers-tiers-requires : goal.rebuild_tiers-tiers-requires
rebuild_tiers-tiers-requires c =
    let r = collect_ready _ _ _ _ _ _ _ _ (search rules) c.requires.level_value in
    let e = c.close_up-closed.ensures in
    record { n_in_bounds = (places_fit _ _ _ _ _ _ _ _ (search rules) c.requires.level_value _ _ _ e.0 e.1 e.3, places_inside _ _ _ _ _ _ _ _ (search rules) c.requires.level_value _ _ _ e.0 e.1 e.3); by_index = (r.tiers, tiers_few _ _ _ _ _ _ _ _ (search rules) c.requires.level_value _ _ _ e.0 e.1 e.3) }

pub returns : goal.returns
returns c =
    let e = c.close_up-closed.ensures in
    let t = c.rebuild_tiers-tiers.ensures in
    let q = c.if-s-used.false in
    (collect_laid _ _ _ _ _ _ _ _ (search rules) c.requires.level_value q _ _ _ _ _ _ _ e.0 e.1 e.2 e.3 c.follow.ensures t.0 t.1, is_due _ _ _ _ _ _ _ _ (search rules) c.requires.level_value q)
