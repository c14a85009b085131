use Rattle.std.proofs.Common.{◌≡◌, ◌^◌, refl, arith, length, rules}
use Rattle.db_steps.proofs.Tiering.{other_count}
use Rattle.activity_steps.proofs.Bumping.{BumpReady, bump_ready, bump_live, bump_kept, bump_same, bump_room, bump_moved, old_tier}
use Rattle.activity_steps.proofs.bump.Goals as goal
use Rattle.activity_steps.proofs.bump.Goals.{Start}

four : (c : Start) → length c.args.s.tiers ≡ 4
four c = search rules

ready : (c : Start) → BumpReady c.args.s c.args.words.now c.args.clauses.now c.args.irred.now c.args.core.now c.args.mid.now c.args.local.now c.args.levels.now c.args.cref.0 (four c)
ready c = bump_ready _ _ _ _ _ _ _ _ _ _ c.requires.levels_value (bump_live _ _ _ _ _ _ _ _ _ (four c) c.requires.levels_value_2)

pub glue_now-glue-requires : goal.glue_now-glue-requires
glue_now-glue-requires c = let r = ready (goal.at.glue_now-glue-requires c).Start in (r.ends, r.most, r.levelled)

pub bump_activity-left-requires : goal.bump_activity-left-requires
bump_activity-left-requires c = let r = ready (goal.at.bump_activity-left-requires c).Start in (r.bounded, r.inside, r.activity, r.away, r.bump)

pub activate-requires : goal.activate-requires
activate-requires c = let r = ready (goal.at.activate-requires c).Start in omega (arith, r.ends)

pub bounds-words-offset : goal.bounds-words-offset
bounds-words-offset c = let r = ready (goal.at.bounds-words-offset c).Start in omega (arith, r.ends)

pub returns-then-before-glue : goal.returns-then-before-glue
returns-then-before-glue c =
    let r = ready (goal.at.returns-then-before-glue c).Start in
    bump_kept _ _ _ _ _ _ _ _ _ _ r _ c.bump_activity-left.ensures _ c.activate.ensures _ c.glue_now-glue.ensures _ c.glue_of-before.ensures.0 c.if-before-glue.true

pub store_glue-requires : goal.store_glue-requires
store_glue-requires c = let r = ready (goal.at.store_glue-requires c).Start in omega (arith, r.ends)

pub returns-then-old-tier : goal.returns-then-old-tier
returns-then-old-tier c =
    let r = ready (goal.at.returns-then-old-tier c).Start in
    bump_same _ _ _ _ _ _ _ _ _ _ r _ c.bump_activity-left.ensures _ c.activate.ensures _ c.glue_now-glue.ensures _ c.glue_of-before.ensures.0 c.if-before-glue.false _ c.store_glue.ensures _ c.tier_chosen-tier.ensures.0 _ c.tier_at-old.ensures.0 c.if-old-tier.true

pub push-next-requires : goal.push-next-requires
push-next-requires c =
    let r = ready (goal.at.push-next-requires c).Start in
    record {
      tier_bound = (c.tier_chosen-tier.ensures.1, r.used 0 (omega arith), r.used 1 (omega arith), r.used 2 (omega arith), r.used 3 (omega arith));
      tier_in_bounds = bump_room _ _ _ _ _ _ _ _ _ _ r _ c.bump_activity-left.ensures _ c.activate.ensures _ c.glue_now-glue.ensures _ c.glue_of-before.ensures.0 c.if-before-glue.false _ c.store_glue.ensures _ c.tier_chosen-tier.ensures.0 _ c.tier_at-old.ensures.0 c.if-old-tier.false c.requires.levels_value_2 c.tier_chosen-tier.ensures.1;
    }

pub overflow_sub-next : goal.overflow_sub-next
overflow_sub-next c =
    let r = ready (goal.at.overflow_sub-next c).Start in
    rw (old_tier _ _ _ _ _ _ _ _ _ _ r _ c.bump_activity-left.ensures _ c.activate.ensures _ c.glue_now-glue.ensures _ c.glue_of-before.ensures.0 c.if-before-glue.false _ c.store_glue.ensures _ c.tier_chosen-tier.ensures.0 _ c.tier_at-old.ensures.0 c.bump_activity-left.auto.words) r.counted

pub overflow_add-next : goal.overflow_add-next
overflow_add-next c =
    let r = ready (goal.at.overflow_add-next c).Start in
    let f = other_count c.args.s.counts c.tier_at-old.result c.tier_chosen-tier.result (2 ^ 22) c.if-old-tier.false (r.count _ c.tier_chosen-tier.ensures.1) in omega arith

pub returns : goal.returns
returns c =
    let r = ready (goal.at.returns c).Start in
    bump_moved _ _ _ _ _ _ _ _ _ _ r _ c.bump_activity-left.ensures _ c.activate.ensures _ c.glue_now-glue.ensures _ c.glue_of-before.ensures.0 c.if-before-glue.false _ c.store_glue.ensures _ c.tier_chosen-tier.ensures.0 _ c.tier_at-old.ensures.0 c.if-old-tier.false _ _ c.with_tier.ensures refl _ _ c.push-next.ensures.0 c.push-next.ensures.1
