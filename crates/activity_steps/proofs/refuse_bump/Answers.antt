use Rattle.std.proofs.Common.{◌≡◌, ◌∙◌, sym, arith, length, rules}
use Rattle.activity_steps.proofs.Room.{room_is}
use Rattle.activity_steps.proofs.Bumping.{BumpReady, ListsReady, bump_ready, lists_ready, refused_dead, refused_kept, refused_same, refused_room, refused_full}
use Rattle.activity_steps.proofs.refuse_bump.Goals as goal
use Rattle.activity_steps.proofs.refuse_bump.Goals.{Start, Else-not-is_live}

four : (c : Start) → length c.args.s.tiers ≡ 4
four c = search rules

lists : (c : Start) → ListsReady c.args.s c.args.words.now c.args.clauses.now c.args.irred.now c.args.core.now c.args.mid.now c.args.local.now c.args.levels.now c.args.cref.0 (four c)
lists c = lists_ready _ _ _ _ _ _ _ _ _ (four c) c.requires

-- past the first test the clause is live
four_lists : (c : Else-not-is_live) → length c.args.s.tiers ≡ 4
four_lists c = search rules

ready : (c : Else-not-is_live) → BumpReady c.args.s c.args.words.now c.args.clauses.now c.args.irred.now c.args.core.now c.args.mid.now c.args.local.now c.args.levels.now c.args.cref.0 (four_lists c)
ready c = bump_ready _ _ _ _ _ _ _ _ _ _ c.requires (sym c.is_live.ensures ∙ c.if-not-is_live.false)

pub is_live-requires : goal.is_live-requires
is_live-requires c = let q = lists (goal.at.is_live-requires c).Start in record { used_in_bounds = (q.used, q.listed); n_value = q.placed }

pub returns-then-not-is_live : goal.returns-then-not-is_live
returns-then-not-is_live c = refused_dead _ _ _ _ _ _ _ _ _ (four (goal.at.returns-then-not-is_live c).Start) (sym c.is_live.ensures ∙ c.if-not-is_live.true)

pub glue_now-glue-requires : goal.glue_now-glue-requires
glue_now-glue-requires c = let r = ready (goal.at.glue_now-glue-requires c).Else-not-is_live in (r.ends, r.most, r.levelled)

pub bounds-words-offset : goal.bounds-words-offset
bounds-words-offset c = let r = ready (goal.at.bounds-words-offset c).Else-not-is_live in omega (arith, r.ends)

pub returns-then-before-glue : goal.returns-then-before-glue
returns-then-before-glue c =
    let q = lists (goal.at.returns-then-before-glue c).Start in
    let r = ready (goal.at.returns-then-before-glue c).Else-not-is_live in
    refused_kept _ _ _ _ _ _ _ _ _ _ r q.used q.listed _ c.glue_now-glue.ensures _ c.glue_of-before.ensures.0 c.if-before-glue.true

pub returns-then-old-tier : goal.returns-then-old-tier
returns-then-old-tier c =
    let q = lists (goal.at.returns-then-old-tier c).Start in
    let r = ready (goal.at.returns-then-old-tier c).Else-not-is_live in
    refused_same _ _ _ _ _ _ _ _ _ _ r q.used q.listed _ c.glue_now-glue.ensures _ c.glue_of-before.ensures.0 c.if-before-glue.false _ c.tier_chosen-tier.ensures.0 c.tier_chosen-tier.ensures.1 _ c.tier_of-old.ensures.0 c.if-old-tier.true

pub returns-then-s-tier : goal.returns-then-s-tier
returns-then-s-tier c =
    let q = lists (goal.at.returns-then-s-tier c).Start in
    let r = ready (goal.at.returns-then-s-tier c).Else-not-is_live in
    let e = c.room-room.ensures ∙ room_is c.args.irred.now c.args.core.now c.args.mid.now c.args.local.now c.tier_chosen-tier.result in
    refused_room _ _ _ _ _ _ _ _ _ _ r q.used q.listed _ c.glue_now-glue.ensures _ c.glue_of-before.ensures.0 c.if-before-glue.false _ c.tier_chosen-tier.ensures.0 c.tier_chosen-tier.ensures.1 _ c.tier_of-old.ensures.0 c.if-old-tier.false (omega arith)

pub returns-else-s-tier : goal.returns-else-s-tier
returns-else-s-tier c =
    let q = lists (goal.at.returns-else-s-tier c).Start in
    let r = ready (goal.at.returns-else-s-tier c).Else-not-is_live in
    let e = c.room-room.ensures ∙ room_is c.args.irred.now c.args.core.now c.args.mid.now c.args.local.now c.tier_chosen-tier.result in
    refused_full _ _ _ _ _ _ _ _ _ _ r q.used q.listed _ c.glue_now-glue.ensures _ c.glue_of-before.ensures.0 c.if-before-glue.false _ c.tier_chosen-tier.ensures.0 c.tier_chosen-tier.ensures.1 _ c.tier_of-old.ensures.0 c.if-old-tier.false (omega arith)
