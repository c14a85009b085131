use Rattle.std.proofs.Common.{◌≡◌, ◌+◌, ◌≤◌, ◌^◌, sym, ap, ◌∙◌, arith, length, set, rules}
use Rattle.laws.specs.Lists.{at, less}
use Rattle.db_steps.proofs.Tiering.{TierReady, tier_ready, tier_kept, tier_laid, other_count}
use Rattle.db_steps.proofs.change_tier.Goals as goal
use Rattle.db_steps.proofs.change_tier.Goals.{Start}

four : (c : Start) → length c.args.s.tiers ≡ 4
four c = search rules

ready : (c : Start) → TierReady c.args.s c.args.words.now c.args.clauses.now c.args.irred.now c.args.core.now c.args.mid.now c.args.local.now c.args.cref.0 c.args.tier
ready c = tier_ready _ _ _ _ _ _ _ _ _ (four c) c.requires.no_host_value c.requires.no_host_value_2

pub bounds-words-place : goal.bounds-words-place
bounds-words-place c = let r = ready (goal.at.bounds-words-place c).Start in omega arith

pub returns-then-old-tier : goal.returns-then-old-tier
returns-then-old-tier c = tier_kept _ _ _ _ _ _ _ _ _ (four (goal.at.returns-then-old-tier c).Start) c.requires.no_host_value (sym c.tier_of-old.ensures.0 ∙ c.if-old-tier.true)

pub overflow_cast-tier : goal.overflow_cast-tier
overflow_cast-tier c = let r = ready (goal.at.overflow_cast-tier c).Start in omega arith

pub with_tier-requires : goal.with_tier-requires
with_tier-requires c = let r = ready (goal.at.with_tier-requires c).Start in omega arith

pub bounds-words-place-2 : goal.bounds-words-place-2
bounds-words-place-2 c = let r = ready (goal.at.bounds-words-place-2 c).Start in omega arith

pub push-tiers-requires : goal.push-tiers-requires
push-tiers-requires c = let r = ready (goal.at.push-tiers-requires c).Start in record { tier_bound = (r.tier, r.used 0 (omega arith), r.used 1 (omega arith), r.used 2 (omega arith), r.used 3 (omega arith)); tier_in_bounds = r.room (λ e. c.if-old-tier.false (c.tier_of-old.ensures.0 ∙ e)) }

pub overflow_sub-counts : goal.overflow_sub-counts
overflow_sub-counts c = let r = ready (goal.at.overflow_sub-counts c).Start in rw c.tier_of-old.ensures.0 r.counted

pub bounds-counts-tier : goal.bounds-counts-tier
bounds-counts-tier c = let r = ready (goal.at.bounds-counts-tier c).Start in omega arith

pub overflow_add-counts : goal.overflow_add-counts
overflow_add-counts c =
    let r = ready (goal.at.overflow_add-counts c).Start in
    let q : at (less c.tier_of-old.result c.args.s.counts) c.args.tier ≤ 2 ^ 22 = other_count _ _ _ (2 ^ 22) c.if-old-tier.false r.count in
    omega arith

pub bounds-counts-tier-2 : goal.bounds-counts-tier-2
bounds-counts-tier-2 c = let r = ready (goal.at.bounds-counts-tier-2 c).Start in omega arith

pub returns : goal.returns
returns c =
    let start = (goal.at.returns c).Start in
    let p = c.push-tiers.ensures in
    tier_laid c.args.s c.args.words.now c.args.clauses.now c.args.irred.now c.args.core.now c.args.mid.now c.args.local.now c.args.cref.0 c.args.tier (four start) (ready start) _ c.tier_of-old.ensures.0 c.if-old-tier.false _ _ _
    (ap (set c.args.words.now (c.args.cref.0 + 1)) c.with_tier.ensures) p.0 p.1
