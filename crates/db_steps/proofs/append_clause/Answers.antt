use Rattle.std.proofs.Common.{◌≡◌, refl, arith, length, rules}
use Rattle.db_steps.proofs.Long.{LongReady, long_ready, long_laid}
use Rattle.db_steps.proofs.append_clause.Goals as goal
use Rattle.db_steps.proofs.append_clause.Goals.{Start}

four : (c : Start) → length c.args.s.tiers ≡ 4
four c = search rules

ready : (c : Start) → LongReady c.args.s c.args.words.now c.args.clauses.now c.args.irred.now c.args.core.now c.args.mid.now c.args.local.now c.args.tier c.args.lits.now
ready c = long_ready _ _ _ _ _ _ _ _ _ _ (four c) c.requires.no_host_value c.requires.no_host_value_2

pub overflow_cast-offset : goal.overflow_cast-offset
overflow_cast-offset c = let r = ready (goal.at.overflow_cast-offset c).Start in omega arith

pub overflow_cast-tier : goal.overflow_cast-tier
overflow_cast-tier c = let r = ready (goal.at.overflow_cast-tier c).Start in omega arith

pub add_clause-requires : goal.add_clause-requires
add_clause-requires c = let r = ready (goal.at.add_clause-requires c).Start in (omega arith, omega arith, omega arith)

pub offset_bounds-clauses-s : goal.offset_bounds-clauses-s
offset_bounds-clauses-s c = let r = ready (goal.at.offset_bounds-clauses-s c).Start in omega arith

pub bounds-clauses-s : goal.bounds-clauses-s
bounds-clauses-s c = let r = ready (goal.at.bounds-clauses-s c).Start in omega arith

pub push-tiers-requires : goal.push-tiers-requires
push-tiers-requires c = let r = ready (goal.at.push-tiers-requires c).Start in record { tier_bound = (r.tier, r.used 0 (omega arith), r.used 1 (omega arith), r.used 2 (omega arith), r.used 3 (omega arith)); tier_in_bounds = r.tier_room }

pub offset_bounds-counts-tier : goal.offset_bounds-counts-tier
offset_bounds-counts-tier c = let r = ready (goal.at.offset_bounds-counts-tier c).Start in omega arith

pub bounds-counts-tier : goal.bounds-counts-tier
bounds-counts-tier c = let r = ready (goal.at.bounds-counts-tier c).Start in omega arith

pub overflow_add-counts : goal.overflow_add-counts
overflow_add-counts c = let r = ready (goal.at.overflow_add-counts c).Start in omega arith

pub bounds-counts-tier-2 : goal.bounds-counts-tier-2
bounds-counts-tier-2 c = let r = ready (goal.at.bounds-counts-tier-2 c).Start in omega arith

pub overflow_add-result-2 : goal.overflow_add-result-2
overflow_add-result-2 c = let r = ready (goal.at.overflow_add-result-2 c).Start in omega arith

pub overflow_add-result-3 : goal.overflow_add-result-3
overflow_add-result-3 c = let r = ready (goal.at.overflow_add-result-3 c).Start in omega arith

pub returns : goal.returns
returns c =
    let start = (goal.at.returns c).Start in
    let p = c.push-tiers.ensures in
    long_laid c.args.s c.args.words.now c.args.clauses.now c.args.irred.now c.args.core.now c.args.mid.now c.args.local.now c.args.tier c.args.glue c.args.lits.now (four start) (ready start) _ _ _ _ c.add_clause.ensures refl p.0 p.1
