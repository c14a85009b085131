use Rattle.std.proofs.Common.{◌≡◌, [], ◌∷◌, ◌+◌, refl, ap, arith, length, set, rules}
use Rattle.kinds.specs.Lent.{lent_by}
use Rattle.db_steps.proofs.Striking.{StrikeReady, strike_ready, strike_laid}
use Rattle.db_steps.proofs.strike_clause.Goals as goal
use Rattle.db_steps.proofs.strike_clause.Goals.{Start}

four : (c : Start) → length c.args.s.tiers ≡ 4
four c = search rules

ready : (c : Start) → StrikeReady c.args.s c.args.words.now c.args.clauses.now c.args.rec.now (c.args.irred.now ∷ c.args.core.now ∷ c.args.mid.now ∷ c.args.local.now ∷ []) (lent_by c.args.host) c.args.cref.0
ready c = strike_ready _ _ _ _ _ _ _ _ _ _ (four c) c.requires.level_value c.requires.level_value_2

pub strike-recorded-requires : goal.strike-recorded-requires
strike-recorded-requires c = let r = ready (goal.at.strike-recorded-requires c).Start in (omega arith, omega arith)

pub bounds-words-offset : goal.bounds-words-offset
bounds-words-offset c = let r = ready (goal.at.bounds-words-offset c).Start in omega arith

pub bounds-words-offset-2 : goal.bounds-words-offset-2
bounds-words-offset-2 c = let r = ready (goal.at.bounds-words-offset-2 c).Start in omega arith

pub bounds-words-offset-3 : goal.bounds-words-offset-3
bounds-words-offset-3 c = let r = ready (goal.at.bounds-words-offset-3 c).Start in omega arith

pub overflow_sub-counts : goal.overflow_sub-counts
overflow_sub-counts c = let r = ready (goal.at.overflow_sub-counts c).Start in rw c.tier_of-tier.ensures.0 r.counted

pub overflow_add-result-2 : goal.overflow_add-result-2
overflow_add-result-2 c = let r = ready (goal.at.overflow_add-result-2 c).Start in omega arith

pub returns : goal.returns
returns c =
    let start = (goal.at.returns c).Start in
    strike_laid c.args.s c.args.words.now c.args.clauses.now c.args.irred.now c.args.core.now c.args.mid.now c.args.local.now c.args.rec.now _ c.args.cref.0 (four start) (ready start) _ _ _ _ _ c.tier_of-tier.ensures.0 refl
    (ap (set c.args.words.now (c.args.cref.0 + 1)) c.with_deleted.ensures) c.strike-recorded.ensures
