use mathlib.Core.Path.{◌≡◌, ◌∙◌}
use native.Mathlib.Omega.{arith}
use lib.ListN.{length}
use Rattle.db.proofs.Adding.{words_used, no_words, no_entry, by_tier_lem, room_length}
use borrow.Author.Rules.{rules}
use Rattle.db.proofs.long_fits.Goals as goal

pub overflow_sub-words : goal.overflow_sub-words
overflow_sub-words c =
    let four_lengths : length c.args.s.tiers ≡ 4 = search rules in
    let a = c.args in
    words_used a.s a.words.now a.clauses.now a.irred.now a.core.now a.mid.now a.local.now a.tier a.glue a.lits.now (four_lengths) c.requires.no_host_value c.requires.tier_bound.0

pub returns-then-words-s : goal.returns-then-words-s
returns-then-words-s c =
    let four_lengths : length c.args.s.tiers ≡ 4 = search rules in
    let a = c.args in
    no_words a.s a.words.now a.clauses.now a.irred.now a.core.now a.mid.now a.local.now a.tier a.glue a.lits.now (four_lengths) c.requires.no_host_value c.requires.tier_bound.0 c.if-words-s.true

pub returns-then-clauses-s : goal.returns-then-clauses-s
returns-then-clauses-s c =
    let four_lengths : length c.args.s.tiers ≡ 4 = search rules in
    let a = c.args in
    no_entry a.s a.words.now a.clauses.now a.irred.now a.core.now a.mid.now a.local.now a.tier a.glue a.lits.now (four_lengths) c.requires.no_host_value c.requires.tier_bound.0 c.if-clauses-s.true

pub returns : goal.returns
returns c =
    let four_lengths : length c.args.s.tiers ≡ 4 = search rules in
    let a = c.args in
    by_tier_lem a.s a.words.now a.clauses.now a.irred.now a.core.now a.mid.now a.local.now a.tier a.glue a.lits.now (four_lengths) c.requires.no_host_value c.requires.tier_bound.0 (let q = c.if-words-s.false in omega arith) c.if-clauses-s.false c.room.result
    (c.room.ensures ∙ room_length a.irred.now a.core.now a.mid.now a.local.now a.tier)
