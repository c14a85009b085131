use mathlib.Core.Path.{◌≡◌, ◌∙◌}
use lib.ListN.{length}
use Rattle.db.proofs.Adding.{room_length}
use Rattle.db.proofs.Tiering.{room_equal, room_other}
use borrow.Author.Rules.{rules}
use Rattle.db.proofs.tier_fits.Goals as goal

pub returns-then-old-tier : goal.returns-then-old-tier
returns-then-old-tier c =
    let four_lengths : length c.args.s.tiers ≡ 4 = search rules in
    let a = c.args in
    room_equal a.s a.words.now a.clauses.now a.irred.now a.core.now a.mid.now a.local.now a.cref.0 a.tier (four_lengths) c.requires.no_host_value c.requires.tier_bound.0 a.old c.requires.tier_bound.1 c.if-old-tier.true

pub returns : goal.returns
returns c =
    let four_lengths : length c.args.s.tiers ≡ 4 = search rules in
    let a = c.args in
    room_other a.s a.words.now a.clauses.now a.irred.now a.core.now a.mid.now a.local.now a.cref.0 a.tier (four_lengths) c.requires.no_host_value c.requires.tier_bound.0 a.old c.requires.tier_bound.1 c.if-old-tier.false c.room.result (c.room.ensures ∙ room_length a.irred.now a.core.now a.mid.now a.local.now a.tier)
