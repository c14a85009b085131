use mathlib.Core.Path.{◌≡◌}
use Prim.Native.Nat.{◌-◌}
use native.Mathlib.Omega.{arith}
use lib.ListN.{length}
use Rattle.kinds.specs.Lent.{lent_by}
use Rattle.reduce_refusals.proofs.LocalsNumber.{locals_sized, clauses_in, counts_rise, all_fit, all_lack, half_fit, half_lack}
use borrow.Author.Rules.{rules}
use Rattle.reduce_refusals.proofs.refuse_reduce_locals.Goals as goal

pub overflow_sub-room : goal.overflow_sub-room
overflow_sub-room c =
    let tier-lengths : length c.args.s.tiers ≡ 4 = search rules in
    let count-lengths : length c.args.s.counts ≡ 4 = search rules in
    let z = locals_sized c.args.s c.args.words.now c.args.clauses.now c.args.irred.now c.args.core.now c.args.mid.now c.args.local.now c.args.rec.now (lent_by c.args.host) (tier-lengths) (count-lengths) c.requires in
    z.rec_used

pub tally-all-requires : goal.tally-all-requires
tally-all-requires c =
    let tier-lengths : length c.args.s.tiers ≡ 4 = search rules in
    let count-lengths : length c.args.s.counts ≡ 4 = search rules in
    let z = locals_sized c.args.s c.args.words.now c.args.clauses.now c.args.irred.now c.args.core.now c.args.mid.now c.args.local.now c.args.rec.now (lent_by c.args.host) (tier-lengths) (count-lengths) c.requires in
    record { n_in_bounds = (z.listed, z.clauses_most, clauses_in c.args.s c.args.words.now c.args.clauses.now c.args.irred.now c.args.core.now c.args.mid.now c.args.local.now c.args.rec.now (lent_by c.args.host) (tier-lengths) (count-lengths) c.requires); words_len_bound = (z.words_most, z.sides.values, z.sides.kinds, z.sides.reasons, z.levels) }

pub returns-then-all-room : goal.returns-then-all-room
returns-then-all-room c =
    let tier-lengths : length c.args.s.tiers ≡ 4 = search rules in
    let count-lengths : length c.args.s.counts ≡ 4 = search rules in
    let e = c.tally-all.ensures in
    all_fit c.args.s c.args.words.now c.args.clauses.now c.args.irred.now c.args.core.now c.args.mid.now c.args.local.now c.args.rec.now (lent_by c.args.host) (tier-lengths) (count-lengths) c.requires (omega (arith, e.1, c.if-all-room.true))

pub returns-then-all-half : goal.returns-then-all-half
returns-then-all-half c =
    let tier-lengths : length c.args.s.tiers ≡ 4 = search rules in
    let count-lengths : length c.args.s.counts ≡ 4 = search rules in
    let e = c.tally-all.ensures in
    all_lack c.args.s c.args.words.now c.args.clauses.now c.args.irred.now c.args.core.now c.args.mid.now c.args.local.now c.args.rec.now (lent_by c.args.host) (tier-lengths) (count-lengths) c.requires (omega (arith, e.1, c.if-all-room.false)) (omega (arith, e.0, c.if-all-half.true))

pub bisect-key-requires : goal.bisect-key-requires
bisect-key-requires c =
    let tier-lengths : length c.args.s.tiers ≡ 4 = search rules in
    let count-lengths : length c.args.s.counts ≡ 4 = search rules in
    let z = locals_sized c.args.s c.args.words.now c.args.clauses.now c.args.irred.now c.args.core.now c.args.mid.now c.args.local.now c.args.rec.now (lent_by c.args.host) (tier-lengths) (count-lengths) c.requires in
    let e = c.tally-all.ensures in
    record { n_in_bounds = (z.listed, z.clauses_most, clauses_in c.args.s c.args.words.now c.args.clauses.now c.args.irred.now c.args.core.now c.args.mid.now c.args.local.now c.args.rec.now (lent_by c.args.host) (tier-lengths) (count-lengths) c.requires); words_len_bound = (z.words_most, z.sides.values, z.sides.kinds, z.sides.reasons, z.levels); half_bound = (omega (arith, e.0, c.if-all-half.false), counts_rise c.args.s c.args.words.now c.args.clauses.now c.args.irred.now c.args.core.now c.args.mid.now c.args.local.now c.args.rec.now (lent_by c.args.host) (tier-lengths) (count-lengths) c.requires) }

pub tally-gone-requires : goal.tally-gone-requires
tally-gone-requires c =
    let tier-lengths : length c.args.s.tiers ≡ 4 = search rules in
    let count-lengths : length c.args.s.counts ≡ 4 = search rules in
    let z = locals_sized c.args.s c.args.words.now c.args.clauses.now c.args.irred.now c.args.core.now c.args.mid.now c.args.local.now c.args.rec.now (lent_by c.args.host) (tier-lengths) (count-lengths) c.requires in
    record { n_in_bounds = (z.listed, z.clauses_most, clauses_in c.args.s c.args.words.now c.args.clauses.now c.args.irred.now c.args.core.now c.args.mid.now c.args.local.now c.args.rec.now (lent_by c.args.host) (tier-lengths) (count-lengths) c.requires); words_len_bound = (z.words_most, z.sides.values, z.sides.kinds, z.sides.reasons, z.levels) }

pub returns-then-gone-room : goal.returns-then-gone-room
returns-then-gone-room c =
    let tier-lengths : length c.args.s.tiers ≡ 4 = search rules in
    let count-lengths : length c.args.s.counts ≡ 4 = search rules in
    half_fit c.args.s c.args.words.now c.args.clauses.now c.args.irred.now c.args.core.now c.args.mid.now c.args.local.now c.args.rec.now (lent_by c.args.host) (tier-lengths) (count-lengths) c.requires c.bisect-key.result c.bisect-key.ensures (omega (arith, c.tally-gone.ensures.1, c.if-gone-room.true))

pub returns : goal.returns
returns c =
    let tier-lengths : length c.args.s.tiers ≡ 4 = search rules in
    let count-lengths : length c.args.s.counts ≡ 4 = search rules in
    half_lack c.args.s c.args.words.now c.args.clauses.now c.args.irred.now c.args.core.now c.args.mid.now c.args.local.now c.args.rec.now (lent_by c.args.host) (tier-lengths) (count-lengths) c.requires c.bisect-key.result c.bisect-key.ensures (omega (arith, c.tally-gone.ensures.1, c.if-gone-room.false))
