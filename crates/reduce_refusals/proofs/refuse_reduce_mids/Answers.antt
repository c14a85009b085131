use mathlib.Core.Path.{◌≡◌}
use native.Mathlib.Omega.{arith}
use lib.ListN.{length}
use Rattle.laws.proofs.Folds.{count_le}
use Rattle.reduce_refusals.specs.Counted.{inactive_at}
use Rattle.reduce_refusals.proofs.MidsRoom.{heads_in, mids_sizes, mids_fit, mids_lack}
use borrow.Author.Rules.{rules}
use Rattle.reduce_refusals.proofs.refuse_reduce_mids.Goals as goal

pub inactive_mids-moved-requires : goal.inactive_mids-moved-requires
inactive_mids-moved-requires c =
    let tier-lengths : length c.args.s.tiers ≡ 4 = search rules in
    let count-lengths : length c.args.s.counts ≡ 4 = search rules in
    record { n_in_bounds = (mids_sizes c.args.s c.args.words.now c.args.clauses.now c.args.irred.now c.args.core.now c.args.mid.now c.args.local.now (tier-lengths) (count-lengths) c.requires).0; heads_in = heads_in c.args.s c.args.words.now c.args.clauses.now c.args.irred.now c.args.core.now c.args.mid.now c.args.local.now (tier-lengths) (count-lengths) c.requires }

pub overflow_add-lens : goal.overflow_add-lens
overflow_add-lens c =
    let tier-lengths : length c.args.s.tiers ≡ 4 = search rules in
    let count-lengths : length c.args.s.counts ≡ 4 = search rules in
    let z = mids_sizes c.args.s c.args.words.now c.args.clauses.now c.args.irred.now c.args.core.now c.args.mid.now c.args.local.now (tier-lengths) (count-lengths) c.requires in
    let b = count_le (inactive_at c.args.words.now c.args.clauses.now) c.args.s.clauses in
    omega (arith, c.inactive_mids-moved.ensures, b, z)

pub returns-then-lens-moved : goal.returns-then-lens-moved
returns-then-lens-moved c =
    let tier-lengths : length c.args.s.tiers ≡ 4 = search rules in
    let count-lengths : length c.args.s.counts ≡ 4 = search rules in
    let e = c.inactive_mids-moved.ensures in
    mids_fit c.args.s c.args.words.now c.args.clauses.now c.args.irred.now c.args.core.now c.args.mid.now c.args.local.now (tier-lengths) (count-lengths) c.requires (omega (arith, e, c.if-lens-moved.true))

pub returns : goal.returns
returns c =
    let tier-lengths : length c.args.s.tiers ≡ 4 = search rules in
    let count-lengths : length c.args.s.counts ≡ 4 = search rules in
    let e = c.inactive_mids-moved.ensures in
    mids_lack c.args.s c.args.words.now c.args.clauses.now c.args.irred.now c.args.core.now c.args.mid.now c.args.local.now (tier-lengths) (count-lengths) c.requires (omega (arith, e, c.if-lens-moved.false))
