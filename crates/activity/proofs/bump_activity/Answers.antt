use lib.Dec.{T}
use lib.Ieee.{binary32, fits}
use borrow.Author.Rules.{rules}
use Rattle.laws.specs.Lists.{at}
use Rattle.kinds.proofs.FloatRanges.{sum_range}
use Rattle.activity.proofs.Scaling.{raised_bounded}
use Rattle.activity.proofs.Ways.{bump_loud, bump_quiet}
use Rattle.activity.proofs.bump_activity.Goals as goal

pub rescale-requires : goal.rescale-requires
rescale-requires c =
    let held : T (fits binary32 c.args.activity.bump) = search rules in
    rw c.raise.ensures.0 (raised_bounded _ _ _ _ _ (sum_range (at c.args.words.now c.args.offset) c.args.activity.bump held c.requires.2 c.requires.4) c.requires.3 c.requires.0)

pub returns-then-raise : goal.returns-then-raise
returns-then-raise c = bump_loud _ c.args.clauses.now c.args.n c.args.activity c.args.offset _ _ _ c.raise.ensures.0 c.raise.ensures.1 c.if-raise.true c.rescale.ensures

pub returns-else-raise : goal.returns-else-raise
returns-else-raise c = bump_quiet _ _ _ _ _ _ _ c.requires.0.placed.within c.raise.ensures.0 c.raise.ensures.1 c.if-raise.false
