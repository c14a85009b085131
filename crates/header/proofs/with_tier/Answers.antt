use mathlib.Core.Path.{refl}
use Rattle.header.proofs.Laws.{store0}
use Rattle.header.proofs.with_tier.Goals as goal

pub returns : goal.returns
returns c = store0 30 2 0xffff_fffc c.args.word c.args.tier refl c.ranges.word.fits c.requires
