use mathlib.Core.Path.{refl}
use Rattle.header.proofs.Laws.{store}
use Rattle.header.proofs.with_glue_bits.Goals as goal

pub returns : goal.returns
returns c = store 22 4 6 0xffff_fc0f c.args.word c.args.glue refl c.ranges.word.fits c.requires
