use Rattle.header.proofs.Laws.{store_flag}
use Rattle.header.proofs.with_flag.Goals as goal

pub returns : goal.returns
returns c = store_flag c.args.place c.args.word c.args.on c.requires c.ranges.word.fits
