use Rattle.db.proofs.Tiering.{equal, into, out_of}
use Rattle.db.proofs.irred_change.Goals as goal

pub returns-then-old-tier : goal.returns-then-old-tier
returns-then-old-tier c = equal c.args.old c.args.tier c.if-old-tier.true

pub returns-then-tier-eq0 : goal.returns-then-tier-eq0
returns-then-tier-eq0 c = into c.args.old c.args.tier c.if-old-tier.false c.if-tier-eq0.true

pub returns : goal.returns
returns c = out_of c.args.old c.args.tier c.if-old-tier.false c.if-tier-eq0.false
