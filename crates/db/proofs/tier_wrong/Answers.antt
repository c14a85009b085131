use Rattle.db.proofs.Adding.{above, redundant, by_glue}
use native.Mathlib.Omega.{arith}
use Rattle.db.proofs.tier_wrong.Goals as goal

pub returns-then-tier-gt3 : goal.returns-then-tier-gt3
returns-then-tier-gt3 c = above c.args.tier c.args.glue c.if-tier-gt3.true

pub returns-then-tier-ne0 : goal.returns-then-tier-ne0
returns-then-tier-ne0 c = redundant c.args.tier c.args.glue (omega arith) c.if-tier-ne0.true

pub returns : goal.returns
returns c = by_glue c.args.tier c.args.glue (omega arith) c.if-tier-ne0.false
