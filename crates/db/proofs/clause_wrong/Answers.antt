use Rattle.db.proofs.Adding.{short, long, by_literals}
use native.Mathlib.Omega.{arith}
use Rattle.db.proofs.clause_wrong.Goals as goal

pub returns-then-n-lt3 : goal.returns-then-n-lt3
returns-then-n-lt3 c = short c.args.vars c.args.lits.now c.if-n-lt3.true

pub returns-then-vars-n : goal.returns-then-vars-n
returns-then-vars-n c = long c.args.vars c.args.lits.now (omega arith) c.if-vars-n.true

pub lits_pass-requires : goal.lits_pass-requires
lits_pass-requires c = c.requires

pub returns-then-n-le-MOST : goal.returns-then-n-le-MOST
returns-then-n-le-MOST c = by_literals c.args.vars c.args.lits.now (omega arith) (omega arith) c.lits_pass.ensures

pub lits_pass-requires-2 : goal.lits_pass-requires-2
lits_pass-requires-2 c = c.requires

pub returns : goal.returns
returns c = by_literals c.args.vars c.args.lits.now (omega arith) (omega arith) c.lits_pass-2.ensures
