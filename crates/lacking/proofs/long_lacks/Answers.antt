use mathlib.Core.Path.{sym, ◌∙◌}
use Prim.Native.Nat.{◌<◌}
use lib.ListN.{length}
use Rattle.laws.proofs.Folds.{any_none}
use Rattle.laws.proofs.Parts.{in_front, read_each}
use Rattle.kinds.specs.Clauses.{var_of}
use Rattle.lacking.proofs.Looking.{none_next, some_out}
use Rattle.lacking.proofs.Found.{long_dead, long_is}
use Rattle.lacking.proofs.long_lacks.Goals as goal

pub loop-clause-init : goal.loop-clause-init
loop-clause-init c = any_none _

pub loop-clause-preserved-then-deleted_of : goal.loop-clause-preserved-then-deleted_of
loop-clause-preserved-then-deleted_of c =
    let e = in_front _ _ _ c.loop-clause-test.true in
    none_next _ _ c.loop-clause.invariant (long_dead _ _ _ _ e.1 (sym c.deleted_of.ensures ∙ c.if-deleted_of.true))

pub lacks-requires : goal.lacks-requires
lacks-requires c =
    let e = in_front _ _ _ c.loop-clause-test.true in
    read_each (λ x. var_of x < length c.args.values.now) _ _ _ (rw (← e.1) at (c.requires.by_index c.loop-clause.clause-index e.0) (sym c.deleted_of.ensures ∙ c.if-deleted_of.false)) c.lits.ensures

pub returns-then-lacks : goal.returns-then-lacks
returns-then-lacks c =
    let e = in_front _ _ _ c.loop-clause-test.true in
    some_out _ _ _ e.0 (long_is _ _ _ _ e.1 (sym c.deleted_of.ensures ∙ c.if-deleted_of.false) c.lits.ensures c.lacks.ensures ∙ c.if-lacks.true)

pub loop-clause-preserved : goal.loop-clause-preserved
loop-clause-preserved c =
    let e = in_front _ _ _ c.loop-clause-test.true in
    none_next _ _ c.loop-clause.invariant (long_is _ _ _ _ e.1 (sym c.deleted_of.ensures ∙ c.if-deleted_of.false) c.lits.ensures c.lacks.ensures ∙ c.if-lacks.false)
