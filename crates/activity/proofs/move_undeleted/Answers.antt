use Rattle.std.proofs.Common.{sym, ◌∙◌, arith}
use Rattle.activity.proofs.Keeping.{kept_none, entry_is, kept_dropped, kept_more, kept_all}
use Rattle.activity.proofs.move_undeleted.Goals as goal
use Rattle.activity.proofs.move_undeleted.Goals.{then-not-deleted_of, else-not-deleted_of}

pub loop-i-init : goal.loop-i-init
loop-i-init c = kept_none _ _

pub bounds-words-offset : goal.bounds-words-offset
bounds-words-offset c =
    let same = entry_is c.loop-i.invariant c.loop-i.auto.list (omega arith) in
    let there = c.requires c.loop-i.i (omega arith) in
    omega arith

pub loop-i-preserved : goal.loop-i-preserved
loop-i-preserved c = elim c.if-not-deleted_of.branch [
  | then-not-deleted_of w ↦ rw (w.list-is, w.kept-is) (kept_more c.loop-i.invariant c.loop-i.auto.list (omega arith) (sym c.deleted_of.ensures ∙ w.if-not-deleted_of.true))
  | else-not-deleted_of w ↦ rw (w.list-is, w.kept-is) (kept_dropped c.loop-i.invariant c.loop-i.auto.list (omega arith) (sym c.deleted_of.ensures ∙ w.if-not-deleted_of.false))
]

pub returns-clause-front : goal.returns-clause-front
returns-clause-front c = kept_all c.loop-i.invariant (omega arith)
