use Rattle.std.proofs.Common.{sym, ◌∙◌, arith}
use Rattle.dedup.proofs.Marking.{mark_start, in_words, mark_keep, mark_skip, mark_end, mark_after}
use Rattle.dedup.proofs.mark.Goals as goal
use Rattle.dedup.proofs.mark.Goals.{then-retained, else-retained}

pub loop-i-init : goal.loop-i-init
loop-i-init c = mark_start _ _ _

pub bounds-words-at : goal.bounds-words-at
bounds-words-at c = in_words _ _ _ _ _ _ _ c.requires.tier_bound c.requires.entries c.loop-i.invariant (omega arith)

pub bounds-words-at-then-retained : goal.bounds-words-at-then-retained
bounds-words-at-then-retained c = in_words _ _ _ _ _ _ _ c.requires.tier_bound c.requires.entries c.loop-i.invariant (omega arith)

pub loop-i-preserved : goal.loop-i-preserved
loop-i-preserved c = elim c.if-retained.branch [
  | then-retained w ↦ rw (w.words-is, w.list-is, w.k-is) (mark_keep _ _ _ _ _ _ _ c.requires.tier_bound c.requires.entries c.loop-i.invariant (omega arith) (sym c.retained.ensures ∙ w.if-retained.true) _ w.with_mark.ensures)
  | else-retained w ↦ rw (w.words-is, w.list-is, w.k-is) (mark_skip _ _ _ _ _ _ _ c.requires.tier_bound c.requires.entries c.loop-i.invariant (omega arith) (sym c.retained.ensures ∙ w.if-retained.false))
]

pub returns-clause-kept : goal.returns-clause-kept
returns-clause-kept c = mark_end _ _ _ _ _ _ _ c.loop-i.invariant (omega arith)

pub returns-clause-unmarkable : goal.returns-clause-unmarkable
returns-clause-unmarkable c = mark_after _ _ _ _ _ _ _ c.loop-i.invariant
