use mathlib.Core.Path.{sym, ◌∙◌}
use borrow.Author.Tests.{lt-ltb, le-ltb}
use Rattle.binary_clean.proofs.OneRow.{read_stays, read_struck, read_quiet, read_end}
use Rattle.binary_clean.proofs.count_row.Goals as goal
use Rattle.binary_clean.proofs.count_row.Goals.{then-stays_in, else-stays_in+then-negated-b, else-stays_in+else-negated-b}

pub loop-b-preserved : goal.loop-b-preserved
loop-b-preserved c =
    let S = c.loop-b.invariant in
    let h = c.loop-b-test.true in
    elim c.if-stays_in.branch [
      | then-stays_in w ↦ rw (w.entries-is, w.words-is) (read_stays S h (sym c.stays_in.ensures ∙ w.if-stays_in.true))
      | else-stays_in+then-negated-b w ↦ rw (w.entries-is, w.words-is) (read_struck S h (sym c.stays_in.ensures ∙ w.if-stays_in.false) (lt-ltb _ _ (rw (← c.negated-negated.ensures) w.if-negated-b.true)))
      | else-stays_in+else-negated-b w ↦ rw (w.entries-is, w.words-is) (read_quiet S h (sym c.stays_in.ensures ∙ w.if-stays_in.false) (le-ltb _ _ (rw (← c.negated-negated.ensures) w.if-negated-b.false)))
    ]

pub returns : goal.returns
returns c = read_end c.loop-b.invariant c.loop-b-test.false
