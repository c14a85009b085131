use mathlib.Core.Path.{◌≡◌, refl, sym, ap, ◌∙◌}
use mathlib.Core.List.{[], ◌∷◌}
use Prim.Native.Nat.{ℕ}
use lib.Seq.{sets}
use borrow.Author.Tests.{lt-ltb, le-ltb}
use Rattle.laws.specs.Lists.{at}
use Rattle.kinds.specs.Lines.{line, line_words}
use Rattle.binary_clean.proofs.OneRow.{here, swept_stays, strike_room, swept_struck, swept_quiet, swept_end}
use native.Mathlib.Omega.{arith}
use Rattle.binary_clean.proofs.clean_row.Goals as goal
use Rattle.binary_clean.proofs.clean_row.Goals.{then-stays_in, else-stays_in+then-not_code-b, else-stays_in+else-not_code-b}

pub stays_in-requires : goal.stays_in-requires
stays_in-requires c = (c.requires.n_in_bounds.1, rw (here c.loop-i.invariant c.loop-i-test.true c.requires.n_in_bounds.0) (c.requires.by_index c.loop-i.i c.loop-i-test.true))

pub strike_pair-recorded-requires : goal.strike_pair-recorded-requires
strike_pair-recorded-requires c =
    strike_room c.loop-i.invariant c.loop-i-test.true c.requires.n_in_bounds.0 (sym c.stays_in.ensures ∙ c.if-stays_in.false) (lt-ltb _ _ (rw (← c.negated-not_code.ensures) c.if-not_code-b.true)) c.requires.n_in_bounds.2

pub loop-i-preserved : goal.loop-i-preserved
loop-i-preserved c =
    let S = c.loop-i.invariant in
    let h = c.loop-i-test.true in
    let l = c.requires.n_in_bounds.0 in
    elim c.if-stays_in.branch [
      | then-stays_in w ↦ rw (w.row-is, w.rec-is, w.recorded-is, w.to-is) (swept_stays S h l (sym c.stays_in.ensures ∙ w.if-stays_in.true) refl)
      | else-stays_in+then-not_code-b w ↦
          let s = w.strike_pair-recorded.ensures in
          rw (w.row-is, w.rec-is, w.recorded-is, w.to-is) (swept_struck S h l (sym c.stays_in.ensures ∙ w.if-stays_in.false) (lt-ltb _ _ (rw (← c.negated-not_code.ensures) w.if-not_code-b.true)) s.0
          (s.1 ∙ ap (λ (x : ℕ). sets c.loop-i.rec c.loop-i.recorded (line_words (line 5 (x ∷ at c.loop-i.row c.loop-i.i ∷ [])))) c.negated-not_code.ensures))
      | else-stays_in+else-not_code-b w ↦
          rw (w.row-is, w.rec-is, w.recorded-is, w.to-is) (swept_quiet S h l (sym c.stays_in.ensures ∙ w.if-stays_in.false) (le-ltb _ _ (rw (← c.negated-not_code.ensures) w.if-not_code-b.false)))
    ]

pub returns : goal.returns
returns c =
    let done : c.loop-i.i ≡ c.args.n = omega arith in
    swept_end (rw done at c.loop-i.invariant) c.requires.n_in_bounds.0 c.clear.ensures
