use mathlib.Core.Path.{ap}
use mathlib.Core.Bool.{not}
use native.Mathlib.Omega.{arith}
use lib.ListN.{length, length-drop}
use Rattle.std.proofs.lemmas.Slice.{between_to_end}
use Rattle.laws.proofs.Tests.{passed, failed}
use Rattle.walk_lines.proofs.Lists.{listed_none, list_start, list_refused, list_comma, list_other, list_long, list_digit, list_end_refused, list_end}
use Rattle.walk_lines.proofs.list_from.Goals as goal
use Rattle.walk_lines.proofs.list_from.Goals.{then-b-eq44+in_ok-m, else-b-eq44+else-not-is_digit+else-k-eq10, then-not-is_digit-via-then-not-is_digit, then-not-is_digit-via-else-not-is_digit+then-k-eq10}

pub returns-then-from-line : goal.returns-then-from-line
returns-then-from-line c = listed_none c.args.line.now c.args.values.now c.args.from c.args.n c.if-from-line.true

pub loop-b-init : goal.loop-b-init
loop-b-init c = rw (between_to_end c.args.line.now c.args.from (length c.args.line.now) (omega arith)) (list_start c.requires.0 c.requires.1 (simp length-drop (omega arith)))

pub returns-in_err-m : goal.returns-in_err-m
returns-in_err-m c = rw c.from_residual.ensures (list_refused c.loop-b.invariant c.loop-b-test.true c.if-b-eq44.true c.in_err-m.ensures)

pub returns-then-not-is_digit : goal.returns-then-not-is_digit
returns-then-not-is_digit c =
    let told = c.is_digit.ensures in
    elim c.then-not-is_digit.branch [
      | then-not-is_digit-via-then-not-is_digit w ↦ list_other c.loop-b.invariant c.loop-b-test.true c.if-b-eq44.false (failed told (ap not w.if-not-is_digit.true))
      | then-not-is_digit-via-else-not-is_digit+then-k-eq10 w ↦ list_long c.loop-b.invariant c.loop-b-test.true c.if-b-eq44.false (passed told (ap not w.if-not-is_digit.false)) (omega arith)
    ]

pub loop-b-preserved : goal.loop-b-preserved
loop-b-preserved c = elim c.if-b-eq44.branch [
  | then-b-eq44+in_ok-m w ↦
      let done = w.in_ok-m.ensures in
      rw (w.values-is, w.k-is, w.v-is, w.m-is, done.0, done.3) (list_comma c.loop-b.invariant c.loop-b-test.true w.if-b-eq44.true done.1 done.2)
  | else-b-eq44+else-not-is_digit+else-k-eq10 w ↦
      rw (w.values-is, w.k-is, w.v-is, w.m-is) (list_digit c.loop-b.invariant c.loop-b-test.true w.if-b-eq44.false (passed w.is_digit.ensures (ap not w.if-not-is_digit.false)) (omega arith) w.with_digit-v.ensures)
]

pub returns-in_err-m-2 : goal.returns-in_err-m-2
returns-in_err-m-2 c = rw c.from_residual-in_err-m-2.ensures (list_end_refused c.loop-b.invariant c.loop-b-test.false c.in_err-m-2.ensures)

pub returns : goal.returns
returns c =
    let done = c.in_ok-m-2.ensures in
    rw (done.0, done.3) (list_end c.loop-b.invariant c.loop-b-test.false done.1 done.2)
