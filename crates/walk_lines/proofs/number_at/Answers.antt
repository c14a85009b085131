use mathlib.Core.Path.{ap, ◌∙◌}
use mathlib.Core.Bool.{not}
use Prim.Native.Nat.{◌≤◌, ◌<◌}
use native.Mathlib.Omega.{arith}
use native.Mathlib.Numerals.{add-one}
use Rattle.laws.proofs.Tests.{passed, failed}
use Rattle.walk_lines.specs.Told.{number_of}
use Rattle.walk_lines.proofs.Numbers.{number_digit, number_long, number_stop, number_end}
use Rattle.walk_lines.proofs.number_at.Goals as goal

pub returns-then-not-is_digit : goal.returns-then-not-is_digit
returns-then-not-is_digit c = ap (number_of c.args.line.now) c.number_of.ensures ∙ number_stop _ _ _ _ _ c.loop-i.invariant.2 c.loop-i-test.true (failed c.is_digit.ensures (ap not c.if-not-is_digit.true))

pub returns-then-k-eq10 : goal.returns-then-k-eq10
returns-then-k-eq10 c =
    let ten : 10 ≤ c.loop-i.k = omega arith in
    number_long _ _ _ _ _ c.loop-i.invariant.2 c.loop-i-test.true (passed c.is_digit.ensures (ap not c.if-not-is_digit.false)) ten

pub with_digit-v-requires : goal.with_digit-v-requires
with_digit-v-requires c =
    let fewer : c.loop-i.k < 10 = omega arith in
    (fewer, c.loop-i.invariant.1, passed c.is_digit.ensures (ap not c.if-not-is_digit.false))

pub loop-i-preserved : goal.loop-i-preserved
loop-i-preserved c =
    let fewer : c.loop-i.k < 10 = omega arith in
    (omega arith, rw add-one c.with_digit-v.ensures.1, rw c.with_digit-v.ensures.0 (number_digit _ _ _ _ _ c.loop-i.invariant.2 c.loop-i-test.true (passed c.is_digit.ensures (ap not c.if-not-is_digit.false)) fewer))

pub returns : goal.returns
returns c = ap (number_of c.args.line.now) c.number_of-2.ensures ∙ number_end _ _ _ _ _ c.loop-i.invariant.2 _ c.loop-i-test.false (omega arith)
