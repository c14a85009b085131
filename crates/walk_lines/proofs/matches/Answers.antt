use native.Mathlib.Omega.{arith}
use Rattle.walk_lines.proofs.Patterns.{match_start, match_none, match_number, match_list, match_out, match_differs, match_byte, match_more, match_end}
use Rattle.walk_lines.proofs.matches.Goals as goal
use Rattle.walk_lines.proofs.matches.Goals.{in-35+in_ok-v-in-35, in_default+else-i-line+else-line-i, then-i-line-via-then-i-line, then-i-line-via-else-i-line+then-line-i}

pub loop-p-init : goal.loop-p-init
loop-p-init c = match_start c.requires.0 c.requires.1

pub returns-in_err-v-in-35 : goal.returns-in_err-v-in-35
returns-in_err-v-in-35 c = rw c.from_residual.ensures (match_none c.loop-p.invariant c.loop-p-test.true c.in-35.is c.in_err-v-in-35.ensures)

pub returns-in-42 : goal.returns-in-42
returns-in-42 c = match_list c.loop-p.invariant c.loop-p-test.true (λ e. omega arith) c.in-42.is c.list_from.ensures

pub returns-then-i-line : goal.returns-then-i-line
returns-then-i-line c = elim c.then-i-line.branch [
  | then-i-line-via-then-i-line w ↦ match_out c.loop-p.invariant c.loop-p-test.true (λ e. omega arith) (λ e. omega arith) w.if-i-line.true
  | then-i-line-via-else-i-line+then-line-i w ↦ match_differs c.loop-p.invariant c.loop-p-test.true (λ e. omega arith) (λ e. omega arith) w.if-i-line.false w.if-line-i.true
]

pub loop-p-preserved : goal.loop-p-preserved
loop-p-preserved c = elim c.match-p.branch [
  | in-35+in_ok-v-in-35 w ↦ rw (w.values-is, w.i-is, w.n-is) (match_number c.loop-p.invariant c.loop-p-test.true w.in-35.is w.in_ok-v-in-35.ensures)
  | in_default+else-i-line+else-line-i w ↦ rw (w.values-is, w.i-is, w.n-is) (match_byte c.loop-p.invariant c.loop-p-test.true (λ e. omega arith) (λ e. omega arith) w.if-i-line.false w.if-line-i.false)
]

pub returns-then-i-line-2 : goal.returns-then-i-line-2
returns-then-i-line-2 c = match_more c.loop-p.invariant c.loop-p-test.false c.if-i-line-2.true

pub returns-else-i-line-2 : goal.returns-else-i-line-2
returns-else-i-line-2 c = match_end c.loop-p.invariant c.loop-p-test.false c.if-i-line-2.false
