use mathlib.Core.Path.{sym}
use native.Mathlib.Omega.{arith}
use Rattle.laws.proofs.Folds.{all_fails}
use Rattle.calls.specs.StorePasses.{live_in, live_at}
use Rattle.judge_tiers.specs.Marking.{marked_at}
use Rattle.judge_tiers.proofs.all_marked.Goals as goal

pub returns-then-not-mark_of : goal.returns-then-not-mark_of
unfolding marked_at live_in live_at
returns-then-not-mark_of c = sym (all_fails (marked_at c.args.words.now c.args.clauses.now c.args.t) c.loop-offset.offset-index _ c.loop-offset-test.true (grind arith))
