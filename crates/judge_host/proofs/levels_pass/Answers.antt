use mathlib.Core.Path.{sym}
use Rattle.std.proofs.Common.{rules, arith}
use Rattle.std.proofs.lemmas.List.{get_or-take, length-take-le}
use borrow.Author.Tests.{lt-leb, le-leb}
use Rattle.laws.proofs.Folds.{all_fails, all_more}
use Rattle.laws.proofs.Chains.{tests}
use Rattle.calls.specs.HostPasses.{at_most_at}
use Rattle.judge_host.proofs.levels_pass.Goals as goal

pub loop-level-init : goal.loop-level-init
loop-level-init c = search (rules, tests)

pub returns-then-vars-level : goal.returns-then-vars-level
unfolding at_most_at
returns-then-vars-level c =
    let here = length-take-le c.args.vars c.args.levels.now c.requires in
    let level = get_or-take c.args.vars c.args.levels.now c.loop-level.level-index 0 (omega arith) in
    sym (all_fails (at_most_at c.args.vars c.args.levels.now) c.loop-level.level-index c.args.vars (omega arith) (lt-leb _ _ (omega arith)))

pub loop-level-preserved : goal.loop-level-preserved
unfolding at_most_at
loop-level-preserved c = grind (arith, all_more, le-leb, get_or-take, length-take-le)
