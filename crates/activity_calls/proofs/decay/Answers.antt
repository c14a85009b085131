use mathlib.Core.Path.{◌≡◌, refl, sym}
use mathlib.Core.List.{List}
use Prim.Native.Nat.{ℕ}
use lib.ListN.{length}
use borrow.Author.Rules.{rules}
use Rattle.std.proofs.lemmas.Result.{err_from_is_err_and}
use Rattle.kinds.specs.Lent.{Lent, lent_five, no_host}
use Rattle.calls.specs.Call.{decay, parts}
use Rattle.calls.specs.Outcome.{nothing, step, answer}
use Rattle.replies.proofs.Ways.{judge_refused, judge_passed, step_taken}
use Rattle.activity_steps.proofs.Decaying.{decay_allowed}
use Rattle.activity_calls.proofs.decay.Goals as goal

pub returns-in_err-judge_five : goal.returns-in_err-judge_five
unfolding parts
returns-in_err-judge_five c =
    let a = c.args in
    let k : List ℕ → Lent = λ w. lent_five a.s w a.clauses.now a.irred.now a.core.now a.mid.now a.local.now no_host in
    let p = err_from_is_err_and c.from_residual.result c.from_residual.ensures.1 in
    rw (p.1, p.2) (judge_refused decay k c.in_err-judge_five.ensures.1 c.in_err-judge_five.field-0.0 c.in_err-judge_five.ensures.0)

pub returns : goal.returns
unfolding parts step answer
returns c =
    let four : length c.args.s.tiers ≡ 4 = search rules in
    let a = c.args in
    let k : List ℕ → Lent = λ w. lent_five a.s w a.clauses.now a.irred.now a.core.now a.mid.now a.local.now no_host in
    let j = c.in_ok-judge_five.ensures in
    step_taken decay k j.1 j.0 (sym (decay_allowed a.s _ a.clauses.now a.irred.now a.core.now a.mid.now a.local.now four (judge_passed decay k j.1 j.0))) c.decay-decayed.ensures nothing refl
