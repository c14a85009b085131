use Rattle.std.proofs.Common.{rules}
use mathlib.Core.Path.{refl, sym}
use native.Mathlib.Omega.{arith}
use Rattle.laws.proofs.Chains.{tests}
use Rattle.laws.proofs.Folds.{all_none, all_more}
use Rattle.calls.specs.StorePasses.{clauses_ok}
use Rattle.calls.proofs.Readings.{ends_read}
use Rattle.judge_words.proofs.Literals.{below_wider, zeros_below}
use Rattle.judge_words.proofs.Clauses.{ahead_next, clause_dead, clause_live}
use Rattle.judge_words.proofs.clauses_ok.Goals as goal

pub loop-offset-init : goal.loop-offset-init
loop-offset-init c = (all_none _, record { below = λ h. zeros_below 65536 _ (omega arith) })

pub deleted_at-requires : goal.deleted_at-requires
deleted_at-requires c = omega (arith, ends_read _ _ _ _ c.requires.placed _ c.loop-offset-test.true)

pub loop-offset-preserved-then-deleted_at : goal.loop-offset-preserved-then-deleted_at
loop-offset-preserved-then-deleted_at c =
    let i = c.loop-offset.invariant in
    (all_more _ _ i.0 (sym (clause_dead _ _ _ _ refl c.deleted_at.ensures _ c.if-deleted_at.true)), ahead_next _ _ _ _ c.requires.placed _ (below_wider (i.1.below c.loop-offset-test.true) (omega arith)))

pub clause_ok-requires : goal.clause_ok-requires
clause_ok-requires c = record { vars_bound = (omega arith, omega (arith, ends_read _ _ _ _ c.requires.placed _ c.loop-offset-test.true), omega arith); below = c.loop-offset.invariant.1.below c.loop-offset-test.true }

pub returns-then-not-clause_ok : goal.returns-then-not-clause_ok
unfolding clauses_ok
returns-then-not-clause_ok c = search (rules, tests, clause_live)

pub loop-offset-preserved : goal.loop-offset-preserved
loop-offset-preserved c = (search (rules, tests, clause_live), ahead_next _ _ _ _ c.requires.placed _ c.clause_ok.ensures.1)

pub returns : goal.returns
unfolding clauses_ok
returns c = search (rules, tests)
