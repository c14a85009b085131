use Rattle.std.proofs.Common.{sym, ◌∙◌, arith}
use lib.Seq.{length-take-le}
use Rattle.close_up.proofs.Laying.{laid_placed}
use Rattle.close_up.proofs.Redirecting.{follow_start, reached, follow_deleted, follow_live, follow_end}
use Rattle.close_up.proofs.follow.Goals as goal
use Rattle.close_up.proofs.follow.Goals.{then-not-deleted_at, else-not-deleted_at}

pub loop-r-init : goal.loop-r-init
loop-r-init c = follow_start _ _ _ _ _ _ (laid_placed _ _ _ c.args.n (length-take-le c.args.n c.args.clauses.now c.requires.used_in_bounds.2) c.requires.n_value.0)

pub deleted_at-requires : goal.deleted_at-requires
deleted_at-requires c =
    let t = reached c.loop-r.invariant c.loop-r-test.true c.args.vars c.args.n (length-take-le c.args.n c.args.clauses.now c.requires.used_in_bounds.2) c.requires.n_value.1 in
    omega arith

pub bounds-words-offset : goal.bounds-words-offset
bounds-words-offset c =
    let t = reached c.loop-r.invariant c.loop-r-test.true c.args.vars c.args.n (length-take-le c.args.n c.args.clauses.now c.requires.used_in_bounds.2) c.requires.n_value.1 in
    omega arith

pub bounds-words-offset-then-not-deleted_at : goal.bounds-words-offset-then-not-deleted_at
bounds-words-offset-then-not-deleted_at c =
    let t = reached c.loop-r.invariant c.loop-r-test.true c.args.vars c.args.n (length-take-le c.args.n c.args.clauses.now c.requires.used_in_bounds.2) c.requires.n_value.1 in
    let e = t.three (sym c.deleted_at.ensures ∙ c.if-not-deleted_at.true) in omega arith

pub redirect-requires : goal.redirect-requires
redirect-requires c =
    let t = reached c.loop-r.invariant c.loop-r-test.true c.args.vars c.args.n (length-take-le c.args.n c.args.clauses.now c.requires.used_in_bounds.2) c.requires.n_value.1 in
    let e = t.first (sym c.deleted_at.ensures ∙ c.if-not-deleted_at.true) in
    (omega arith, omega arith, omega arith, omega arith, omega arith)

pub overflow_add-to : goal.overflow_add-to
overflow_add-to c =
    let t = reached c.loop-r.invariant c.loop-r-test.true c.args.vars c.args.n (length-take-le c.args.n c.args.clauses.now c.requires.used_in_bounds.2) c.requires.n_value.1 in
    omega arith

pub loop-r-preserved : goal.loop-r-preserved
loop-r-preserved c = elim c.if-not-deleted_at.branch [
  | then-not-deleted_at w ↦ rw (w.reasons-is, w.to-is, w.redirect.ensures) (follow_live c.loop-r.invariant c.loop-r-test.true (sym c.deleted_at.ensures ∙ w.if-not-deleted_at.true))
  | else-not-deleted_at w ↦ rw (w.reasons-is, w.to-is) (follow_deleted c.loop-r.invariant c.loop-r-test.true (sym c.deleted_at.ensures ∙ w.if-not-deleted_at.false))
]

pub returns : goal.returns
returns c = follow_end c.loop-r.invariant c.loop-r-test.false
