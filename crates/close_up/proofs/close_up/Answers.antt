use Rattle.std.proofs.Common.{sym, ◌∙◌, arith}
use lib.Seq.{length-take-le}
use Rattle.close_up.proofs.Laying.{laid_placed}
use Rattle.close_up.proofs.Closing.{close_start, turn, place_le, close_deleted, close_live, close_end}
use Rattle.close_up.proofs.close_up.Goals as goal
use Rattle.close_up.proofs.close_up.Goals.{then-not-deleted_at, else-not-deleted_at}

pub loop-i-init : goal.loop-i-init
loop-i-init c = close_start _ _ _ _ (laid_placed _ _ _ c.args.n (length-take-le c.args.n c.args.clauses.now c.requires.used_in_bounds.2) c.requires.n_value)

pub deleted_at-requires : goal.deleted_at-requires
deleted_at-requires c = let t = turn c.requires.used_in_bounds.0 c.requires.used_in_bounds.2 c.loop-i.invariant c.loop-i-test.true in omega arith

pub bounds-words-offset : goal.bounds-words-offset
bounds-words-offset c = let t = turn c.requires.used_in_bounds.0 c.requires.used_in_bounds.2 c.loop-i.invariant c.loop-i-test.true in omega arith

pub move_down-requires : goal.move_down-requires
move_down-requires c = let t = turn c.requires.used_in_bounds.0 c.requires.used_in_bounds.2 c.loop-i.invariant c.loop-i-test.true in (t.low, omega arith)

pub put-requires : goal.put-requires
put-requires c = let t = turn c.requires.used_in_bounds.0 c.requires.used_in_bounds.2 c.loop-i.invariant c.loop-i-test.true in (omega arith, omega arith)

pub overflow_add-to : goal.overflow_add-to
overflow_add-to c = let t = turn c.requires.used_in_bounds.0 c.requires.used_in_bounds.2 c.loop-i.invariant c.loop-i-test.true in omega arith

pub loop-i-preserved : goal.loop-i-preserved
loop-i-preserved c =
    let fit-w = c.requires.used_in_bounds.0 in
    let fit-c = c.requires.used_in_bounds.2 in
    elim c.if-not-deleted_at.branch [
      | then-not-deleted_at w ↦ rw (w.words-is, w.clauses-is, w.to-is, w.k-is, w.move_down.ensures, w.put.ensures) (close_live fit-w fit-c c.loop-i.invariant c.loop-i-test.true (sym c.deleted_at.ensures ∙ w.if-not-deleted_at.true))
      | else-not-deleted_at w ↦ rw (w.words-is, w.clauses-is, w.to-is, w.k-is) (close_deleted fit-w fit-c c.loop-i.invariant c.loop-i-test.true (sym c.deleted_at.ensures ∙ w.if-not-deleted_at.false))
    ]

pub clear-requires : goal.clear-requires
clear-requires c = let p = place_le c.requires.used_in_bounds.0 c.requires.used_in_bounds.2 c.loop-i.invariant in (omega arith, omega arith)

pub returns : goal.returns
returns c =
    let done = close_end c.requires.used_in_bounds.0 c.requires.used_in_bounds.2 c.loop-i.invariant (omega arith) c.loop-i-test.false in
    (c.clear.ensures ∙ done.words, c.clear-2.ensures ∙ done.list, done.count_words, done.count_list)
