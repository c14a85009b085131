use mathlib.Core.Path.{◌≡◌, ◌∙◌}
use mathlib.Core.List.{List, []}
use Prim.Native.Nat.{ℕ, ◌+◌, ◌*◌, ◌/◌, ◌^◌, ◌≤◌, ◌<◌}
use native.Mathlib.Omega.{arith}
use lib.ListN.{length}
use borrow.Author.Rules.{rules}
use Rattle.laws.specs.Lists.{at}
use Rattle.kinds.specs.Clauses.{len_at, first_at, end_at}
use Rattle.kinds.specs.Lent.{lent, lent_by}
use Rattle.kinds.specs.Held.{Held}
use Rattle.kinds.specs.Layout.{view}
use Rattle.reduce_steps.proofs.Purging.{Purge, Begun, test_held, ends, long_enough, first_in, garbage_fits, one_there, purge_keep, record_room, purge_struck}
use Rattle.reduce_steps.proofs.Purged.{LocalsReady, locals_ready, references, rest_kept, half, locals_begin, locals_laid, locals_flag, same_words, same_vars, same_used}
use Rattle.reduce_steps.proofs.locals.Goals as goal
use Rattle.reduce_steps.proofs.locals.Goals.{At-loop-i, then-spared, else-spared}

ready : (c : At-loop-i) → LocalsReady c.args.s c.args.words.now c.args.clauses.now c.args.irred.now c.args.core.now c.args.mid.now c.args.local.now c.args.rec.now (lent_by c.args.host)
ready c =
    locals_ready _ _ _ _ _ _ _ _ _ (search rules) (search rules) c.requires.level_value c.requires.level_value_2

-- what is held at the start
abbrev held : At-loop-i → Held
held c = view (lent c.args.s c.args.words.now c.args.clauses.now c.args.irred.now c.args.core.now c.args.mid.now c.args.local.now [] [] c.args.rec.now (lent_by c.args.host))

begun : (c : At-loop-i) → Begun (held c) c.clean-n.result c.sort_prefix.new.list c.args.rec.now c.clean-n.new.words c.args.s.counts c.args.s.recorded c.args.s.garbage (c.clean-n.result / 2) c.args.host.values.now c.args.host.kinds.now c.args.host.reasons.now
begun c =
    let m = c.clean-n in
    let p = c.sort_prefix in
    let r = ready c in
    locals_begin _ _ _ _ _ _ _ _ _ (search rules) (search rules) c.requires.level_value m.ensures.kept m.ensures.words_unchanged m.auto.list r.local_used p.ensures p.auto.list r.rec_used r.room

purged : (c : At-loop-i) → Purge (held c) c.clean-n.result c.sort_prefix.new.list c.args.rec.now c.loop-i.words c.loop-i.local c.loop-i.rec c.loop-i.counts c.loop-i.i c.loop-i.kept c.loop-i.recorded c.loop-i.garbage c.loop-i.left
purged c = c.loop-i.invariant (held c) (begun c)

-- of a turn: the entries fit their buffers, and the clause lies within the words
record Turn (vars i kept entry : ℕ) (words : List ℕ) (local garbage : ℕ) : Type 0 where
  i-in : i < local
  kept_in : kept < local
  few : local ≤ 2 ^ 22
  ends : end_at words entry ≤ length words
  long : 3 ≤ len_at words entry
  words_few : length words ≤ 2 ^ 24
  first : first_at words entry < 2 * vars
  garbage-few : garbage + (len_at words entry + 3) ≤ 2 ^ 24

turn : (c : At-loop-i) → c.loop-i.i < c.clean-n.result → Turn c.args.s.vars c.loop-i.i c.loop-i.kept (at c.loop-i.local c.loop-i.i) c.loop-i.words (length c.loop-i.local) c.loop-i.garbage
turn c lt =
    let m = c.clean-n in
    let p = c.sort_prefix in
    let r = ready c in
    let w = purged c in
    let fit = (begun c).fit in
    let e : length p.new.list ≡ length m.new.list = p.auto.list in
    let f : length m.new.list ≡ length c.args.local.now = m.auto.list in
    let wide : length (held c).words ≡ length c.args.words.now = same_words _ _ _ _ _ _ _ _ _ in
    let v : (held c).vars ≡ c.args.s.vars = same_vars _ _ _ _ _ _ _ _ _ in
    let u : (held c).used ≡ c.args.s.words = same_used _ _ _ _ _ _ _ _ _ in
    let en = ends fit w lt in
    let lo = long_enough fit w lt in
    let fi = first_in fit w lt in
    let ga = garbage_fits fit w lt in
    record {
      i-in = omega arith;
      kept_in = omega arith;
      few = omega arith;
      ends = en;
      long = lo;
      words_few = omega arith;
      first = omega arith;
      garbage-few = omega arith;
    }

pub clean-n-requires-clause-n_in_bounds : goal.clean-n-requires-clause-n_in_bounds
clean-n-requires-clause-n_in_bounds c =
    (locals_ready _ _ _ _ _ _ _ _ _ (search rules) (search rules) c.requires.level_value c.requires.level_value_2).local_used

pub clean-n-requires-clause-entries : goal.clean-n-requires-clause-entries
clean-n-requires-clause-entries c =
    (locals_ready _ _ _ _ _ _ _ _ _ (search rules) (search rules) c.requires.level_value c.requires.level_value_2).entries

pub sort_prefix-requires-clause-n_in_bounds : goal.sort_prefix-requires-clause-n_in_bounds
sort_prefix-requires-clause-n_in_bounds c =
    let r = locals_ready _ _ _ _ _ _ _ _ _ (search rules) (search rules) c.requires.level_value c.requires.level_value_2 in
    let m = c.clean-n in
    let f : length m.new.list ≡ length c.args.local.now = m.auto.list in
    omega arith

pub sort_prefix-requires-clause-refs : goal.sort_prefix-requires-clause-refs
sort_prefix-requires-clause-refs c =
    let r = locals_ready _ _ _ _ _ _ _ _ _ (search rules) (search rules) c.requires.level_value c.requires.level_value_2 in
    let m = c.clean-n in
    references _ _ _ _ _ _ _ _ _ (search rules) (search rules) c.requires.level_value m.ensures.kept m.ensures.words_unchanged m.auto.list r.local_used

pub offset_bounds-local-i : goal.offset_bounds-local-i
offset_bounds-local-i c = let t = turn (goal.at.offset_bounds-local-i c).At-loop-i c.loop-i-test.true in omega (arith, t)

pub bounds-local-i : goal.bounds-local-i
bounds-local-i c = let t = turn (goal.at.bounds-local-i c).At-loop-i c.loop-i-test.true in t.i-in

pub spared-requires-clause-offset_in_bounds : goal.spared-requires-clause-offset_in_bounds
spared-requires-clause-offset_in_bounds c = let t = turn (goal.at.spared-requires-clause-offset_in_bounds c).At-loop-i c.loop-i-test.true in omega (arith, t)

pub spared-requires-clause-offset_in_bounds_2 : goal.spared-requires-clause-offset_in_bounds_2
spared-requires-clause-offset_in_bounds_2 c =
    let d = (goal.at.spared-requires-clause-offset_in_bounds_2 c).At-loop-i in
    let t = turn d c.loop-i-test.true in
    let r = ready d in
    (omega (arith, t), omega (arith, t), omega (arith, t), omega (arith, t))

pub offset_bounds-local-kept : goal.offset_bounds-local-kept
offset_bounds-local-kept c = let t = turn (goal.at.offset_bounds-local-kept c).At-loop-i c.loop-i-test.true in omega (arith, t)

pub bounds-local-kept : goal.bounds-local-kept
bounds-local-kept c = let t = turn (goal.at.bounds-local-kept c).At-loop-i c.loop-i-test.true in t.kept_in

pub overflow_add-kept : goal.overflow_add-kept
overflow_add-kept c = let t = turn (goal.at.overflow_add-kept c).At-loop-i c.loop-i-test.true in omega (arith, t)

pub word-size-requires : goal.word-size-requires
word-size-requires c = let t = turn (goal.at.word-size-requires c).At-loop-i c.loop-i-test.true in omega (arith, t)

pub strike_out-recorded-requires : goal.strike_out-recorded-requires
strike_out-recorded-requires c =
    let d = (goal.at.strike_out-recorded-requires c).At-loop-i in
    let test = test_held (begun d) _ _ _ _ _ _ _ c.spared.ensures c.if-spared.false in
    let t = turn d c.loop-i-test.true in
    (t.ends, record_room (begun d).fit (purged d) c.loop-i-test.true test (begun d).room)

pub overflow_sub-counts : goal.overflow_sub-counts
overflow_sub-counts c =
    let d = (goal.at.overflow_sub-counts c).At-loop-i in
    one_there (begun d).fit (purged d) c.loop-i-test.true

pub overflow_add-garbage : goal.overflow_add-garbage
overflow_add-garbage c = let t = turn (goal.at.overflow_add-garbage c).At-loop-i c.loop-i-test.true in omega (arith, t, c.word-size.ensures.0)

pub loop-i-preserved : goal.loop-i-preserved
loop-i-preserved c = λ h b.
    let l = c.loop-i in
    elim c.if-spared.branch [
      | then-spared w ↦
          let test = test_held b _ _ _ _ _ _ _ c.spared.ensures w.if-spared.true in
          rw (w.words-is, w.local-is, w.rec-is, w.counts-is, w.left-is, w.kept-is, w.recorded-is, w.garbage-is)
          (purge_keep b.fit (l.invariant h b) c.loop-i-test.true test)
      | else-spared w ↦
          let test = test_held b _ _ _ _ _ _ _ c.spared.ensures w.if-spared.false in
          let x = w.strike_out-recorded in
          rw (w.words-is, w.local-is, w.rec-is, w.counts-is, w.left-is, w.kept-is, w.recorded-is, w.garbage-is)
          (purge_struck b.fit (l.invariant h b) c.loop-i-test.true test b.room x.ensures.2 x.ensures.1 x.ensures.0 w.word-size.ensures.0)
    ]

pub clear-requires : goal.clear-requires
clear-requires c =
    let d = (goal.at.clear-requires c).At-loop-i in
    let m = c.clean-n in
    let p = c.sort_prefix in
    let r = ready d in
    let w = purged d in
    let e : length p.new.list ≡ length m.new.list = p.auto.list in
    let f : length m.new.list ≡ length c.args.local.now = m.auto.list in
    (omega arith, omega arith)

pub returns-clause-level_after : goal.returns-clause-level_after
returns-clause-level_after c =
    let d = (goal.at.returns-clause-level_after c).At-loop-i in
    let m = c.clean-n in
    let p = c.sort_prefix in
    let r = ready d in
    let e : length p.new.list ≡ length m.new.list = p.auto.list in
    let f : length m.new.list ≡ length c.args.local.now = m.auto.list in
    let rest = rest_kept _ _ _ _ _ _ _ _ _ (search rules) (search rules) c.requires.level_value m.ensures.kept m.ensures.words_unchanged f r.local_used p.ensures in
    locals_laid _ _ _ _ _ _ _ _ _ (search rules) (search rules) r m.ensures.kept.few (e ∙ f) rest (purged d) c.loop-i-test.false c.clear.ensures

pub returns-clause-struck_value : goal.returns-clause-struck_value
returns-clause-struck_value c =
    let d = (goal.at.returns-clause-struck_value c).At-loop-i in
    let m = c.clean-n in
    let p = c.sort_prefix in
    let r = ready d in
    let e : length p.new.list ≡ length m.new.list = p.auto.list in
    let f : length m.new.list ≡ length c.args.local.now = m.auto.list in
    let rest = rest_kept _ _ _ _ _ _ _ _ _ (search rules) (search rules) c.requires.level_value m.ensures.kept m.ensures.words_unchanged f r.local_used p.ensures in
    locals_flag _ _ _ _ _ _ _ _ _ (search rules) (search rules) r m.ensures.kept.few (e ∙ f) rest (purged d) c.loop-i-test.false c.clear.ensures
    (half _ _ _ _ _ _ _ _ _ (search rules) (search rules) c.requires.level_value m.ensures.kept m.ensures.words_unchanged f r.local_used p.ensures)
