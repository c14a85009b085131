use mathlib.Core.Path.{◌≡◌, sym, ◌∙◌}
use Prim.Native.Nat.{ℕ, ◌+◌, ◌^◌, ◌≤◌, ◌<◌}
use native.Mathlib.Omega.{arith}
use lib.ListN.{length}
use borrow.Author.Rules.{rules}
use Rattle.laws.specs.Lists.{at}
use Rattle.laws.proofs.Pushes.{less_other}
use Rattle.kinds.specs.Lent.{lent_five, no_host}
use Rattle.kinds.specs.Held.{Held}
use Rattle.kinds.specs.Layout.{view}
use Rattle.reduce_steps.proofs.Sweeping.{Sweep, Begun, inside, one_there, sweep_keep, local_room, sweep_move}
use Rattle.reduce_steps.proofs.Swept.{MidsReady, mids_ready, mids_begin, counts_few, mids_laid, same_words}
use Rattle.reduce_steps.proofs.mids.Goals as goal
use Rattle.reduce_steps.proofs.mids.Goals.{At-loop-i, then-active_of, else-active_of}

ready : (c : At-loop-i) → MidsReady c.args.s c.args.words.now c.args.clauses.now c.args.irred.now c.args.core.now c.args.mid.now c.args.local.now
ready c =
    mids_ready _ _ _ _ _ _ _ (search rules) (search rules) c.requires.no_host_value c.requires.no_host_value_2

-- what is held at the start
abbrev held : At-loop-i → Held
held c = view (lent_five c.args.s c.args.words.now c.args.clauses.now c.args.irred.now c.args.core.now c.args.mid.now c.args.local.now no_host)

begun : (c : At-loop-i) → Begun (held c) c.clean-n.result c.clean-n.new.list c.args.local.now c.clean-n.new.words c.args.s.counts (at c.args.s.tiers 3)
begun c =
    let m = c.clean-n in
    let r = ready c in
    let long : length m.new.list ≡ length c.args.mid.now = m.auto.list in
    record {
      begins = mids_begin _ _ _ _ _ _ _ (search rules) (search rules) c.requires.no_host_value m.ensures.kept m.ensures.words_unchanged r.local_used;
      fit = omega arith;
      room = r.room;
    }

swept : (c : At-loop-i) → Sweep (held c) c.clean-n.result c.clean-n.new.list c.args.local.now c.loop-i.words c.loop-i.mid c.loop-i.local c.loop-i.counts c.loop-i.i c.loop-i.kept c.loop-i.locals
swept c = c.loop-i.invariant (held c) (begun c)

-- of a turn: the entries fit their buffers, and the entry lies within the words
record Turn (n i kept locals entry words mid local : ℕ) : Type 0 where
  i-in : i < mid
  kept_in : kept < mid
  locals_le : locals ≤ local
  inside : entry + 1 < words
  few : mid ≤ 2 ^ 22
  local-few : local ≤ 2 ^ 22
  words_few : words ≤ 2 ^ 24

turn : (c : At-loop-i) → c.loop-i.i < c.clean-n.result → Turn c.clean-n.result c.loop-i.i c.loop-i.kept c.loop-i.locals (at c.loop-i.mid c.loop-i.i) (length c.loop-i.words) (length c.loop-i.mid) (length c.loop-i.local)
turn c lt =
    let m = c.clean-n in
    let r = ready c in
    let w = swept c in
    let long : length m.new.list ≡ length c.args.mid.now = m.auto.list in
    let few = m.ensures.kept.few in
    let wide = same_words c.args.s c.args.words.now c.args.clauses.now c.args.irred.now c.args.core.now c.args.mid.now c.args.local.now in
    record {
      i-in = omega arith;
      kept_in = omega arith;
      locals_le = omega arith;
      inside = inside (begun c).fit w lt;
      few = omega arith;
      local-few = omega arith;
      words_few = omega arith;
    }

pub clean-n-requires-clause-n_in_bounds : goal.clean-n-requires-clause-n_in_bounds
clean-n-requires-clause-n_in_bounds c = (mids_ready _ _ _ _ _ _ _ (search rules) (search rules) c.requires.no_host_value c.requires.no_host_value_2).mid_used

pub clean-n-requires-clause-entries : goal.clean-n-requires-clause-entries
clean-n-requires-clause-entries c = (mids_ready _ _ _ _ _ _ _ (search rules) (search rules) c.requires.no_host_value c.requires.no_host_value_2).entries

pub offset_bounds-mid-i : goal.offset_bounds-mid-i
offset_bounds-mid-i c = let t = turn (goal.at.offset_bounds-mid-i c).At-loop-i c.loop-i-test.true in omega (arith, t)

pub bounds-mid-i : goal.bounds-mid-i
bounds-mid-i c = let t = turn (goal.at.bounds-mid-i c).At-loop-i c.loop-i-test.true in t.i-in

pub bounds-words-place : goal.bounds-words-place
bounds-words-place c = let t = turn (goal.at.bounds-words-place c).At-loop-i c.loop-i-test.true in t.inside

pub offset_bounds-mid-kept : goal.offset_bounds-mid-kept
offset_bounds-mid-kept c = let t = turn (goal.at.offset_bounds-mid-kept c).At-loop-i c.loop-i-test.true in omega (arith, t)

pub bounds-mid-kept : goal.bounds-mid-kept
bounds-mid-kept c = let t = turn (goal.at.bounds-mid-kept c).At-loop-i c.loop-i-test.true in t.kept_in

pub overflow_add-kept : goal.overflow_add-kept
overflow_add-kept c = let t = turn (goal.at.overflow_add-kept c).At-loop-i c.loop-i-test.true in omega (arith, t)

pub bounds-words-place-else-active_of : goal.bounds-words-place-else-active_of
bounds-words-place-else-active_of c = let t = turn (goal.at.bounds-words-place-else-active_of c).At-loop-i c.loop-i-test.true in t.inside

pub offset_bounds-local-locals : goal.offset_bounds-local-locals
offset_bounds-local-locals c = let t = turn (goal.at.offset_bounds-local-locals c).At-loop-i c.loop-i-test.true in omega (arith, t)

pub bounds-local-locals : goal.bounds-local-locals
bounds-local-locals c =
    let d = (goal.at.bounds-local-locals c).At-loop-i in
    let inactive = sym c.active_of.ensures ∙ c.if-active_of.false in
    local_room (begun d).fit (swept d) c.loop-i-test.true inactive (begun d).room

pub overflow_add-locals : goal.overflow_add-locals
overflow_add-locals c = let t = turn (goal.at.overflow_add-locals c).At-loop-i c.loop-i-test.true in omega (arith, t)

pub overflow_sub-counts : goal.overflow_sub-counts
overflow_sub-counts c =
    let d = (goal.at.overflow_sub-counts c).At-loop-i in
    one_there (begun d).fit (swept d) c.loop-i-test.true

pub overflow_add-counts : goal.overflow_add-counts
overflow_add-counts c =
    let d = (goal.at.overflow_add-counts c).At-loop-i in
    let l = c.loop-i in
    let r = ready d in
    let few = counts_few _ _ _ _ _ _ _ (search rules) (search rules) c.requires.no_host_value (swept d) r.listed 3 (omega arith) in
    let a = less_other l.counts 2 3 (λ q. omega arith) in
    omega arith

pub loop-i-preserved : goal.loop-i-preserved
loop-i-preserved c = λ h b.
    let l = c.loop-i in
    elim c.if-active_of.branch [
      | then-active_of w ↦
          rw (w.words-is, w.mid-is, w.local-is, w.counts-is, w.kept-is, w.locals-is, w.with_active.ensures)
          (sweep_keep b.fit (l.invariant h b) c.loop-i-test.true (sym c.active_of.ensures ∙ w.if-active_of.true))
      | else-active_of w ↦
          rw (w.words-is, w.mid-is, w.local-is, w.counts-is, w.kept-is, w.locals-is, w.with_tier.ensures)
          (sweep_move b.fit (l.invariant h b) c.loop-i-test.true (sym c.active_of.ensures ∙ w.if-active_of.false) b.room)
    ]

pub clear-requires : goal.clear-requires
clear-requires c =
    let d = (goal.at.clear-requires c).At-loop-i in
    let m = c.clean-n in
    let r = ready d in
    let w = swept d in
    let long : length m.new.list ≡ length c.args.mid.now = m.auto.list in
    (omega arith, omega arith)

pub returns : goal.returns
returns c =
    let d = (goal.at.returns c).At-loop-i in
    let m = c.clean-n in
    let long : length m.new.list ≡ length c.args.mid.now = m.auto.list in
    mids_laid _ _ _ _ _ _ _ (search rules) (search rules) (ready d) m.ensures.kept long (swept d) c.loop-i-test.false c.clear.ensures c.requires.no_host_value
