-- AN ACCEPTED CALL LEAVES A STORE AND A HOST SIDE THAT PASS: one law for each command, and all of them. Assumes nothing.
use mathlib.Core.Path.{◌≡◌, refl, sym, ap, ◌∙◌, subst}
use mathlib.Core.Bool.{Bool, true, false, cond}
use mathlib.Core.List.{List, []}
use Prim.Native.Nat.{ℕ, ◌≤◌}
use native.Mathlib.Omega.{arith}
use lib.ListN.{length}
use lib.Dec.{T}
use lib.Ieee.{Float, binary32, fits}
use Rattle.laws.specs.Lists.{at, lengths, fill_each}
use Rattle.laws.proofs.Folds.{and_both, and_left, and_right}
use Rattle.kinds.specs.Lent.{Lent, room_of}
use Rattle.kinds.specs.Held.{Held}
use Rattle.kinds.specs.Layout.{side, view, lay_state, lay, fit}
use Rattle.laws.proofs.Writing.{length_fill_each, length_lengths}
use Rattle.kinds.proofs.RowLayout.{length_rows}
use Rattle.calls.specs.Call.{Command, add_clause, set_tier, delete, add_binary, implied, literals, assess, bump, decay, set_decay, reduce_locals, reduce_mids, collect, prove_units, unit_simplify, empty_record, view_fields, view_literal, parts, everything}
use Rattle.calls.specs.Size.{sizes_ok}
use Rattle.calls.specs.StorePasses.{store_passes}
use Rattle.calls.specs.HostPasses.{host_passes}
use Rattle.calls.specs.Adding.{added_long, tier_set, deleted, struck, removed, strike_noted, added_pair, added_binary, record_emptied}
use Rattle.calls.specs.Bumping.{bumped, decayed, decay_set}
use Rattle.calls.specs.Reducing.{locals_reduced, mids_reduced}
use Rattle.calls.specs.Collecting.{collected}
use Rattle.calls.specs.Simplifying.{units_proved, simplified}
use Rattle.calls.specs.Outcome.{Outcome, step, refused_for, has_room, number, done}
use Rattle.calls.proofs.Laws.{accepts}
use Rattle.calls.proofs.Judged.{words_sized_lem, counts_long, host_sized_lem, words_fit}
use Rattle.calls.proofs.Shapes.{Shape, step_shape}
use Rattle.calls.proofs.After.{judged_zero, own_zero, room_true, tiers_length, held_after}
use Rattle.demands.specs.Demands.{whole_passes, Typed, TypedCall, Kept, PassingPreserved}
use Rattle.passing.proofs.Tests.{Formed, good_of, store_passes_lem, host_passes_lem}
use Rattle.passing.proofs.Rows.{pair_even}
use Rattle.passing.proofs.AddClause.{added_good}
use Rattle.passing.proofs.OneClause.{still_all, no_reason, struck_good, tier_set_whole}
use Rattle.passing.proofs.Good.{Whole}
use Rattle.passing.proofs.Bump.{bumped_good}
use Rattle.passing.proofs.Decay.{decayed_good, decay_set_good}
use Rattle.passing.proofs.Reduce.{mids_good, locals_good}
use Rattle.passing.proofs.Units.{units_good}
use Rattle.passing.proofs.Collect.{collected_good}
use Rattle.passing.proofs.Simplify.{simplified_good}
use Rattle.passing.proofs.Asked.{add_clause_asked, set_tier_asked, delete_asked, add_binary_asked, bump_asked, set_decay_asked, simplify_asked}
use Rattle.passing.proofs.Keeps.{step_keeps}
use Rattle.passing.proofs.Sizes.{sizes_after, used_same}

-- ---- before: what is held passes

module _ (k : Lent) (K : Kept k) where
  sizes_before : sizes_ok everything k ≡ true
  unfolding whole_passes
  sizes_before = and_left _ _ K.passes

  formed : Formed (view k)
  unfolding view side
  formed =
      let s = host_sized_lem everything k sizes_before refl in
      record {
        four_counts = K.typed.counts;
        four_lists_lem = tiers_length k.state.tiers k.tiers (K.typed.lengths ∙ sym K.typed.lists) ∙ K.typed.lengths;
        room = (words_sized_lem everything k sizes_before refl).used;
        rows = length_rows (room_of k.state.vars k.rows) k.counts k.rows ∙ counts_long everything k sizes_before refl;
        values = s.values;
        kinds = s.kinds;
        reasons = s.reasons;
        bump = K.typed.bump;
        inverse = K.typed.inverse;
      }

  pub held_passes : Whole (view k) []
  unfolding whole_passes
  held_passes = good_of (view k) formed (and_left _ _ (and_right (sizes_ok everything k) _ K.passes)) (and_right (store_passes everything (view k)) _ (and_right (sizes_ok everything k) _ K.passes))

-- ---- one law for each command: from what is held before to what is held after

-- nothing but the record changes
pub empty_record_passes : (h : Held) → Whole h [] → Whole (record_emptied h) []
unfolding record_emptied
empty_record_passes h d = record { store = d.store; quiet = d.quiet; rows = d.rows; tuned = d.tuned; sided = d.sided; reasons = d.reasons }

pub add_clause_passes : (t g : ℕ) (ls : List ℕ) (h : Held) → Whole h [] → refused_for (add_clause t g ls) h ≡ 0 → (added_long t g ls h).used ≤ length h.words → Whole (added_long t g ls h) []
unfolding added_long
add_clause_passes t g ls h d e room = added_good h h.clauses [] d t g ls (add_clause_asked h t g ls e) room

pub set_tier_passes : (o t : ℕ) (h : Held) → Whole h [] → refused_for (set_tier o t) h ≡ 0 → Whole (tier_set t o h) []
set_tier_passes o t h d e = let a = set_tier_asked h o t e in tier_set_whole h [] d o a.live t a.tier (λ n q. absurd (a.redundant n q))

pub delete_passes : (o : ℕ) (h : Held) → Whole h [] → refused_for (delete o) h ≡ 0 → Whole (deleted o h) []
unfolding struck removed strike_noted
delete_passes o h d e =
    let a = delete_asked h o e in
    struck_good h h.clauses [] d o a.0.0 a.0.1 4 (no_reason h h.clauses [] d o a.0.0 a.0.1 a.1) [] (still_all o [])

pub add_binary_passes : (ls : List ℕ) (h : Held) → Whole h [] → refused_for (add_binary ls) h ≡ 0 → Whole (added_binary ls h) []
unfolding added_pair
add_binary_passes ls h d e =
    let a = add_binary_asked h ls e in
    let two = a.low in
    record {
      store = d.store;
      quiet = d.quiet;
      rows = pair_even h.vars h.rows h.binary d.rows (at ls 0) (at ls 1) (a.lits.below 0 (omega arith)) (a.lits.below 1 (omega arith)) (a.lits.apart 1 0 (omega arith) (omega arith));
      tuned = d.tuned;
      sided = d.sided;
      reasons = d.reasons;
    }

pub bump_passes : (o : ℕ) (h : Held) → Whole h [] → refused_for (bump o) h ≡ 0 → Whole (bumped o h) []
bump_passes o h d e = bumped_good o h [] d (bump_asked h o e)

pub decay_passes : (h : Held) → Whole h [] → Whole (decayed h) []
decay_passes h d = decayed_good h [] d

pub set_decay_passes : (x : Float) → T (fits binary32 x) → (h : Held) → Whole h [] → refused_for (set_decay x) h ≡ 0 → Whole (decay_set x h) []
set_decay_passes x f h d e = decay_set_good x f (set_decay_asked h x e) h [] d

pub reduce_locals_passes : (h : Held) → Whole h [] → Whole (locals_reduced h) []
reduce_locals_passes h d = locals_good h d

pub reduce_mids_passes : (h : Held) → Whole h [] → Whole (mids_reduced h) []
reduce_mids_passes h d = mids_good h d

pub collect_passes : (h : Held) → Whole h [] → Whole (collected h) []
collect_passes h d = collected_good h d

pub prove_units_passes : (h : Held) → Whole h [] → Whole (units_proved h) []
prove_units_passes h d = units_good h d

pub simplify_passes : (h : Held) → Whole h [] → refused_for unit_simplify h ≡ 0 → Whole (simplified h) []
simplify_passes h d e = let a = simplify_asked h e in simplified_good h d a.0 a.1

-- every step
pub step_passes : (c : Command) (h : Held) → TypedCall c → Whole h [] → refused_for c h ≡ 0 → ((parts c).words ≡ true → (step c h).used ≤ length h.words) → Whole (step c h) []
unfolding step parts
step_passes (add_clause t g ls) h y d e room = add_clause_passes t g ls h d e (room refl)
step_passes (set_tier o t) h y d e room = set_tier_passes o t h d e
step_passes (delete o) h y d e room = delete_passes o h d e
step_passes (add_binary ls) h y d e room = add_binary_passes ls h d e
step_passes (implied l) h y d e room = d
step_passes (literals o) h y d e room = d
step_passes (assess ls) h y d e room = d
step_passes (bump o) h y d e room = bump_passes o h d e
step_passes decay h y d e room = decay_passes h d
step_passes (set_decay x) h y d e room = set_decay_passes x (y.decay x refl) h d e
step_passes reduce_locals h y d e room = reduce_locals_passes h d
step_passes reduce_mids h y d e room = reduce_mids_passes h d
step_passes collect h y d e room = collect_passes h d
step_passes prove_units h y d e room = prove_units_passes h d
step_passes unit_simplify h y d e room = simplify_passes h d e
step_passes empty_record h y d e room = empty_record_passes h d
step_passes (view_fields ws) h y d e room = d
step_passes (view_literal ws i) h y d e room = d

-- ---- after: what the buffers hold is what the step made, and their sizes are right

module _ (c : Command) (k : Lent) (Y : TypedCall c) (K : Kept k) (z : number c k ≡ 0) where
  abbrev h : Held
  h = view k

  abbrev after : Held
  after = step c h

  room : fit (parts c) k after ≡ true
  unfolding has_room
  room = room_true c k z

  passes : Whole after []
  unfolding view
  passes = step_passes c h Y (held_passes k K) (own_zero c k z) (λ q. words_fit (parts c) k after room q)

  shape : Shape k.state.vars (length k.counts) after
  unfolding view
  shape = step_shape k.state.vars (length k.counts) c h (record { vars = refl; four = (formed k K).four_lists_lem; rows = length_rows (room_of k.state.vars k.rows) k.counts k.rows })

  sizes : sizes_ok everything (lay (parts c) k after) ≡ true
  unfolding view
  sizes = sizes_after (parts c) k after (sizes_before k K) K.typed.lists K.typed.lengths room shape (step_keeps c h (held_passes k K)) (λ q. used_same c h q)

  typed : Typed (lay (parts c) k after)
  unfolding lay lay_state
  typed = record {
    lists = lists_after (parts c).tiers;
    lengths = lengths_after (parts c).tiers;
    counts = passes.store.four_counts;
    bump = passes.tuned.bump_fits;
    inverse = passes.tuned.inverse_fits;
  }
    where
      lists_after : (b : Bool) → length (cond b (fill_each k.tiers k.state.tiers after.tiers) k.tiers) ≡ 4
      lists_after true = length_fill_each k.tiers k.state.tiers after.tiers ∙ K.typed.lists
      lists_after false = K.typed.lists

      lengths_after : (b : Bool) → length (cond b (lengths after.tiers) k.state.tiers) ≡ 4
      lengths_after true = length_lengths after.tiers ∙ shape.four
      lengths_after false = K.typed.lengths

  laid : (done c k).then ≡ lay (parts c) k after
  laid = ap (λ (o : Outcome). o.then) (accepts c k (judged_zero c k z) (own_zero c k z) (room_true c k z))

  held : view (done c k).then ≡ after
  held = held_after c k K.typed.lists K.typed.lengths z

  preserved : Kept (done c k).then
  unfolding whole_passes
  preserved = record {
    typed = subst (λ (x : Lent). Typed x) (sym laid) typed;
    passes =
        and_both _ _ (subst (λ (x : Lent). sizes_ok everything x ≡ true) (sym laid) sizes)
        (and_both _ _ (subst (λ (x : Held). store_passes everything x ≡ true) (sym held) (store_passes_lem after passes)) (subst (λ (x : Held). host_passes everything x ≡ true) (sym held) (host_passes_lem after passes)));
  }

-- THE THEOREM
pub passing_preserved : PassingPreserved
passing_preserved c k y K z = preserved c k y K z
