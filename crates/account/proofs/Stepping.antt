-- Every accepted command but emptying the record is accounted for: one law for each. Assumes nothing.
use mathlib.Core.Path.{◌≡◌, refl}
use mathlib.Core.List.{List, [], ◌∷◌}
use Prim.Native.Nat.{ℕ}
use native.Mathlib.Omega.{arith}
use lib.Dec.{eqb}
use Rattle.laws.specs.Lists.{at}
use Rattle.kinds.specs.Clauses.{Clause, pair, lits_at, original_at}
use Rattle.kinds.specs.Lent.{Lent}
use Rattle.kinds.specs.Held.{Held}
use Rattle.kinds.specs.Layout.{view}
use Rattle.calls.specs.Call.{Command, add_clause, set_tier, delete, add_binary, implied, literals, assess, bump, decay, set_decay, reduce_locals, reduce_mids, collect, prove_units, unit_simplify, empty_record, view_fields, view_literal, parts}
use Rattle.calls.specs.Adding.{tier_set}
use Rattle.calls.specs.Bumping.{decay_set}
use Rattle.calls.specs.Reducing.{mids_reduced}
use Rattle.calls.specs.Outcome.{step, number}
use Rattle.account.specs.Weights.{Blind, Chained}
use Rattle.account.proofs.Moves.{Moves}
use Rattle.account.proofs.Heads.{alike_refl, unmoved_refl, unmoved_moves}
use Rattle.account.proofs.Pairs.{pair_moves}
use Rattle.account.proofs.Striking.{strikes_redundant, redundant_reason, struck_moves}
use Rattle.account.proofs.Adding.{long_moves}
use Rattle.account.proofs.Tiers.{tier_unmoved}
use Rattle.account.proofs.Bumping.{bump_moves, decay_moves}
use Rattle.account.proofs.Reducing.{locals_moves, mids_unmoved}
use Rattle.account.proofs.Collecting.{collect_moves}
use Rattle.account.proofs.Units.{units_moves}
use Rattle.account.proofs.Simplifying.{simplify_moves}
use Rattle.account.proofs.Accepted.{read_tier, long_facts, tier_facts, delete_facts, pair_facts, bump_facts, simplify_facts}

-- the clauses that a command adds
abbrev pub new_in : Command → List Clause
new_in (add_clause t g ls) = record { original = eqb t 0; lits = ls } ∷ []
new_in (set_tier o t) = []
new_in (delete o) = []
new_in (add_binary ls) = pair (at ls 0) (at ls 1) ∷ []
new_in (implied l) = []
new_in (literals o) = []
new_in (assess ls) = []
new_in (bump o) = []
new_in decay = []
new_in (set_decay d) = []
new_in reduce_locals = []
new_in reduce_mids = []
new_in collect = []
new_in prove_units = []
new_in unit_simplify = []
new_in empty_record = []
new_in (view_fields ws) = []
new_in (view_literal ws i) = []

module _ (w : Clause → ℕ) (blind : Blind w) (k : Lent) (c : Chained (view k)) where
  abbrev h : Held
  h = view k

  abbrev a : List ℕ
  a = h.host.values

  same : Moves w a [] h h
  same = unmoved_moves w a h h c (unmoved_refl h)

  set_moves : (o t : ℕ) → number (set_tier o t) k ≡ 0 → Moves w a [] h (tier_set t o h)
  set_moves o t z = let f = tier_facts k o t z in unmoved_moves w a h (tier_set t o h) c (tier_unmoved h c o f.listed t f.tier f.class)

  pub step_moves : (d : Command) → (d ≡ empty_record → ⊥) → number d k ≡ 0 → Moves w a (new_in d) h (step d h)
  unfolding step decay_set parts
  step_moves (add_clause t g ls) n z = let f = long_facts k t g ls z in long_moves w a h c t g ls f.tier f.room
  step_moves (set_tier o t) n z = set_moves o t z
  step_moves (delete o) n z = let f = delete_facts k o z in struck_moves w h c o f.listed a 4 f.live (rw f.class (strikes_redundant 4)) (λ q. redundant_reason a (original_at h.words o) f.class q (lits_at h.words o))
  step_moves (add_binary ls) n z = let f = pair_facts k ls z in pair_moves w blind (at ls 0) (at ls 1) f.differ a h c f.first f.second
  step_moves (implied l) n z = same
  step_moves (literals o) n z = same
  step_moves (assess ls) n z = same
  step_moves (bump o) n z = let f = bump_facts k o z in bump_moves w a h c o f.listed f.live f.glue
  step_moves decay n z = decay_moves w a h c
  step_moves (set_decay d) n z = unmoved_moves w a h (decay_set d h) c (record { used = refl; clauses = refl; rows = refl; rec = refl; alike = alike_refl h.clauses h.words })
  step_moves reduce_locals n z = locals_moves w a h c (read_tier reduce_locals k z refl 3 (omega arith))
  step_moves reduce_mids n z = unmoved_moves w a h (mids_reduced h) c (mids_unmoved h c (read_tier reduce_mids k z refl 2 (omega arith)))
  step_moves collect n z = collect_moves h c w a
  step_moves prove_units n z = units_moves w a h c
  step_moves unit_simplify n z = let f = simplify_facts k z in simplify_moves w blind h c f.clauses f.rows
  step_moves empty_record n z = absurd (n refl)
  step_moves (view_fields ws) n z = same
  step_moves (view_literal ws i) n z = same
