-- "Every public call has a contract that determines answer, state and every lent word, on refusals too; outcomes it allows are shown equal" and "Shut out: ..", as statements.
use Rattle.std.specs.Prelude.{◌≡◌, Bool, true, false, List, [], ◌∷◌, ◌++◌, ℕ, ◌+◌, ◌≤◌, ◌<◌, length, replicate, eqb}
use Rattle.laws.specs.Fold.{count_below, sum_below}
use Rattle.laws.specs.Lists.{at, elem}
use Rattle.kinds.specs.Clauses.{pair, lits_at, size_at, is_live, longs}
use Rattle.kinds.specs.Lent.{Lent, Parts}
use Rattle.kinds.specs.Held.{is_false}
use Rattle.kinds.specs.Layout.{view}
use Rattle.calls.specs.Call.{Command, add_clause, set_tier, delete, add_binary, implied, literals, assess, bump, decay, set_decay, reduce_locals, reduce_mids, collect, prove_units, unit_simplify, empty_record, view_fields, view_literal, Call, start, on}
use Rattle.calls.specs.StorePasses.{live_in, live_size}
use Rattle.calls.specs.Outcome.{Outcome, outcome, judged, number, done}
use Rattle.calls.specs.Small.{run, fresh, half, call}
use Rattle.calls.specs.Points.{local, half_empty}
use Rattle.demands.specs.Sets.{times}
use Rattle.demands.specs.Runs.{all_held}
use Rattle.demands.specs.Demands.{TypedCall, Kept}
use Rattle.account.specs.Open.{AllOpen}

-- ---- two outcomes of a call that its contract allows: each part of them is the same

pub record SameOutcome (a b : Outcome) : Type 0 where
  pub number : a.number ≡ b.number
  pub answer : a.answer ≡ b.answer
  pub state : a.then.state ≡ b.then.state
  pub words : a.then.words ≡ b.then.words
  pub clauses : a.then.clauses ≡ b.then.clauses
  pub tiers : a.then.tiers ≡ b.then.tiers
  pub rows : a.then.rows ≡ b.then.rows
  pub counts : a.then.counts ≡ b.then.counts
  pub rec : a.then.rec ≡ b.then.rec
  pub host : a.then.host ≡ b.then.host
  pub whole : a ≡ b

-- a contract is the equation `the outcome ≡ outcome c k`
abbrev pub Determined : Type 0
Determined = (c : Call) (k : Lent) (a b : Outcome) → a ≡ outcome c k → b ≡ outcome c k → SameOutcome a b

-- ---- small stores: one clause; P5's, of which a collection is due, and not

abbrev pub one_clause : Lent
one_clause = run (call (start 4 half) ∷ local (0 ∷ 2 ∷ 4 ∷ []) ∷ []) (fresh 4 14 3 1 9)

-- each of the commands, with arguments that suit this store
abbrev pub each_command : List Command
each_command = add_clause 3 1 (1 ∷ 3 ∷ 5 ∷ []) ∷ set_tier 0 2 ∷ delete 0 ∷ add_binary (0 ∷ 2 ∷ []) ∷ implied 0 ∷ literals 0 ∷ assess (0 ∷ 2 ∷ []) ∷ bump 0 ∷ decay ∷ set_decay half ∷ reduce_locals ∷ reduce_mids
    ∷ collect ∷ prove_units ∷ unit_simplify ∷ empty_record ∷ view_fields (0 ∷ 3 ∷ 3 ∷ 0 ∷ 2 ∷ 4 ∷ []) ∷ view_literal (0 ∷ 3 ∷ 3 ∷ 0 ∷ 2 ∷ 4 ∷ []) 0 ∷ []

-- what each hears of the same store
abbrev pub numbers : List Command → Lent → List ℕ
numbers [] k = []
numbers (c ∷ cs) k = number c k ∷ numbers cs k

pub record ShutOut : Type 0 where
  -- "refusing everything": what passes is never refused 1, 2 or 3; and there is no call that is always refused
  pub passing_heard : (k : Lent) → Kept k → (p : Parts) → judged p k ≡ 0
  pub each_accepted : numbers each_command one_clause ≡ replicate 18 0
  pub start_accepted : (outcome (start 4 half) (fresh 4 14 3 1 9)).number ≡ 0
  -- "a constant answer": the same call answers differently on two stores, by its number, and by its answer where it is accepted
  pub numbers_differ : (outcome (on (delete 0)) one_clause).number ≡ (outcome (on (delete 0)) (outcome (on (delete 0)) one_clause).then).number → ⊥
  pub answers_differ : (outcome (on collect) one_clause).answer ≡ (outcome (on collect) (half_empty (0 ∷ 2 ∷ 4 ∷ 6 ∷ []))).answer → ⊥
  pub both_accepted : (number collect one_clause ≡ 0) × (number collect (half_empty (0 ∷ 2 ∷ 4 ∷ 6 ∷ [])) ≡ 0)
  -- "invented counts or garbage": after any call the counts are those of the live clauses of each tier, and garbage lies in what these leave
  pub counts_true : (c : Command) (k : Lent) → TypedCall c → Kept k → (t : ℕ) → t < 4
      → at (view (done c k).then).counts t ≡ count_below (live_in (view (done c k).then).words (view (done c k).then).clauses t) (length (view (done c k).then).clauses)
  pub garbage_bounded : (c : Command) (k : Lent) → TypedCall c → Kept k
      → (view (done c k).then).garbage + sum_below (live_size (view (done c k).then).words (view (done c k).then).clauses) (length (view (done c k).then).clauses) ≤ (view (done c k).then).used
  -- "Deleting adds length + 3 to garbage."
  pub garbage_exact : (o : ℕ) (k : Lent) → Kept k → number (delete o) k ≡ 0 → (view (done (delete o) k).then).garbage ≡ (view k).garbage + size_at (view k).words o
  -- "storing nothing": the given long clause stands behind those held before; the given pair stands once more
  pub long_stored : (t g : ℕ) (ls : List ℕ) (k : Lent) → Kept k → number (add_clause t g ls) k ≡ 0
      → longs (view (done (add_clause t g ls) k).then).words (view (done (add_clause t g ls) k).then).clauses ≡ longs (view k).words (view k).clauses ++ (record { original = eqb t 0; lits = ls } ∷ [])
  pub pair_stored : (ls : List ℕ) (k : Lent) → Kept k → number (add_binary ls) k ≡ 0 → (b : Bool) (c : List ℕ)
      → times b c (all_held (view (done (add_binary ls) k).then)) ≡ times b c (all_held (view k)) + times b c (pair (at ls 0) (at ls 1) ∷ [])
  -- "simplifying only the first clause": afterwards every clause held, long or binary, has unassigned literals alone; so no live long clause has a false one
  pub all_simplified : (k : Lent) → Kept k → number unit_simplify k ≡ 0 → AllOpen k.host.values (all_held (view (done unit_simplify k).then))
  pub none_false : (k : Lent) → Kept k → number unit_simplify k ≡ 0 → (o : ℕ) → is_live (view (done unit_simplify k).then).words (view (done unit_simplify k).then).clauses o ≡ true
      → (x : ℕ) → elem x (lits_at (view (done unit_simplify k).then).words o) ≡ true → is_false k.host.values x ≡ false
