-- What document 01 shuts out, each thing by its lemma. Assumes nothing.
use mathlib.Core.Path.{◌≡◌, refl, sym, ap, ◌∙◌}
use mathlib.Core.Bool.{Bool, true, false, true≢false}
use mathlib.Core.List.{List, [], ◌∷◌}
use Prim.Native.Nat.{ℕ, ◌+◌, ◌≤◌, ◌<◌}
use native.Mathlib.Omega.{arith}
use lib.ListN.{length, replicate}
use Rattle.laws.specs.Fold.{count_below, sum_below}
use Rattle.laws.specs.Lists.{at}
use Rattle.laws.proofs.Folds.{and_left, and_right}
use Rattle.kinds.specs.Clauses.{size_at}
use Rattle.kinds.specs.Lent.{Lent}
use Rattle.kinds.specs.Held.{Held}
use Rattle.kinds.specs.Layout.{view}
use Rattle.calls.specs.Call.{Command, delete, collect, start, on, everything}
use Rattle.calls.specs.Size.{sizes_ok}
use Rattle.calls.specs.StorePasses.{live_in, live_size, words_pass, store_passes}
use Rattle.calls.specs.Adding.{removed, strike_noted, struck}
use Rattle.calls.specs.Outcome.{Outcome, Answer, nothing, reference, rebuild, proved, assessed, part, fields, literal, outcome, step, number, done}
use Rattle.calls.specs.Compute.{computing}
use Rattle.calls.specs.Points.{half_empty}
use Rattle.calls.specs.Small.{fresh, half}
use Rattle.calls.proofs.Readings.{Words, words_pass_lem, held_words}
use Rattle.demands.specs.Demands.{whole_passes, TypedCall, Kept}
use Rattle.passing.proofs.Always.{always_kept, kept_judged}
use Rattle.account.specs.Four.{Four}
use Rattle.account.proofs.Running.{view_stepped}
use Rattle.account.proofs.ShutOut as held
use Rattle.shut_out.specs.ShutOut.{ShutOut, one_clause, each_command, numbers}

-- ---- computed on small stores

each_accepted : numbers each_command one_clause ≡ replicate 18 0
unfolding computing
each_accepted = refl

start_accepted : (outcome (start 4 half) (fresh 4 14 3 1 9)).number ≡ 0
unfolding computing
start_accepted = refl

abbrev emptied : Lent
emptied = (outcome (on (delete 0)) one_clause).then

-- a deleted clause cannot be deleted again: 6
deleted_heard : ((outcome (on (delete 0)) one_clause).number ≡ 0) × ((outcome (on (delete 0)) emptied).number ≡ 6)
unfolding computing
deleted_heard = (refl, refl)

numbers_differ : (outcome (on (delete 0)) one_clause).number ≡ (outcome (on (delete 0)) emptied).number → ⊥
numbers_differ e = let z : ◌≡◌ {A = ℕ} 0 6 = sym deleted_heard.0 ∙ e ∙ deleted_heard.1 in absurd (omega arith)

collect_heard : ((outcome (on collect) one_clause).answer ≡ rebuild false) × ((outcome (on collect) (half_empty (0 ∷ 2 ∷ 4 ∷ 6 ∷ []))).answer ≡ rebuild true)
unfolding computing
collect_heard = (refl, refl)

abbrev rebuilds : Answer → Bool
rebuilds nothing = false
rebuilds (reference o) = false
rebuilds (rebuild b) = b
rebuilds (proved b) = false
rebuilds (assessed t g) = false
rebuilds (part l) = false
rebuilds (fields f) = false
rebuilds (literal l) = false

answers_differ : (outcome (on collect) one_clause).answer ≡ (outcome (on collect) (half_empty (0 ∷ 2 ∷ 4 ∷ 6 ∷ []))).answer → ⊥
answers_differ e = true≢false (sym (ap rebuilds (sym collect_heard.0 ∙ e ∙ collect_heard.1)))

both_accepted : (number collect one_clause ≡ 0) × (number collect (half_empty (0 ∷ 2 ∷ 4 ∷ 6 ∷ [])) ≡ 0)
unfolding computing
both_accepted = (refl, refl)

-- ---- of every store that passes

module _ (k : Lent) (K : Kept k) where
  kept_words : Words (view k).words (view k).vars (view k).used (view k).clauses (length (view k).clauses) (view k).counts (view k).garbage
  unfolding whole_passes
  kept_words = held_words (view k) (words_pass_lem everything (view k) (and_left _ _ (and_right (sizes_ok everything k) _ K.passes)) refl)

  four : Four k
  four = record { lists = K.typed.lists; used = K.typed.lengths }

counts_true : (c : Command) (k : Lent) → TypedCall c → Kept k → (t : ℕ) → t < 4
    → at (view (done c k).then).counts t ≡ count_below (live_in (view (done c k).then).words (view (done c k).then).clauses t) (length (view (done c k).then).clauses)
counts_true c k y K = (kept_words (done c k).then (always_kept c k y K)).counts

garbage_bounded : (c : Command) (k : Lent) → TypedCall c → Kept k
    → (view (done c k).then).garbage + sum_below (live_size (view (done c k).then).words (view (done c k).then).clauses) (length (view (done c k).then).clauses) ≤ (view (done c k).then).used
garbage_bounded c k y K = (kept_words (done c k).then (always_kept c k y K)).garbage

garbage_exact : (o : ℕ) (k : Lent) → Kept k → number (delete o) k ≡ 0 → (view (done (delete o) k).then).garbage ≡ (view k).garbage + size_at (view k).words o
unfolding step struck removed strike_noted
garbage_exact o k K z = ap (λ (h : Held). h.garbage) (view_stepped (delete o) k (four k K) z)

pub shut_out : ShutOut
shut_out = record {
  passing_heard = kept_judged;
  each_accepted = each_accepted;
  start_accepted = start_accepted;
  numbers_differ = numbers_differ;
  answers_differ = answers_differ;
  both_accepted = both_accepted;
  counts_true = counts_true;
  garbage_bounded = garbage_bounded;
  garbage_exact = garbage_exact;
  long_stored = λ t g ls k K. held.long_stored k (four k K) t g ls;
  pair_stored = λ ls k K. held.pair_stored k (four k K) ls;
  all_simplified = λ k K. held.none_assigned k (four k K);
  none_false = λ k K. held.none_false k (four k K);
}
