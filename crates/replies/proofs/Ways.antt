-- The ways through a public call, in the code's terms: what the judging gave, what the call's own refusals gave, what the step left. Assumes nothing.
use mathlib.Core.Path.{◌≡◌, refl, sym, ap, ◌∙◌}
use mathlib.Core.Bool.{Bool, true, false, cond, not}
use mathlib.Core.List.{List, []}
use Prim.Native.Nat.{ℕ, ◌≤◌}
use native.Mathlib.Omega.{arith}
use lib.ListN.{length}
use Rattle.kinds.specs.Numbers.{refusal_number}
use Rattle.kinds.specs.Lent.{Lent, Parts}
use Rattle.kinds.specs.Held.{Held}
use Rattle.kinds.specs.Layout.{view, lay}
use Rattle.kinds.specs.declared.Refusal.{Refusal}
use Rattle.kinds.specs.declared.Refusal.TheVariants.{Size, Store, Host, Clause, Tier as BadTier, Reference, Original, Asserting, Level, Open, Room, Decay}
use Rattle.std.specs.Result.{is_err}
use Rattle.std.specs.Prelude.{Result, Ok, Err}
use Rattle.calls.specs.Answers.{number_of}
use Rattle.calls.specs.Call.{Command, parts}
use Rattle.calls.specs.Size.{sizes_ok}
use Rattle.calls.specs.StorePasses.{store_passes}
use Rattle.calls.specs.HostPasses.{host_passes}
use Rattle.calls.specs.Refusing.{lowest}
use Rattle.calls.specs.Outcome.{Outcome, Answer, part_of, judged, own_number, step, answer, refused, accepted, done}
use Rattle.calls.proofs.Laws.{judge_refuses, call_refuses, call_accepts}
use Rattle.calls.proofs.Judged.{sizes_judged}
use Rattle.calls.proofs.Unchanged.{unchanged}

-- ---- the judging gives at most 3

one_of : (a b c : Bool) → cond (not a) 1 (cond (not b) 2 (cond (not c) 3 0)) ≤ 3
one_of true true true = omega arith
one_of true true false = omega arith
one_of true false c = omega arith
one_of false b c = omega arith

pub judged_most : (p : Parts) (k : Lent) → judged p k ≤ 3
unfolding judged lowest
judged_most p k = one_of (sizes_ok p k) (store_passes p (view k)) (host_passes p (view k))

-- a refusal's number is never 0
pub refusal_given : (r : Refusal) → refusal_number r ≡ 0 → ⊥
refusal_given Size e = cc
refusal_given Store e = cc
refusal_given Host e = cc
refusal_given Clause e = cc
refusal_given BadTier e = cc
refusal_given Reference e = cc
refusal_given Original e = cc
refusal_given Asserting e = cc
refusal_given Level e = cc
refusal_given Open e = cc
refusal_given Room e = cc
refusal_given Decay e = cc

-- ---- p: the parts that the call is lent

module _ (c : Command) (p : Parts) (lends : parts c ≡ p) (k : Lent) where
  judged_parts : judged (parts c) k ≡ judged p k
  judged_parts = ap (λ (q : Parts). judged q k) lends

  -- the judging gave 0, and the call's own refusals n
  pub own_way : judged p k ≡ 0 → (n : ℕ) → n ≡ own_number c k → (n ≡ 0 → ⊥) → done c k ≡ refused n k
  own_way j n e h = call_refuses c k (judged_parts ∙ j) n (sym e) h

  pub step_way : judged p k ≡ 0 → own_number c k ≡ 0 → done c k ≡ accepted (answer c (view k)) (lay p k (step c (view k)))
  step_way j o = call_accepts c k (judged_parts ∙ j) o ∙ ap (λ (q : Parts). accepted (answer c (view k)) (lay q k (step c (view k)))) lends

  -- a step that changes nothing. The two premises are facts of the types: four lists, four lengths
  pub still_way : step c (view k) ≡ view k → length k.tiers ≡ 4 → length k.state.tiers ≡ 4 → judged p k ≡ 0 → own_number c k ≡ 0 → done c k ≡ accepted (answer c (view k)) k
  still_way s four used j o =
      step_way j o
      ∙ ap (λ (h : Held). accepted (answer c (view k)) (lay p k h)) s
      ∙ ap (accepted (answer c (view k))) (unchanged p k four used (sizes_judged p k j))

-- ---- on what is lent

module _ (c : Command) (k : Lent) where
  -- the judging refused
  pub judge_told : (r : Refusal) → refusal_number r ≡ judged (parts c) k → refused (refusal_number r) k ≡ done c k
  judge_told r e = sym (judge_refuses c k (refusal_number r) (sym e) (refusal_given r))

  -- it passed, and the call's own refusals refused
  pub own_told : 0 ≡ judged (parts c) k → (r : Refusal) → refusal_number r ≡ own_number c k → refused (refusal_number r) k ≡ done c k
  own_told j r e = sym (call_refuses c k (sym j) (refusal_number r) (sym e) (refusal_given r))

  -- both passed, and the step was taken: after is what is lent then, a what is answered
  pub step_told : 0 ≡ judged (parts c) k → 0 ≡ own_number c k → {after : Lent} → after ≡ lay (parts c) k (step c (view k)) → (a : Answer) → a ≡ answer c (view k) → accepted a after ≡ done c k
  step_told j o {after} e a q = ap (λ (x : Answer). accepted x after) q ∙ ap (accepted (answer c (view k))) e ∙ sym (call_accepts c k (sym j) (sym o))

-- ---- where the judging hands the words back: k is what is lent, but for the words w, and w₁ the words handed back

module _ (c : Command) (k : List ℕ → Lent) {w w₁ : List ℕ} (same : w₁ ≡ w) where
  pub judge_refused : (r : Refusal) → refusal_number r ≡ judged (parts c) (k w) → refused (refusal_number r) (k w₁) ≡ done c (k w)
  judge_refused r e = ap (λ (x : List ℕ). refused (refusal_number r) (k x)) same ∙ judge_told c (k w) r e

  pub judge_passed : 0 ≡ judged (parts c) (k w) → judged (parts c) (k w₁) ≡ 0
  judge_passed j = ap (λ (x : List ℕ). judged (parts c) (k x)) same ∙ sym j

  pub own_refused : 0 ≡ judged (parts c) (k w) → (r : Refusal) → refusal_number r ≡ own_number c (k w₁) → refused (refusal_number r) (k w₁) ≡ done c (k w)
  own_refused j r e = own_told c (k w₁) (sym (judge_passed j)) r e ∙ ap (λ (x : List ℕ). done c (k x)) same

  pub step_taken : 0 ≡ judged (parts c) (k w) → 0 ≡ own_number c (k w₁) → {after : Lent} → after ≡ lay (parts c) (k w₁) (step c (view (k w₁))) → (a : Answer) → a ≡ answer c (view (k w₁)) → accepted a after ≡ done c (k w)
  step_taken j o e a q = step_told c (k w₁) (sym (judge_passed j)) o e a q ∙ ap (λ (x : List ℕ). done c (k x)) same

-- ---- the number and the part of what was told

pub number_told : (k : Lent) (n : ℕ) {o : Outcome} → o ≡ refused n k → n ≡ o.number
number_told k n d = sym (ap (λ (o : Outcome). o.number) d)

-- "A returned part is then empty"
pub part_none : (k : Lent) (n : ℕ) {o : Outcome} → o ≡ refused n k → [] ≡ part_of o.answer
part_none k n d = sym (ap (λ (o : Outcome). part_of o.answer) d)

pub part_told : (k : Lent) (a : Answer) {o : Outcome} → o ≡ accepted a k → part_of a ≡ part_of o.answer
part_told k a d = sym (ap (λ (o : Outcome). part_of o.answer) d)

module _ (c : Command) (k : Lent) (r : Refusal) (e : refusal_number r ≡ judged (parts c) k) where
  pub judge_number_told : refusal_number r ≡ (done c k).number
  judge_number_told = number_told k (refusal_number r) (sym (judge_told c k r e))

  pub judge_part : [] ≡ part_of (done c k).answer
  judge_part = part_none k (refusal_number r) (sym (judge_told c k r e))

-- ---- the judging's answer, taken apart by `is_err`

module _ (c : Command) (k : Lent) where
  pub judge_erred : (o : Result Unit Refusal) → number_of o ≡ judged (parts c) k → is_err o ≡ true → [] ≡ part_of (done c k).answer
  judge_erred (Ok u) e h = cc
  judge_erred (Err r) e h = judge_part c k r e

pub judge_fine : (p : Parts) (k : Lent) (o : Result Unit Refusal) → number_of o ≡ judged p k → is_err o ≡ false → 0 ≡ judged p k
judge_fine p k (Ok u) e h = e
judge_fine p k (Err r) e h = cc

-- where `if let Err(r)` took no refusal
pub judge_not_err : (p : Parts) (k : Lent) (o : Result Unit Refusal) → number_of o ≡ judged p k → ((r : Refusal) → o ≡ Err r → ⊥) → 0 ≡ judged p k
judge_not_err p k (Ok u) e h = e
judge_not_err p k (Err r) e h = absurd (h r refl)
