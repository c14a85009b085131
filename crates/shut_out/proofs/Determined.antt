-- Outcomes that a contract allows are equal. Assumes nothing.
use mathlib.Core.Path.{◌≡◌, sym, ap, ◌∙◌}
use Rattle.kinds.specs.Lent.{Lent}
use Rattle.calls.specs.Call.{Call}
use Rattle.calls.specs.Outcome.{Outcome, outcome}
use Rattle.shut_out.specs.ShutOut.{SameOutcome, Determined}

same_outcome : (a b : Outcome) → a ≡ b → SameOutcome a b
same_outcome a b e = record {
  number = ap (λ (o : Outcome). o.number) e;
  answer = ap (λ (o : Outcome). o.answer) e;
  state = ap (λ (o : Outcome). o.then.state) e;
  words = ap (λ (o : Outcome). o.then.words) e;
  clauses = ap (λ (o : Outcome). o.then.clauses) e;
  tiers = ap (λ (o : Outcome). o.then.tiers) e;
  rows = ap (λ (o : Outcome). o.then.rows) e;
  counts = ap (λ (o : Outcome). o.then.counts) e;
  rec = ap (λ (o : Outcome). o.then.rec) e;
  host = ap (λ (o : Outcome). o.then.host) e;
  whole = e;
}

pub determined : Determined
determined c k a b p q = same_outcome a b (p ∙ sym q)
