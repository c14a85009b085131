-- What a caller in another language hears of an outcome: numbers only.
use Rattle.std.specs.Prelude.{cond, List, [], ◌∷◌, ℕ, length, take, drop, eqb}
use Rattle.std.specs.Float.{binary32}
use Rattle.std.specs.Float.Ieee.{to_bits}
use Rattle.laws.specs.Fold.{one}
use Rattle.laws.specs.Lists.{at}
use Rattle.kinds.specs.Lent.{Lent}
use Rattle.kinds.specs.declared.State.{State}
use Rattle.calls.specs.Viewing.{Fields}
use Rattle.calls.specs.Outcome.{Outcome, Answer, nothing, reference, rebuild, proved, assessed, part, fields, literal, part_of}
use Rattle.store_kinds.specs.declared.FieldNumbers.{FieldNumbers}
use Rattle.store_kinds.specs.declared.Part.{Part}
use Rattle.store_kinds.specs.declared.AssessedNumbers.{AssessedNumbers}

-- An answer that is one value: the reference, 1 for "rebuild them" and for a new unit, the literal. 0 where it says nothing, or more than one value.
abbrev pub value : Answer → ℕ
value nothing = 0
value (reference o) = o
value (rebuild b) = one b
value (proved b) = one b
value (assessed t g) = 0
value (part l) = 0
value (fields f) = 0
value (literal l) = l

-- The two values of assessing, each 0 where it is refused.
abbrev pub tier_said : Answer → ℕ
tier_said nothing = 0
tier_said (reference o) = 0
tier_said (rebuild b) = 0
tier_said (proved b) = 0
tier_said (assessed t g) = t
tier_said (part l) = 0
tier_said (fields f) = 0
tier_said (literal l) = 0

abbrev pub glue_said : Answer → ℕ
glue_said nothing = 0
glue_said (reference o) = 0
glue_said (rebuild b) = 0
glue_said (proved b) = 0
glue_said (assessed t g) = g
glue_said (part l) = 0
glue_said (fields f) = 0
glue_said (literal l) = 0

-- The fields of a view.
abbrev pub fields_heard : FieldNumbers → Fields
fields_heard f = record {
  activity = f.activity;
  tier = f.tier;
  deleted = f.deleted;
  mark = f.mark;
  glue = f.glue;
  active = f.active;
  len = f.len;
}

-- An outcome as it is heard.
pub record Heard : Type 0 where
  pub number : ℕ
  pub value : ℕ
  pub then : Lent

abbrev pub heard : Outcome → Heard
heard o = record { number = o.number; value = value o.answer; then = o.then }

-- Assessing as it is heard.
pub record AssessedHeard : Type 0 where
  pub number : ℕ
  pub tier : ℕ
  pub glue : ℕ

abbrev pub assessed_given : AssessedNumbers → AssessedHeard
assessed_given a = record { number = a.number; tier = a.tier; glue = a.glue }

abbrev pub assessed_heard : Outcome → AssessedHeard
assessed_heard o = record { number = o.number; tier = tier_said o.answer; glue = glue_said o.answer }

-- A returned part as it is heard: the number, where the part starts in the lent buffer, its length, and what stands there. A refused one starts at 0.
pub record PartHeard : Type 0 where
  pub number : ℕ
  pub start : ℕ
  pub len : ℕ
  pub lits : List ℕ

abbrev pub part_given : List ℕ → Part → PartHeard
part_given buf p = record { number = p.number; start = p.start; len = p.len; lits = take p.len (drop p.start buf) }

-- place: where the buffer keeps it
abbrev pub part_heard : ℕ → Outcome → PartHeard
part_heard place o = record { number = o.number; start = cond (eqb o.number 0) place 0; len = length (part_of o.answer); lits = part_of o.answer }

-- ---- the state's numbers, as its declaration lists them; a float goes as its bits
unfoldable pub state_numbers : State → List ℕ
state_numbers s = s.vars ∷ s.words ∷ s.clauses ∷ at s.tiers 0 ∷ at s.tiers 1 ∷ at s.tiers 2 ∷ at s.tiers 3 ∷ s.recorded
    ∷ at s.counts 0 ∷ at s.counts 1 ∷ at s.counts 2 ∷ at s.counts 3 ∷ s.garbage ∷ s.binary ∷ to_bits binary32 s.activity.bump ∷ to_bits binary32 s.activity.inv_decay ∷ []
