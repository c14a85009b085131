-- The fields of a view, as the calls' definitions have them.
use Rattle.std.specs.Prelude.{ℕ}
use Rattle.laws.specs.Fold.{one}
use Rattle.kinds.specs.Header.{tier_of, deleted_of, mark_of, glue_of, active_of}
use Rattle.kinds.specs.Numbers.{tier_number}
use Rattle.calls.specs.Viewing.{Fields}
use Rattle.view.specs.declared.HeaderFields.{HeaderFields}

abbrev pub shown : HeaderFields → Fields
shown f = record {
  activity = f.activity;
  tier = tier_number f.tier;
  deleted = one f.deleted;
  mark = one f.mark;
  glue = f.glue;
  active = one f.active;
  len = f.len;
}

-- the fields of three header words
abbrev pub fields_from : ℕ → ℕ → ℕ → Fields
fields_from activity word len = record {
  activity = activity;
  tier = tier_of word;
  deleted = deleted_of word;
  mark = mark_of word;
  glue = glue_of word;
  active = active_of word;
  len = len;
}
