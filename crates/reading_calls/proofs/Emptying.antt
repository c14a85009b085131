-- Emptying the record: the ways through the call. Assumes nothing.
use mathlib.Core.Path.{◌≡◌, refl, sym, ap, ◌∙◌}
use mathlib.Core.Bool.{Bool, true, cond}
use mathlib.Core.List.{List}
use Prim.Native.Nat.{ℕ, ◌-◌, ◌≤◌}
use native.Mathlib.Omega.{arith}
use lib.ListN.{length, replicate}
use lib.Seq.{sets}
use borrow.Author.Tests.{le-leb}
use Rattle.laws.proofs.Fills.{fill_cut}
use Rattle.kinds.specs.Setters.{with_recorded}
use Rattle.kinds.specs.Lent.{Lent, lent_record}
use Rattle.kinds.specs.Layout.{view, side, lay, lay_state, lay_host, fit}
use Rattle.kinds.specs.declared.State.{State}
use Rattle.calls.specs.Call.{empty_record, parts, only_record}
use Rattle.calls.specs.Adding.{record_emptied}
use Rattle.calls.specs.Refusing.{lowest, own}
use Rattle.calls.specs.Outcome.{nothing, judged, refused_for, has_room, own_number, or_else, step, answer, accepted, done}
use Rattle.calls.proofs.Judged.{sizes_judged, record_sized_lem}
use Rattle.replies.proofs.Ways.{step_way}

pub lends : parts empty_record ≡ only_record
unfolding parts
lends = refl

module _ (s : State) (rec : List ℕ) where
  abbrev k : Lent
  k = lent_record s rec

  has_room_lem : has_room empty_record k ≡ true
  unfolding has_room fit parts step record_emptied
  has_room_lem = le-leb 0 (length rec) (omega arith)

  none_own : refused_for empty_record (view k) ≡ 0
  unfolding refused_for own lowest
  none_own = refl

  own_none : own_number empty_record k ≡ 0
  unfolding own_number
  own_none = ap (λ (x : ℕ). or_else x (cond (has_room empty_record k) 0 11)) none_own ∙ ap (λ (x : Bool). cond x 0 11) has_room_lem

  -- n: what the judging gave, 0
  module _ (n : ℕ) (e : n ≡ judged only_record k) (z : n ≡ 0) where
    pub used : s.recorded ≤ length rec
    used = (record_sized_lem only_record k (sizes_judged only_record k (sym e ∙ z)) refl).used

    laid : (rec₁ : List ℕ) → rec₁ ≡ sets rec 0 (replicate (s.recorded - 0) 0)
        → accepted nothing (lent_record (with_recorded 0 s) rec₁) ≡ accepted (answer empty_record (view k)) (lay only_record k (step empty_record (view k)))
    unfolding answer lay lay_state lay_host view side step record_emptied
    laid rec₁ w = ap (λ (l : List ℕ). accepted nothing (lent_record (with_recorded 0 s) l)) (w ∙ sym (fill_cut rec s.recorded 0 (omega arith) used))

    pub emptied : (rec₁ : List ℕ) → rec₁ ≡ sets rec 0 (replicate (s.recorded - 0) 0) → accepted nothing (lent_record (with_recorded 0 s) rec₁) ≡ done empty_record k
    emptied rec₁ w = laid rec₁ w ∙ sym (step_way empty_record only_record lends k (sym e ∙ z) own_none)
