-- Reading implied literals: the ways through the two calls. Assumes nothing.
use mathlib.Core.Path.{◌≡◌, refl, sym, ap, ◌∙◌, subst}
use mathlib.Core.Bool.{Bool, true, false, cond, not}
use mathlib.Core.List.{List, []}
use Prim.Native.Nat.{ℕ, ◌*◌, ◌≤◌, ◌<◌}
use native.Mathlib.Omega.{arith}
use lib.ListN.{length}
use lib.Dec.{ltb}
use borrow.Author.Tests.{lt-ltb, le-ltb, le-leb}
use Rattle.laws.specs.Fold.{all_below}
use Rattle.laws.specs.Lists.{list_at}
use Rattle.laws.proofs.Folds.{all_of, and_both}
use Rattle.kinds.specs.Lent.{Lent, lent_rows, room_of}
use Rattle.kinds.specs.Layout.{rows_of, view, lay, fit, fit_row}
use Rattle.kinds.specs.declared.State.{State}
use Rattle.calls.specs.Call.{implied, parts, only_rows}
use Rattle.calls.specs.Refusing.{lowest, own, literal_wrong}
use Rattle.calls.specs.Outcome.{Outcome, judged, refused_for, has_room, own_number, or_else, step, answer, part, part_of, refused, accepted, done}
use Rattle.replies.proofs.Ways.{own_way, step_way, part_none, part_told}
use Rattle.binary_calls.proofs.Rows.{RowsReady, rows_ready, row_length_lem}

module _ (s : State) (rows counts : List ℕ) (l : ℕ) where
  abbrev k : Lent
  k = lent_rows s rows counts

  pub lends : parts (implied l) ≡ only_rows
  unfolding parts
  lends = refl

  row_fits : RowsReady s rows counts → (c : ℕ) → c < 2 * s.vars → fit_row k (view k) c ≡ true
  unfolding fit_row view
  row_fits r c h =
      let long = r.long in
      le-leb (length (list_at (rows_of (room_of s.vars rows) counts rows) c)) (room_of s.vars rows)
      (subst (λ (n : ℕ). n ≤ room_of s.vars rows) (sym (row_length_lem (room_of s.vars rows) counts rows r.sized c)) (r.within c (omega arith)))

  has_room_lem : RowsReady s rows counts → has_room (implied l) k ≡ true
  unfolding has_room fit parts step
  has_room_lem r = and_both (all_below (fit_row k (view k)) (2 * s.vars)) true (all_of (fit_row k (view k)) (2 * s.vars) (row_fits r)) refl

  refusal : (b : Bool) → ltb l (2 * s.vars) ≡ b → refused_for (implied l) (view k) ≡ cond b 0 4
  unfolding refused_for own lowest literal_wrong view
  refusal true e = ap (λ (x : Bool). cond (not x) 4 0) e
  refusal false e = ap (λ (x : Bool). cond (not x) 4 0) e

  own_four : 2 * s.vars ≤ l → 4 ≡ own_number (implied l) k
  unfolding own_number
  own_four h = sym (ap (λ (x : ℕ). or_else x (cond (has_room (implied l) k) 0 11)) (refusal false (le-ltb l (2 * s.vars) h)))

  own_none : judged only_rows k ≡ 0 → l < 2 * s.vars → own_number (implied l) k ≡ 0
  unfolding own_number
  own_none j h =
      ap (λ (x : ℕ). or_else x (cond (has_room (implied l) k) 0 11)) (refusal true (lt-ltb l (2 * s.vars) h))
      ∙ ap (λ (x : Bool). cond x 0 11) (has_room_lem (rows_ready s rows counts j))

  -- n: what the judging gave
  module _ (n : ℕ) (e : n ≡ judged only_rows k) where
    literal_refused : n ≡ 0 → 2 * s.vars ≤ l → done (implied l) k ≡ refused 4 k
    literal_refused z h = own_way (implied l) only_rows lends k (sym e ∙ z) 4 (own_four h) (λ q. omega arith)

    read : n ≡ 0 → l < 2 * s.vars → done (implied l) k ≡ accepted (answer (implied l) (view k)) (lay only_rows k (step (implied l) (view k)))
    read z h = step_way (implied l) only_rows lends k (sym e ∙ z) (own_none (sym e ∙ z) h)

    -- the part
    pub part_wrong : n ≡ 0 → 2 * s.vars ≤ l → [] ≡ part_of (done (implied l) k).answer
    part_wrong z h = part_none k 4 (literal_refused z h)

    answered : answer (implied l) (view k) ≡ part (list_at (rows_of (room_of s.vars rows) counts rows) l)
    unfolding answer view
    answered = refl

    pub part_read : n ≡ 0 → l < 2 * s.vars → (x : List ℕ) → x ≡ list_at (rows_of (room_of s.vars rows) counts rows) l → x ≡ part_of (done (implied l) k).answer
    part_read z h x q = q ∙ ap part_of (sym answered) ∙ part_told (lay only_rows k (step (implied l) (view k))) (answer (implied l) (view k)) (read z h)

    -- the number beside it
    pub number_wrong : n ≡ 0 → 2 * s.vars ≤ l → 4 ≡ (done (implied l) k).number
    number_wrong z h = sym (ap (λ (o : Outcome). o.number) (literal_refused z h))

    pub number_read : n ≡ 0 → l < 2 * s.vars → 0 ≡ (done (implied l) k).number
    number_read z h = sym (ap (λ (o : Outcome). o.number) (read z h))

    pub ready : n ≡ 0 → RowsReady s rows counts
    ready z = rows_ready s rows counts (sym e ∙ z)
