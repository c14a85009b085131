-- Lent rows that were judged: what the code may take for granted. Assumes nothing.
use mathlib.Core.Path.{◌≡◌, refl, sym, ap, ◌∙◌, subst}
use mathlib.Core.List.{List}
use Prim.Native.Nat.{ℕ, ◌*◌, ◌^◌, ◌≤◌, ◌<◌}
use native.Mathlib.Omega.{arith}
use native.Mathlib.Nat.{div-le_self, mul-div-le}
use lib.ListN.{length}
use Rattle.laws.specs.Fold.{sum_below}
use Rattle.laws.specs.Lists.{at, list_at}
use Rattle.laws.proofs.Totals.{sum_le}
use Rattle.kinds.specs.Lent.{Lent, lent_rows, room_of}
use Rattle.kinds.specs.Layout.{rows_of, view}
use Rattle.kinds.specs.declared.State.{State}
use Rattle.kinds.proofs.Layouts.{Sized}
use Rattle.kinds.proofs.RowLayout.{lengths_rows, at_lengths}
use Rattle.calls.specs.Call.{only_rows}
use Rattle.calls.specs.StorePasses.{row_length}
use Rattle.calls.specs.Outcome.{judged}
use Rattle.calls.proofs.Judged.{sizes_judged, store_judged, vars_low, vars_high, rows_most, counts_long, counts_within}
use Rattle.calls.proofs.Readings.{rows_pass_lem, rows_read}
use Rattle.calls.proofs.Unchanged.{rows_sized_lem}

pub record RowsReady (s : State) (rows counts : List ℕ) : Type 0 where
  pub low : 0 < s.vars
  pub high : s.vars ≤ 65536
  pub most : length rows ≤ 2 ^ 24
  pub long : length counts ≡ 2 * s.vars
  pub within : (c : ℕ) → c < length counts → at counts c ≤ room_of s.vars rows
  pub whole : length counts * room_of s.vars rows ≤ length rows
  pub room : room_of s.vars rows < 2 ^ 32
  pub sized : Sized (room_of s.vars rows) counts rows
  pub few : s.binary ≤ 2 ^ 24

-- a row is as long as its count says
pub row_length_lem : (m : ℕ) (counts rows : List ℕ) → Sized m counts rows → (c : ℕ) → length (list_at (rows_of m counts rows) c) ≡ at counts c
row_length_lem m counts rows z c = sym (at_lengths (rows_of m counts rows) c) ∙ ap (λ (l : List ℕ). at l c) (lengths_rows m counts rows z)

module _ (s : State) (rows counts : List ℕ) where
  abbrev k : Lent
  k = lent_rows s rows counts

  abbrev m : ℕ
  m = room_of s.vars rows

  row_short : Sized m counts rows → ((c : ℕ) → c < 2 * s.vars → at counts c ≤ m) → (c : ℕ) → c < 2 * s.vars → row_length (view k) c ≤ m
  unfolding row_length view
  row_short z h c g = subst (λ (n : ℕ). n ≤ room_of s.vars rows) (sym (row_length_lem m counts rows z c)) (h c g)

  half : judged only_rows k ≡ 0 → s.binary * 2 ≡ sum_below (row_length (view k)) (2 * s.vars)
  unfolding view
  half j = (rows_read (view k) (rows_pass_lem only_rows (view k) (store_judged only_rows k j) refl)).half

  pub rows_ready : judged only_rows k ≡ 0 → RowsReady s rows counts
  rows_ready j =
      let z = sizes_judged only_rows k j in
      let low = vars_low only_rows k z refl in
      let most = rows_most only_rows k z refl in
      let long = counts_long only_rows k z refl in
      let sized = rows_sized_lem only_rows k z refl in
      let all = mul-div-le (length rows) (2 * s.vars) in
      let small = div-le_self (length rows) (2 * s.vars) in
      let sum = sum_le (row_length (view k)) (2 * s.vars) m (row_short sized (counts_within only_rows k z refl)) in
      let twice = half j in
      record {
        low = omega arith;
        high = vars_high only_rows k z refl;
        most = most;
        long = long;
        within = λ c h. counts_within only_rows k z refl c (omega arith);
        whole = subst (λ (n : ℕ). n * room_of s.vars rows ≤ length rows) (sym long) all;
        room = omega arith;
        sized = sized;
        few = omega arith;
      }
