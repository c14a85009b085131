-- What the judging and the refusals 9 to 11 say of the clauses, the rows and the sizes: the facts that the two halves stand on. Assumes nothing.
use mathlib.Core.Path.{◌≡◌, refl, sym, ap, ◌∙◌, subst}
use mathlib.Core.Bool.{Bool, true, false, cond, not, ◌&&◌, ◌||◌}
use mathlib.Core.List.{List, [], ◌∷◌}
use Prim.Native.Nat.{ℕ, ◌+◌, ◌*◌, ◌≤◌, ◌<◌}
use native.Mathlib.Omega.{arith}
use native.Mathlib.Nat.{mul-div-le}
use lib.ListN.{length, take, drop}
use lib.Seq.{length-take-le, get_or-take, get_or-drop}
use lib.Dec.{ltb}
use borrow.Author.Tests.{ltb-false}
use Rattle.laws.specs.Fold.{any_below, one}
use Rattle.laws.specs.Lists.{at, list_at}
use Rattle.laws.proofs.Entries.{none_at}
use Rattle.kinds.specs.Clauses.{lits_at, deleted_at, neg}
use Rattle.kinds.specs.Lent.{Lent, room_of}
use Rattle.kinds.specs.Held.{is_true, is_open}
use Rattle.kinds.specs.Layout.{rows_of, view, side}
use Rattle.kinds.proofs.RowLayout.{length_rows, row_at, at_lengths, lengths_rows}
use Rattle.kinds.proofs.Layouts.{sized_of}
use Rattle.calls.specs.Call.{everything}
use Rattle.calls.specs.StorePasses.{live_at}
use Rattle.calls.specs.Refusing.{open_count, lacking, long_lacking, row_lacking, any_lacking}
use Rattle.calls.specs.Simplifying.{any_true, unfalsified, binaries_cleaned}
use Rattle.calls.specs.Outcome.{judged}
use Rattle.calls.proofs.Given.{neither_left}
use Rattle.calls.proofs.Readings.{words_pass_lem, held_words, rows_pass_lem, rows_read}
use Rattle.calls.proofs.Judged.{sizes_judged, store_judged, vars_low, vars_high, words_sized_lem, clauses_sized, rows_most, counts_long, counts_within, record_sized_lem, host_sized_lem}
use Rattle.binary_clean.specs.Ready.{RowsReady}
use Rattle.simplify_lines.specs.Walk.{Walkable, lent_walk}
use Rattle.simplify_room.specs.Needed.{RoomReady}
use Rattle.simplify_room.proofs.Room.{cleaned_many}

-- the parts that simplifying is about
abbrev pub walk_of : Lent → Lent
walk_of k = lent_walk k.state k.words k.clauses k.rows k.counts k.rec k.host.values

-- an unassigned literal is not false
open_left : (a ls : List ℕ) → open_count a ls ≤ length (unfalsified a ls)
unfolding open_count unfalsified
open_left a [] = omega arith
open_left a (l ∷ ls) = go (is_true a l) (is_open a l) (open_left a ls)
  where
    go : (t o : Bool) → open_count a ls ≤ length (unfalsified a ls) → one o + open_count a ls ≤ length (cond (not (t || o)) (unfalsified a ls) (l ∷ unfalsified a ls))
    go true true h = omega arith
    go true false h = omega arith
    go false true h = omega arith
    go false false h = omega arith

two_left : (a ls : List ℕ) → lacking a ls ≡ false → any_true a ls ≡ false → 2 ≤ length (unfalsified a ls)
unfolding lacking
two_left a ls e t = omega (arith, open_left a ls, ltb-false (open_count a ls) 2 (ap (λ (b : Bool). not b && ltb (open_count a ls) 2) (sym t) ∙ e))

neg_in : (l v : ℕ) → l < 2 * v → neg l < 2 * v
neg_in l v h = omega arith

lacks_not : (k : Lent) (i : ℕ) → deleted_at k.words (at (take k.state.clauses k.clauses) i) ≡ false → long_lacking (view k) i ≡ false
    → lacking k.host.values (lits_at k.words (at (take k.state.clauses k.clauses) i)) ≡ false
unfolding view side long_lacking live_at
lacks_not k i d e = ap (λ (b : Bool). not b && lacking k.host.values (lits_at k.words (at (take k.state.clauses k.clauses) i))) (sym d) ∙ e

unfold_any : (k : Lent) → any_lacking (view k) ≡ false → any_below (long_lacking (view k)) (length (view k).clauses) || any_below (row_lacking (view k)) (2 * (view k).vars) ≡ false
unfolding any_lacking
unfold_any k e = e

module _ (k : Lent) (j : judged everything k ≡ 0) where
  abbrev room : ℕ
  room = room_of k.state.vars k.rows

  pub square : length k.counts * room_of k.state.vars k.rows ≤ length k.rows
  square = subst (λ (n : ℕ). n * room_of k.state.vars k.rows ≤ length k.rows) (sym (counts_long everything k (sizes_judged everything k j) refl)) (mul-div-le (length k.rows) (2 * k.state.vars))

  pub within : (c : ℕ) → c < length k.counts → at k.counts c ≤ room_of k.state.vars k.rows
  within c h = counts_within everything k (sizes_judged everything k j) refl c (omega (arith, counts_long everything k (sizes_judged everything k j) refl))

  row_entry : (c p : ℕ) → c < length k.counts → p < at k.counts c → at k.rows (c * room_of k.state.vars k.rows + p) < length k.counts
  unfolding view
  row_entry c p h l =
      let n = counts_long everything k (sizes_judged everything k j) refl in
      let q = row_at (room_of k.state.vars k.rows) k.counts k.rows c h in
      let size : length (list_at (rows_of (room_of k.state.vars k.rows) k.counts k.rows) c) ≡ at k.counts c =
      sym (at_lengths (rows_of (room_of k.state.vars k.rows) k.counts k.rows) c) ∙ ap (λ (x : List ℕ). at x c) (lengths_rows (room_of k.state.vars k.rows) k.counts k.rows (sized_of (room_of k.state.vars k.rows) k.counts k.rows within square)) in
      let there : at (list_at (rows_of (room_of k.state.vars k.rows) k.counts k.rows) c) p ≡ at k.rows (c * room_of k.state.vars k.rows + p) =
      ap (λ (x : List ℕ). at x p) q ∙ get_or-take (at k.counts c) (drop (c * room_of k.state.vars k.rows) k.rows) p 0 l ∙ get_or-drop (c * room_of k.state.vars k.rows) k.rows p 0 in
      omega (arith, there, n, (rows_read (view k) (rows_pass_lem everything (view k) (store_judged everything k j) refl)).below c p (omega (arith, n)) (omega (arith, size)))

  pub rows_ready : RowsReady (room_of k.state.vars k.rows) k.counts k.rows k.host.values
  rows_ready =
      let s = sizes_judged everything k j in
      let n = counts_long everything k s refl in
      let v = (host_sized_lem everything k s refl).values in
      record { counted = within; square = square; most = rows_most everything k s refl; codes = omega (arith, n, v); few = omega (arith, n, vars_high everything k s refl); in_range = row_entry }

  entries_length : length (take k.state.clauses k.clauses) ≡ k.state.clauses
  entries_length = length-take-le k.state.clauses k.clauses (clauses_sized everything k (sizes_judged everything k j) refl).used

  pub walk_ready : any_lacking (view k) ≡ false → Walkable (binaries_cleaned (view (walk_of k)))
  unfolding binaries_cleaned view side
  walk_ready e =
      let s = sizes_judged everything k j in
      let W = held_words (view k) (words_pass_lem everything (view k) (store_judged everything k j) refl) in
      let w = words_sized_lem everything k s refl in
      let v = (host_sized_lem everything k s refl).values in
      let n = counts_long everything k s refl in
      let rows = cleaned_many k.host.values 0 (rows_of (room_of k.state.vars k.rows) k.counts k.rows) ∙ length_rows (room_of k.state.vars k.rows) k.counts k.rows in
      record {
        ends = λ i h. omega (arith, W.ends i h, w.used);
        next = λ i h. W.next i h;
        vars = λ i h d p l. omega (arith, (W.clause i h d).lits.below p l, v);
        codes = λ i h d p l. omega (arith, neg_in (at k.words (at (take k.state.clauses k.clauses) i + 3 + p)) k.state.vars ((W.clause i h d).lits.below p l), rows, n);
        two = λ i h d. two_left k.host.values (lits_at k.words (at (take k.state.clauses k.clauses) i)) (full i h d);
        counts = λ t h. W.counts t h;
        garbage = omega (arith, W.garbage, w.used, w.most);
      }
    where
      full : (i : ℕ) → i < length (take k.state.clauses k.clauses) → deleted_at k.words (at (take k.state.clauses k.clauses) i) ≡ false
          → lacking k.host.values (lits_at k.words (at (take k.state.clauses k.clauses) i)) ≡ false
      full i h d = lacks_not k i d (none_at (long_lacking (view k)) (length (take k.state.clauses k.clauses)) i h (neither_left _ _ (unfold_any k e)))

  pub room_ready : any_lacking (view k) ≡ false → RoomReady (walk_of k)
  room_ready e =
      let s = sizes_judged everything k j in
      record {
        walk = walk_ready e;
        rows = rows_ready;
        vars_low = vars_low everything k s refl;
        vars_high = vars_high everything k s refl;
        counts_long = counts_long everything k s refl;
        used = (words_sized_lem everything k s refl).used;
        words_most = (words_sized_lem everything k s refl).most;
        listed = (clauses_sized everything k s refl).used;
        list_most = (clauses_sized everything k s refl).most;
        recorded = (record_sized_lem everything k s refl).used;
        rec_most = (record_sized_lem everything k s refl).most;
      }
