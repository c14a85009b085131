-- The lengths that record and rows have after the finished call, and that the test is `fit`. Assumes nothing.
use mathlib.Core.Path.{◌≡◌, refl, sym, ap, ap₂, ◌∙◌, subst}
use mathlib.Core.Bool.{Bool, true, false, cond, not, ◌&&◌}
use mathlib.Core.List.{List, [], ◌∷◌}
use Prim.Native.Nat.{ℕ, zero, suc, ◌+◌, ◌*◌, ◌^◌, ◌≤◌, ◌<◌}
use native.Mathlib.Omega.{arith}
use native.Mathlib.Decide.{dec_lt, ℕ_discrete}
use native.Mathlib.Nat.{zero-add, div-le_self}
use native.Mathlib.Numerals.{add-one}
use lib.ListN.{length, take, replicate, length-set, length-append, length-replicate, get_or-replicate, get_or-eq_default}
use lib.Seq.{sets, length-sets, get_or-take, length-take-le, get_or-set_same, get_or-set_other}
use lib.Dec.{eqb, leb}
use borrow.Author.Tests.{le-leb, lt-leb}
use Rattle.laws.specs.Fold.{all_below, sum_below, fold_below}
use Rattle.laws.specs.Lists.{at, list_at, snoc, push, more, lengths}
use Rattle.laws.proofs.Reading.{length_read, at_sets, at_sets_above}
use Rattle.laws.proofs.Folds.{and_both, and_fails_right, all_same, fold_more}
use Rattle.laws.proofs.Sums.{sum_same, sum_more}
use Rattle.laws.proofs.Tests.{and_true}
use Rattle.kinds.specs.Clauses.{len_at, lits_at, deleted_at, end_at, neg, var_of}
use Rattle.kinds.specs.Lines.{flat}
use Rattle.kinds.specs.Lent.{Lent, room_of}
use Rattle.kinds.specs.Held.{Held}
use Rattle.kinds.specs.Layout.{rows_of, view, side, fit, fit_row}
use Rattle.kinds.specs.declared.Verdict.TheVariants.{Satisfied, Same, Shorter}
use Rattle.kinds.proofs.Layouts.{sized_of}
use Rattle.kinds.proofs.RowLayout.{length_lengths, at_lengths, lengths_push, lengths_rows, length_rows}
use Rattle.calls.specs.Adding.{pair_pushed}
use Rattle.calls.specs.HostPasses.{at_most_at}
use Rattle.calls.specs.Simplifying.{any_true, unfalsified, verdict_of, rows_cleaned, rows_strikes, binaries_cleaned, simplified}
use Rattle.binary_clean.proofs.OneRow.{cleaned_length}
use Rattle.simplify_lines.specs.Walk.{Walkable, walk_parts, longs_done}
use Rattle.simplify_lines.proofs.Done.{gone, stays, settle, sim_one, strike_line, enter_line, short_lines_lem, state_at, state_zero, state_next, state_end, state_first, either}
use Rattle.simplify_lines.proofs.Ahead.{ahead, head_same, len_same, lits_same}
use Rattle.simplify_room.specs.Needed.{verdict_words, clause_words, becomes_pair, pair_tallied, RoomReady}

-- ---- one clause
module _ (a : List ℕ) (o : ℕ) (s : Held) where
  strike_length : (k : ℕ) → length (strike_line k o s.words) ≡ len_at s.words o + 2
  strike_length k = omega (arith, length_read s.words (o + 3) (len_at s.words o))

  short_length : (r : List ℕ) → length (short_lines_lem r o s.words) ≡ (length r + 2) + (len_at s.words o + 2)
  short_length r = length-append (enter_line r o s.words) (strike_line 6 o s.words) ∙ omega (arith, strike_length 6)

  one_words : length (sim_one a o s).rec ≡ length s.rec + cond (deleted_at s.words o) 0 (verdict_words (verdict_of a (lits_at s.words o)) (len_at s.words o))
  unfolding sim_one verdict_of
  one_words = let ls = lits_at s.words o in go (unfalsified a ls) (deleted_at s.words o) (any_true a ls) (eqb (length (unfalsified a ls)) (length ls)) (eqb (length (unfalsified a ls)) 2)
    where
      go : (r : List ℕ) (b t e w : Bool)
          → length (cond b s (cond t (gone o (strike_line 5 o s.words) s.rows s.binary s) (cond e (stays o [] s.words s)
          (cond w (gone o (short_lines_lem r o s.words) (pair_pushed (at r 0) (at r 1) s.rows) (s.binary + 1) s) (stays o (short_lines_lem r o s.words) (sets s.words (o + 2) (length r ∷ r)) s))))).rec
          ≡ length s.rec + cond b 0 (verdict_words (cond t Satisfied (cond e Same (Shorter (length r)))) (len_at s.words o))
      go r true t e w = omega arith
      go r false true e w = length-append s.rec (strike_line 5 o s.words) ∙ omega (arith, strike_length 5)
      go r false false true w = length-append s.rec [] ∙ omega arith
      go r false false false true = length-append s.rec (short_lines_lem r o s.words) ∙ omega (arith, short_length r)
      go r false false false false = length-append s.rec (short_lines_lem r o s.words) ∙ omega (arith, short_length r)

  one_rows : lengths (sim_one a o s).rows
      ≡ cond (becomes_pair a s.words o) (more (neg (at (unfalsified a (lits_at s.words o)) 1)) (more (neg (at (unfalsified a (lits_at s.words o)) 0)) (lengths s.rows))) (lengths s.rows)
  unfolding sim_one becomes_pair
  one_rows = let ls = lits_at s.words o in go (unfalsified a ls) (deleted_at s.words o) (any_true a ls) (eqb (length (unfalsified a ls)) (length ls)) (eqb (length (unfalsified a ls)) 2)
    where
      go : (r : List ℕ) (b t e w : Bool)
          → lengths (cond b s (cond t (gone o (strike_line 5 o s.words) s.rows s.binary s) (cond e (stays o [] s.words s)
          (cond w (gone o (short_lines_lem r o s.words) (pair_pushed (at r 0) (at r 1) s.rows) (s.binary + 1) s) (stays o (short_lines_lem r o s.words) (sets s.words (o + 2) (length r ∷ r)) s))))).rows
          ≡ cond (not b && (not t && (not e && w))) (more (neg (at r 1)) (more (neg (at r 0)) (lengths s.rows))) (lengths s.rows)
      go r true t e w = refl
      go r false true e w = refl
      go r false false true w = refl
      go r false false false true = lengths_push (push (neg (at r 0)) (at r 1) s.rows) (neg (at r 1)) (at r 0) ∙ ap (more (neg (at r 1))) (lengths_push s.rows (neg (at r 0)) (at r 1))
      go r false false false false = refl

  one_listed : length (sim_one a o s).clauses ≤ length s.clauses + 1
  unfolding sim_one
  one_listed =
      let ls = lits_at s.words o in
      let r = unfalsified a ls in
      let P : Held → Type 0 = λ t. length t.clauses ≤ length s.clauses + 1 in
      let more : length (snoc s.clauses o) ≤ length s.clauses + 1 = omega (arith, length-append s.clauses (o ∷ [])) in
      either P (deleted_at s.words o) s (settle a ls o s) (omega arith)
      (either P (any_true a ls) _ _ (omega arith) (either P (eqb (length r) (length ls)) _ _ more (either P (eqb (length r) 2) _ _ (omega arith) more)))

-- ---- the walk
module _ {h : Held} (R : Walkable h) where
  abbrev need : ℕ → ℕ
  need = clause_words h.host.values h.words h.clauses

  pub rec_length : (i : ℕ) → i ≤ length h.clauses → length (state_at h i).rec ≡ length h.rec + sum_below (clause_words h.host.values h.words h.clauses) i
  rec_length zero g = rw (state_zero h) (unfold sum_below in (omega arith))
  rec_length (suc i) g = rw (← add-one) (step i (omega arith) (rec_length i (omega arith)))
    where
      step : (i : ℕ) → i < length h.clauses → length (state_at h i).rec ≡ length h.rec + sum_below need i → length (state_at h (i + 1)).rec ≡ length h.rec + sum_below need (i + 1)
      step i l e =
          let A = ahead R i (omega arith) in
          let here : length (state_at h (i + 1)).rec ≡ length (state_at h i).rec + need i =
          unfold clause_words in (rw (state_next h i l, ← lits_same R i l A, ← head_same R i l A, ← len_same R i l A) (one_words h.host.values (at h.clauses i) (state_at h i))) in
          omega (arith, here, e, sum_more need i)

  pub row_lengths : (i : ℕ) → i ≤ length h.clauses → lengths (state_at h i).rows ≡ fold_below (pair_tallied h.host.values h.words h.clauses) (lengths h.rows) i
  row_lengths zero g = rw (state_zero h) (unfold fold_below in refl)
  row_lengths (suc i) g = rw (← add-one) (step i (omega arith) (row_lengths i (omega arith)))
    where
      step : (i : ℕ) → i < length h.clauses → lengths (state_at h i).rows ≡ fold_below (pair_tallied h.host.values h.words h.clauses) (lengths h.rows) i
          → lengths (state_at h (i + 1)).rows ≡ fold_below (pair_tallied h.host.values h.words h.clauses) (lengths h.rows) (i + 1)
      step i l e =
          let A = ahead R i (omega arith) in
          let here : lengths (state_at h (i + 1)).rows ≡ pair_tallied h.host.values h.words h.clauses (lengths (state_at h i).rows) i =
          unfold pair_tallied in unfold becomes_pair in (rw (state_next h i l, ← lits_same R i l A, ← head_same R i l A) (unfold becomes_pair in one_rows h.host.values (at h.clauses i) (state_at h i))) in
          here ∙ ap (λ (t : List ℕ). pair_tallied h.host.values h.words h.clauses t i) e ∙ sym (fold_more (pair_tallied h.host.values h.words h.clauses) (lengths h.rows) i)

  pub listed_length : (i : ℕ) → i ≤ length h.clauses → length (state_at h i).clauses ≤ i
  listed_length zero g = rw (state_zero h) (omega arith)
  listed_length (suc i) g = rw (← add-one) (rw (state_next h i (omega arith)) (omega (arith, listed_length i (omega arith), one_listed h.host.values (at h.clauses i) (state_at h i))))

-- ---- the same told by the whole clause list, and by a tally that is longer than the rows are many
words_at_lem : (a ws l m : List ℕ) (i : ℕ) → at l i ≡ at m i → clause_words a ws l i ≡ clause_words a ws m i
unfolding clause_words
words_at_lem a ws l m i e = ap (λ (o : ℕ). cond (deleted_at ws o) 0 (verdict_words (verdict_of a (lits_at ws o)) (len_at ws o))) e

pair_at : (a ws l m t : List ℕ) (i : ℕ) → at l i ≡ at m i → pair_tallied a ws l t i ≡ pair_tallied a ws m t i
unfolding pair_tallied
pair_at a ws l m t i e = ap (λ (o : ℕ). cond (becomes_pair a ws o) (more (neg (at (unfalsified a (lits_at ws o)) 1)) (more (neg (at (unfalsified a (lits_at ws o)) 0)) t)) t) e

Agree : ℕ → List ℕ → List ℕ → Type 0
Agree n t u = (n ≤ length t) × (n ≤ length u) × ((c : ℕ) → c < n → at t c ≡ at u c)

more_agree : (n : ℕ) (t u : List ℕ) (k : ℕ) → Agree n t u → Agree n (more k t) (more k u)
unfolding Agree
more_agree n t u k (p, q, e) = (rw length-set p, rw length-set q, λ c h. go c h (ℕ_discrete c k))
  where
    go : (c : ℕ) → c < n → Dec (c ≡ k) → at (more k t) c ≡ at (more k u) c
    go c h (yes z) =
        let g : k < n = subst (λ (x : ℕ). x < n) z h in
        rw (z, get_or-set_same t k (at t k + 1) 0 (omega arith), get_or-set_same u k (at u k + 1) 0 (omega arith)) (ap (λ (x : ℕ). x + 1) (e k g))
    go c h (no z) = get_or-set_other t k c (at t k + 1) 0 z ∙ e c h ∙ sym (get_or-set_other u k c (at u k + 1) 0 z)

pair_agree : (n : ℕ) (a ws l t u : List ℕ) (i : ℕ) → Agree n t u → Agree n (pair_tallied a ws l t i) (pair_tallied a ws l u i)
unfolding pair_tallied
pair_agree n a ws l t u i g = go (becomes_pair a ws (at l i))
  where
    go : (b : Bool) → Agree n (cond b (more (neg (at (unfalsified a (lits_at ws (at l i))) 1)) (more (neg (at (unfalsified a (lits_at ws (at l i))) 0)) t)) t)
        (cond b (more (neg (at (unfalsified a (lits_at ws (at l i))) 1)) (more (neg (at (unfalsified a (lits_at ws (at l i))) 0)) u)) u)
    go true = more_agree n _ _ _ (more_agree n t u _ g)
    go false = g

fold_agree : (n : ℕ) (a ws l m t u : List ℕ) (k : ℕ) → ((i : ℕ) → i < k → at l i ≡ at m i) → Agree n t u → Agree n (fold_below (pair_tallied a ws l) t k) (fold_below (pair_tallied a ws m) u k)
unfolding fold_below
fold_agree n a ws l m t u zero e g = g
fold_agree n a ws l m t u (suc k) e g =
    subst (λ (x : List ℕ). Agree n x (pair_tallied a ws m (fold_below (pair_tallied a ws m) u k) k)) (sym (pair_at a ws l m (fold_below (pair_tallied a ws l) t k) k (e k (omega arith))))
    (pair_agree n a ws m (fold_below (pair_tallied a ws l) t k) (fold_below (pair_tallied a ws m) u k) k (fold_agree n a ws l m t u k (λ i h. e i (omega arith)) g))

-- ---- cleaned rows
pub cleaned_many : (a : List ℕ) (r : ℕ) (rows : List (List ℕ)) → length (rows_cleaned a r rows) ≡ length rows
unfolding rows_cleaned
cleaned_many a r [] = refl
cleaned_many a r (row ∷ rows) = ap suc (cleaned_many a (suc r) rows)

pub cleaned_rows : (a : List ℕ) (r : ℕ) (rows : List (List ℕ)) (c : ℕ) → length (list_at (rows_cleaned a r rows) c) ≤ length (list_at rows c)
unfolding rows_cleaned
cleaned_rows a r [] c = omega arith
cleaned_rows a r (row ∷ rows) zero = cleaned_length a r row
cleaned_rows a r (row ∷ rows) (suc c) = cleaned_rows a (suc r) rows c

zero_past : (n c : ℕ) → at (replicate n 0) c ≡ 0
zero_past n c = go (dec_lt c n)
  where
    go : Dec (c < n) → at (replicate n 0) c ≡ 0
    go (yes h) = get_or-replicate n c 0 0 h
    go (no h) = let zs : List ℕ = replicate n 0 in get_or-eq_default zs 0 {n = c} (omega (arith, length-replicate {A = ℕ} n 0))

-- ---- the test
module _ {k : Lent} (R : RoomReady k) where
  abbrev room : ℕ
  room = room_of k.state.vars k.rows

  abbrev kept : List (List ℕ)
  kept = rows_cleaned k.host.values 0 (rows_of (room_of k.state.vars k.rows) k.counts k.rows)

  entries_many : length (binaries_cleaned (view k)).clauses ≡ k.state.clauses
  unfolding binaries_cleaned view
  entries_many = length-take-le k.state.clauses k.clauses R.listed

  entry_is : (i : ℕ) → i < k.state.clauses → at (binaries_cleaned (view k)).clauses i ≡ at k.clauses i
  unfolding binaries_cleaned view
  entry_is i h = get_or-take k.state.clauses k.clauses i 0 h

  pub ends : (i : ℕ) → i < k.state.clauses → end_at k.words (at k.clauses i) ≤ length k.words
  unfolding binaries_cleaned view
  ends i h = subst (λ (o : ℕ). end_at k.words o ≤ length k.words) (entry_is i h) (R.walk.ends i (omega (arith, entries_many)))

  pub vars : (i : ℕ) → i < k.state.clauses → deleted_at k.words (at k.clauses i) ≡ false → (p : ℕ) → p < len_at k.words (at k.clauses i) → var_of (at k.words (at k.clauses i + 3 + p)) < length k.host.values
  unfolding binaries_cleaned view side
  vars i h = subst (λ (o : ℕ). deleted_at k.words o ≡ false → (p : ℕ) → p < len_at k.words o → var_of (at k.words (o + 3 + p)) < length k.host.values) (entry_is i h) (R.walk.vars i (omega (arith, entries_many)))

  rows_many : length (binaries_cleaned (view k)).rows ≡ length k.counts
  unfolding binaries_cleaned view side
  rows_many = cleaned_many k.host.values 0 (rows_of room k.counts k.rows) ∙ length_rows room k.counts k.rows

  pub codes : (i : ℕ) → i < k.state.clauses → deleted_at k.words (at k.clauses i) ≡ false → (p : ℕ) → p < len_at k.words (at k.clauses i) → neg (at k.words (at k.clauses i + 3 + p)) < length k.counts
  unfolding binaries_cleaned view
  codes i h = subst (λ (o : ℕ). deleted_at k.words o ≡ false → (p : ℕ) → p < len_at k.words o → neg (at k.words (o + 3 + p)) < length k.counts) (entry_is i h)
      (λ d p l. subst (λ (n : ℕ). neg (at k.words (at (binaries_cleaned (view k)).clauses i + 3 + p)) < n) rows_many (R.walk.codes i (omega (arith, entries_many)) d p l))

  done_is : simplified (view k) ≡ state_at (binaries_cleaned (view k)) k.state.clauses
  unfolding simplified longs_done binaries_cleaned
  done_is = sym (state_end (binaries_cleaned (view k)) k.state.clauses (omega (arith, entries_many)))

  rec_start : length (binaries_cleaned (view k)).rec ≡ k.state.recorded + length (flat (rows_strikes k.host.values 0 (rows_of room k.counts k.rows)))
  unfolding binaries_cleaned view side
  rec_start = length-append (take k.state.recorded k.rec) (flat (rows_strikes k.host.values 0 (rows_of room k.counts k.rows))) ∙ ap (λ (n : ℕ). n + length (flat (rows_strikes k.host.values 0 (rows_of room k.counts k.rows)))) (length-take-le k.state.recorded k.rec R.recorded)

  values_is : (binaries_cleaned (view k)).host.values ≡ k.host.values
  unfolding binaries_cleaned view side
  values_is = refl

  words_is : (binaries_cleaned (view k)).words ≡ k.words
  unfolding binaries_cleaned view
  words_is = refl

  lengths_start : lengths (binaries_cleaned (view k)).rows ≡ lengths kept
  unfolding binaries_cleaned view side
  lengths_start = refl

  long_is : sum_below (clause_words (binaries_cleaned (view k)).host.values (binaries_cleaned (view k)).words (binaries_cleaned (view k)).clauses) k.state.clauses
      ≡ sum_below (clause_words k.host.values k.words k.clauses) k.state.clauses
  long_is =
      sum_same _ _ k.state.clauses (λ i h. words_at_lem (binaries_cleaned (view k)).host.values (binaries_cleaned (view k)).words (binaries_cleaned (view k)).clauses k.clauses i (entry_is i h))
      ∙ ap₂ (λ (a w : List ℕ). sum_below (clause_words a w k.clauses) k.state.clauses) values_is words_is

  rec_is : {short long : ℕ} → short ≡ length (flat (rows_strikes k.host.values 0 (rows_of room k.counts k.rows))) → long ≡ sum_below (clause_words k.host.values k.words k.clauses) k.state.clauses
      → length (simplified (view k)).rec ≡ k.state.recorded + short + long
  rec_is e f =
      ap (λ (s : Held). length s.rec) done_is ∙ rec_length R.walk k.state.clauses (omega (arith, entries_many))
      ∙ omega (arith, rec_start, long_is, e, f)

  -- the tally, as the code has it
  module _ {t₁ t₂ : List ℕ} (e₁ : t₁ ≡ sets (replicate 131072 0) 0 (lengths kept)) (e₂ : t₂ ≡ fold_below (pair_tallied k.host.values k.words k.clauses) t₁ k.state.clauses) where
    kept_many : length (lengths kept) ≡ length k.counts
    kept_many = length_lengths kept ∙ cleaned_many k.host.values 0 (rows_of room k.counts k.rows) ∙ length_rows room k.counts k.rows

    t₁_size : length t₁ ≡ 131072
    t₁_size = ap length e₁ ∙ length-sets (replicate 131072 0) 0 (lengths kept) ∙ length-replicate {A = ℕ} 131072 0

    t₁_at : (c : ℕ) → c < length k.counts → at t₁ c ≡ at (lengths kept) c
    t₁_at c h = ap (λ (l : List ℕ). at l c) e₁ ∙ ap (at (sets (replicate 131072 0) 0 (lengths kept))) (sym (zero-add c)) ∙ at_sets (lengths kept) (replicate 131072 0) 0 c (omega (arith, kept_many)) (omega (arith, kept_many, R.rows.few, length-replicate {A = ℕ} 131072 0))

    start_agree : Agree (length k.counts) t₁ (lengths (binaries_cleaned (view k)).rows)
    unfolding Agree
    start_agree = (omega (arith, t₁_size, R.rows.few), omega (arith, ap length lengths_start, kept_many), λ c h. t₁_at c h ∙ ap (λ (l : List ℕ). at l c) (sym lengths_start))

    end_agree : Agree (length k.counts) t₂ (lengths (simplified (view k)).rows)
    end_agree =
        let g = fold_agree (length k.counts) k.host.values k.words k.clauses (binaries_cleaned (view k)).clauses t₁ (lengths (binaries_cleaned (view k)).rows) k.state.clauses (λ i h. sym (entry_is i h)) start_agree in
        let there : fold_below (pair_tallied k.host.values k.words (binaries_cleaned (view k)).clauses) (lengths (binaries_cleaned (view k)).rows) k.state.clauses ≡ lengths (simplified (view k)).rows =
        ap₂ (λ (a w : List ℕ). fold_below (pair_tallied a w (binaries_cleaned (view k)).clauses) (lengths (binaries_cleaned (view k)).rows) k.state.clauses) (sym values_is) (sym words_is)
        ∙ sym (row_lengths R.walk k.state.clauses (omega (arith, entries_many))) ∙ ap (λ (s : Held). lengths s.rows) (sym done_is) in
        subst (λ (x : List ℕ). Agree (length k.counts) t₂ x) there (subst (λ (x : List ℕ). Agree (length k.counts) x (fold_below (pair_tallied k.host.values k.words (binaries_cleaned (view k)).clauses) (lengths (binaries_cleaned (view k)).rows) k.state.clauses)) (sym e₂) g)

    rows_test : all_below (at_most_at room t₂) (length k.counts) ≡ all_below (fit_row k (simplified (view k))) (2 * k.state.vars)
    unfolding at_most_at fit_row Agree
    rows_test =
        all_same (at_most_at room t₂) (fit_row k (simplified (view k))) (length k.counts) (λ c h. ap (λ (n : ℕ). leb n room) (end_agree.2 c h ∙ at_lengths (simplified (view k)).rows c))
        ∙ ap (all_below (fit_row k (simplified (view k)))) R.counts_long

  pub t₁_bound : {t₁ : List ℕ} → t₁ ≡ sets (replicate 131072 0) 0 (lengths kept) → (c : ℕ) → at t₁ c ≤ 2 ^ 24
  t₁_bound {t₁} e₁ c = go (dec_lt c (length k.counts))
    where
      many : length (lengths kept) ≡ length k.counts
      many = length_lengths kept ∙ cleaned_many k.host.values 0 (rows_of room k.counts k.rows) ∙ length_rows room k.counts k.rows

      go : Dec (c < length k.counts) → at t₁ c ≤ 2 ^ 24
      go (yes h) =
          omega (
            arith,
            t₁_at {t₁ = t₁} {t₂ = fold_below (pair_tallied k.host.values k.words k.clauses) t₁ k.state.clauses} e₁ refl c h,
            at_lengths kept c,
            cleaned_rows k.host.values 0 (rows_of room k.counts k.rows) c,
            at_lengths (rows_of room k.counts k.rows) c,
            ap (λ (l : List ℕ). at l c) (lengths_rows room k.counts k.rows (sized_of room k.counts k.rows R.rows.counted R.rows.square)),
            R.rows.counted c h,
            R.rows.most,
            div-le_self (length k.rows) (2 * k.state.vars),
          )
      go (no h) = rw (e₁, at_sets_above (lengths kept) (replicate 131072 0) 0 c (omega (arith, many)), zero_past 131072 c) (omega arith)

  used_first : (binaries_cleaned (view k)).used ≡ k.state.words
  unfolding binaries_cleaned view
  used_first = refl

  -- words and clause list fit as they did
  words_test : leb (simplified (view k)).used (length k.words) && leb (length (simplified (view k)).clauses) (length k.clauses) ≡ true
  words_test =
      let u : (simplified (view k)).used ≡ k.state.words = ap (λ (s : Held). s.used) done_is ∙ (state_first (binaries_cleaned (view k)) k.state.clauses).used ∙ used_first in
      let l = listed_length R.walk k.state.clauses (omega (arith, entries_many)) in
      let c : length (simplified (view k)).clauses ≤ k.state.clauses = subst (λ (s : Held). length s.clauses ≤ k.state.clauses) (sym done_is) l in
      and_both _ _ (le-leb (simplified (view k)).used (length k.words) (omega (arith, u, R.used))) (le-leb (length (simplified (view k)).clauses) (length k.clauses) (omega (arith, c, R.listed)))

  pub room_no : {short long : ℕ} → short ≡ length (flat (rows_strikes k.host.values 0 (rows_of room k.counts k.rows))) → long ≡ sum_below (clause_words k.host.values k.words k.clauses) k.state.clauses
      → length k.rec < k.state.recorded + short + long → false ≡ fit walk_parts k (simplified (view k))
  unfolding fit
  room_no e f h =
      sym (and_fails_right (leb (simplified (view k)).used (length k.words) && leb (length (simplified (view k)).clauses) (length k.clauses)) _ (and_fails_right (all_below (fit_row k (simplified (view k))) (2 * k.state.vars)) _ (lt-leb (length (simplified (view k)).rec) (length k.rec) (omega (arith, rec_is e f)))))

  pub room_is : {short long : ℕ} → short ≡ length (flat (rows_strikes k.host.values 0 (rows_of room k.counts k.rows))) → long ≡ sum_below (clause_words k.host.values k.words k.clauses) k.state.clauses
      → k.state.recorded + short + long ≤ length k.rec
      → {t₁ t₂ : List ℕ} → t₁ ≡ sets (replicate 131072 0) 0 (lengths kept) → t₂ ≡ fold_below (pair_tallied k.host.values k.words k.clauses) t₁ k.state.clauses
      → {b : Bool} → b ≡ all_below (at_most_at room t₂) (length k.counts) → b ≡ fit walk_parts k (simplified (view k))
  unfolding fit
  room_is e f h e₁ e₂ g =
      let r : leb (length (simplified (view k)).rec) (length k.rec) ≡ true = le-leb (length (simplified (view k)).rec) (length k.rec) (omega (arith, rec_is e f)) in
      g ∙ rows_test e₁ e₂ ∙ sym (ap₂ (λ (x y : Bool). x && (all_below (fit_row k (simplified (view k))) (2 * k.state.vars) && y)) words_test r ∙ and_true (all_below (fit_row k (simplified (view k))) (2 * k.state.vars)))
