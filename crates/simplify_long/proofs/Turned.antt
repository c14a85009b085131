-- The invariant of the clause loop, and what one turn of each kind does to it. Assumes nothing.
use mathlib.Core.Path.{◌≡◌, refl, sym, ap, ap₂, ◌∙◌, subst}
use mathlib.Core.Bool.{true, false}
use mathlib.Core.List.{List, [], ◌∷◌, ◌++◌}
use Prim.Native.Nat.{ℕ, suc, ◌+◌, ◌-◌, ◌*◌, ◌^◌, ◌≤◌, ◌<◌}
use native.Mathlib.Omega.{arith}
use native.Mathlib.Nat.{add-zero, le_trans, mul-div-le, div-le_self}
use lib.ListN.{length, set, drop, replicate, length-set, length-append, get_or-append}
use lib.Seq.{sets, length-sets, get_or-take, drop-set-lt, length-take-le}
use lib.Dec.{eqb}
use borrow.Author.Tests.{eq-eqb, ne_eqb}
use Rattle.std.proofs.lemmas.Grind.{drop_more_same}
use Rattle.laws.specs.Lists.{at, list_at, read_n, less, more, lengths}
use Rattle.laws.proofs.Parts.{same_next}
use Rattle.laws.proofs.Reading.{length_read, read_same, read_whole, at_sets}
use Rattle.laws.proofs.Closing.{sets_append}
use Rattle.kinds.specs.Header.{with_deleted}
use Rattle.kinds.specs.Clauses.{deleted_at, lits_at, len_at, end_at, size_at, tier_at, original_at, change_head, neg, var_of}
use Rattle.kinds.specs.Lines.{entry_kind}
use Rattle.kinds.specs.Lent.{Lent}
use Rattle.kinds.specs.Held.{Held}
use Rattle.kinds.specs.Layout.{rows_of, fill_rows, side, view, lay}
use Rattle.kinds.specs.Setters.{state_of, with_listed, with_recorded, with_binary_count}
use Rattle.kinds.specs.declared.State.{State}
use Rattle.kinds.proofs.Layouts.{Sized, AllFit, sized_of, all_fit_of}
use Rattle.kinds.proofs.RowLayout.{length_lengths, length_rows}
use Rattle.calls.specs.Adding.{pair_pushed}
use Rattle.kinds.specs.declared.Verdict.TheVariants.{Satisfied, Same, Shorter}
use Rattle.calls.specs.Simplifying.{unfalsified, verdict_of}
use Rattle.calls.proofs.Judged.{row_fits, record_fits}
use Rattle.simplify_lines.specs.Walk.{walk_parts, longs_done}
use Rattle.simplify_lines.proofs.Literals.{unfalsified_length, unfalsified_in, is_satisfied, is_same, is_shorter}
use Rattle.simplify_lines.proofs.Done.{gone, stays, shorten, sim_one, strike_line, enter_line, short_lines_lem, state_at, state_zero, state_next, state_end, state_last, state_first, either}
use Rattle.simplify_lines.proofs.Ahead.{Ahead, ahead, now_is, head_same, one_left, sum_next}
use Rattle.simplify_long.specs.Ready.{LongReady}
use Rattle.simplify_long.proofs.Laid.{room_in, Laid, recorded_is, laid_gone, laid_stays, pair_laid, pair_counts, laid_start, laid_end}

pub record Turned (k : Lent) (i to : ℕ) (words list rows counts rec : List ℕ) (st : State) : Type 0 where
  pub within : i ≤ k.state.clauses
  pub behind : to ≤ i
  pub size : length list ≡ length k.clauses
  pub ahead : drop i list ≡ drop i k.clauses
  pub words_size : length words ≡ length k.words
  pub rows_size : length rows ≡ length k.rows
  pub counts_size : length counts ≡ length k.counts
  pub rec_size : length rec ≡ length k.rec
  pub laid : Laid k (state_at (view k) i) to words list rows counts rec st

-- ---- lists
short_said : (r : List ℕ) (o : ℕ) (s : Held) → (shorten r o s).rec ≡ s.rec ++ short_lines_lem r o s.words
short_said r o s = either (λ (x : Held). x.rec ≡ s.rec ++ short_lines_lem r o s.words) (eqb (length r) 2)
    (gone o (short_lines_lem r o s.words) (pair_pushed (at r 0) (at r 1) s.rows) (s.binary + 1) s) (stays o (short_lines_lem r o s.words) (sets s.words (o + 2) (length r ∷ r)) s) refl refl

short_two : (r w : List ℕ) (o : ℕ) (s : Held) → w ≡ s.words → length r ≡ 2 → shorten r o s ≡ gone o (short_lines_lem r o w) (pair_pushed (at r 0) (at r 1) s.rows) (s.binary + 1) s
short_two r w o s e h = rw (eq-eqb (length r) 2 h, e)

short_more : (r w : List ℕ) (o : ℕ) (s : Held) → w ≡ s.words → (length r ≡ 2 → ⊥) → shorten r o s ≡ stays o (short_lines_lem r o w) (sets w (o + 2) (length r ∷ r)) s
short_more r w o s e h = rw (ne_eqb (length r) 2 h, e)

values_is : (k : Lent) → (view k).host.values ≡ k.host.values
unfolding view side
values_is k = refl

-- ---- the buffers at the start
module _ {k : Lent} (R : LongReady k) where
  pub square : length k.counts * room_in k ≤ length k.rows
  square = rw R.counts_long (mul-div-le (length k.rows) (2 * k.state.vars))

  pub room_small : room_in k < 2 ^ 32
  room_small = omega (arith, R.rows_most, div-le_self (length k.rows) (2 * k.state.vars))

  pub sized : Sized (room_in k) k.counts k.rows
  sized = sized_of (room_in k) k.counts k.rows R.counted square

  pub entries_length : length (view k).clauses ≡ k.state.clauses
  unfolding view
  entries_length = length-take-le k.state.clauses k.clauses R.listed

  pub entry_is : (i : ℕ) → i < k.state.clauses → at (view k).clauses i ≡ at k.clauses i
  unfolding view
  entry_is i h = get_or-take k.state.clauses k.clauses i 0 h

  rows_first : length (view k).rows ≡ length k.counts
  unfolding view
  rows_first = length_rows (room_in k) k.counts k.rows

  -- each state's rows
  pub rows_many : (i : ℕ) → length (state_at (view k) i).rows ≡ length k.counts
  rows_many i = (state_first (view k) i).size ∙ rows_first

  pub rows_room : (i c : ℕ) → c < length k.counts → length (list_at (state_at (view k) i).rows c) ≤ room_in k
  rows_room i c h = le_trans ((state_last (view k) i).row c) (row_fits walk_parts k (longs_done (view k)) R.room refl c (omega (arith, R.counts_long)))

  pub rows_fit : (i : ℕ) → AllFit (room_in k) (state_at (view k) i).rows
  rows_fit i = all_fit_of (room_in k) (state_at (view k) i).rows (λ c h. rows_room i c (omega (arith, rows_many i)))

  pub rec_room : (i : ℕ) → length (state_at (view k) i).rec ≤ length k.rec
  rec_room i = le_trans (state_last (view k) i).rec (record_fits walk_parts k (longs_done (view k)) R.room refl)

-- ---- the entry whose turn it is
module _ {k : Lent} {i to : ℕ} {words list rows counts rec : List ℕ} {st : State} (T : Turned k i to words list rows counts rec st) (R : LongReady k) (h : i < k.state.clauses) where
  g : i < length (view k).clauses
  g = omega (arith, entries_length R)

  at_is : at list i ≡ at (view k).clauses i
  at_is = same_next list k.clauses i T.ahead ∙ sym (entry_is R i h)

  A : Ahead (view k) i
  A = ahead R.walk i (omega (arith, g))

  same : (p : ℕ) → at list i ≤ p → at words p ≡ at (view k).words p
  same p l = ap (λ (w : List ℕ). at w p) T.laid.words_is ∙ now_is R.walk i g A p (omega (arith, at_is))

  len_is : len_at words (at list i) ≡ len_at (view k).words (at (view k).clauses i)
  len_is = same (at list i + 2) (omega arith) ∙ ap (len_at (view k).words) at_is

  words_first : length (view k).words ≡ length k.words
  unfolding view
  words_first = refl

  pub ends : end_at words (at list i) ≤ length words
  ends = omega (arith, R.walk.ends i g, at_is, len_is, T.words_size, words_first)

  next_is : state_at (view k) (i + 1) ≡ sim_one k.host.values (at list i) (state_at (view k) i)
  next_is = rw at_is (state_next (view k) i g) ∙ ap (λ (a : List ℕ). sim_one a (at list i) (state_at (view k) i)) (values_is k)

  -- what a turn leaves of the walk
  turn : (s : Held) → state_at (view k) (i + 1) ≡ s → {to' : ℕ} {words' list' rows' counts' rec' : List ℕ} {st' : State}
      → Laid k s to' words' list' rows' counts' rec' st' → to' ≤ i + 1 → length list' ≡ length list → drop (i + 1) list' ≡ drop (i + 1) list
      → length rows' ≡ length rows → length counts' ≡ length counts → length rec' ≡ length rec
      → Turned k (i + 1) to' words' list' rows' counts' rec' st'
  turn s e {to'} {words'} {list'} {rows'} {counts'} {rec'} {st'} L b z d lr lc ls = record {
    within = omega arith;
    behind = b;
    size = z ∙ T.size;
    ahead = d ∙ drop_more_same list k.clauses i T.ahead;
    words_size = ap length L.words_is ∙ ap (λ (x : Held). length x.words) (sym e) ∙ (ahead R.walk (i + 1) (omega (arith, g))).size ∙ words_first;
    rows_size = lr ∙ T.rows_size;
    counts_size = lc ∙ T.counts_size;
    rec_size = ls ∙ T.rec_size;
    laid = subst (λ (x : Held). Laid k x to' words' list' rows' counts' rec' st') (sym e) L;
  }

  module _ (d : deleted_at words (at list i) ≡ false) where
    live : deleted_at (view k).words (at (view k).clauses i) ≡ false
    live = rw (← head_same R.walk i g A, ← T.laid.words_is, ← at_is) d

    pub one_there : 0 < at st.counts (tier_at words (at list i))
    one_there = rw (T.laid.state_is, T.laid.words_is, at_is) (one_left R.walk i g A live)

    pub vars : (p : ℕ) → p < len_at words (at list i) → var_of (at words (at list i + 3 + p)) < length k.host.values
    vars p l = rw (same (at list i + 3 + p) (omega arith), at_is) (subst (λ (a : List ℕ). var_of (at (view k).words (at (view k).clauses i + 3 + p)) < length a) (values_is k) (R.walk.vars i g live p (omega (arith, len_is))))

    codes : (p : ℕ) → p < len_at words (at list i) → neg (at words (at list i + 3 + p)) < length (view k).rows
    codes p l = rw (same (at list i + 3 + p) (omega arith), at_is) (R.walk.codes i g live p (omega (arith, len_is)))

    pub gone_sum : st.garbage + size_at words (at list i) < 2 ^ 32
    gone_sum = rw (T.laid.state_is, T.laid.words_is, at_is) (sum_next R.walk i g A live)

  -- a deleted entry leaves the list
  pub turn_deleted : deleted_at words (at list i) ≡ true → Turned k (i + 1) to words list rows counts rec st
  unfolding sim_one
  turn_deleted d = turn (state_at (view k) i) (next_is ∙ rw (← T.laid.words_is, d)) T.laid (omega (arith, T.behind)) refl refl refl refl refl

  room_rec : (s : Held) → state_at (view k) (i + 1) ≡ s → length s.rec ≤ length k.rec
  room_rec s e = rw e at (rec_room R (i + 1))

  pub pairs_few : st.binary ≤ 2 ^ 25
  pairs_few =
      let b : (view k).binary ≡ k.state.binary = unfold view in refl in
      omega (arith, ap (λ (x : State). x.binary) T.laid.state_is, A.binary, b, R.binary, R.listed, R.list_most, T.within)

  module _ (d : deleted_at words (at list i) ≡ false) where
    lits_len : length (lits_at words (at list i)) ≡ len_at words (at list i)
    lits_len = length_read words (at list i + 3) (len_at words (at list i))

    -- a clause goes, after lines are said
    gone_turn : (said : List ℕ) (rs : List (List ℕ)) (b : ℕ) → state_at (view k) (i + 1) ≡ gone (at list i) said rs b (state_at (view k) i)
        → {words' rows' counts' rec' : List ℕ} {end : ℕ} {st' : State} → words' ≡ change_head (with_deleted true) (at list i) words
        → rows' ≡ fill_rows (room_in k) k.counts rs k.rows → counts' ≡ lengths rs → length rows' ≡ length rows → length counts' ≡ length counts
        → rec' ≡ sets rec st.recorded said → end ≡ st.recorded + length said
        → st' ≡ state_of st.vars st.words st.clauses st.tiers end (less (tier_at words (at list i)) st.counts) (st.garbage + size_at words (at list i)) b st.activity
        → Turned k (i + 1) to words' list rows' counts' rec' st'
    gone_turn said rs b e {words'} {rows'} {counts'} {rec'} {end} {st'} ew er ec lr lc es ee et =
        turn _ e (laid_gone T.laid R.recorded (at list i) said rs b {st' = st'} (room_rec _ e) ew er ec es ee et) (omega (arith, T.behind)) refl refl lr lc (rw (es, length-sets))

    said_room : (said : List ℕ) (s : Held) → state_at (view k) (i + 1) ≡ s → s.rec ≡ (state_at (view k) i).rec ++ said → st.recorded + length said ≤ length rec
    said_room said s e q = omega (arith, rw q at (room_rec s e), length-append (state_at (view k) i).rec said, T.rec_size, recorded_is T.laid R.recorded)

    -- ---- satisfied
    module _ (s : verdict_of k.host.values (lits_at words (at list i)) ≡ Satisfied) where
      satisfied_is : state_at (view k) (i + 1) ≡ gone (at list i) (strike_line 5 (at list i) words) (state_at (view k) i).rows (state_at (view k) i).binary (state_at (view k) i)
      unfolding sim_one
      satisfied_is = next_is ∙ rw (← T.laid.words_is, d, is_satisfied _ _ refl s)

      pub satisfied_room : st.recorded + (len_at words (at list i) + 2) ≤ length rec
      satisfied_room = omega (arith, said_room (strike_line 5 (at list i) words) _ satisfied_is refl, lits_len)

      pub turn_satisfied : {words' rec' : List ℕ} {end : ℕ} {st' : State} → (end ≡ st.recorded + (len_at words (at list i) + 2)) × (rec' ≡ sets rec st.recorded (strike_line 5 (at list i) words))
          → (st' ≡ state_of st.vars st.words st.clauses st.tiers end (less (tier_at words (at list i)) st.counts) (st.garbage + size_at words (at list i)) st.binary st.activity)
          × (words' ≡ change_head (with_deleted true) (at list i) words)
          → Turned k (i + 1) to words' list rows counts rec' st'
      turn_satisfied {end = end} u y =
          gone_turn _ _ _ satisfied_is y.1 T.laid.rows_is T.laid.counts_is refl refl u.1 (omega (arith, u.0, lits_len))
          (y.0 ∙ ap (λ (b : ℕ). state_of st.vars st.words st.clauses st.tiers end (less (tier_at words (at list i)) st.counts) (st.garbage + size_at words (at list i)) b st.activity) (ap (λ (x : State). x.binary) T.laid.state_is))

    -- ---- nothing false
    module _ (s : verdict_of k.host.values (lits_at words (at list i)) ≡ Same) where
      same_is : state_at (view k) (i + 1) ≡ stays (at list i) [] words (state_at (view k) i)
      unfolding sim_one
      same_is = let b = is_same _ _ refl s in next_is ∙ rw (← T.laid.words_is, d, b.0, eq-eqb _ _ b.1)

      pub turn_same : Turned k (i + 1) (to + 1) words (set list to (at list i)) rows counts rec st
      turn_same = turn _ same_is (laid_stays T.laid R.recorded (at list i) [] words {st' = st} (room_rec _ same_is) (omega (arith, T.behind, T.size, R.listed)) refl refl refl (sym (add-zero st.recorded)) refl)
          (omega (arith, T.behind)) (length-set list to (at list i)) (drop-set-lt (i + 1) list to (at list i) (omega (arith, T.behind))) refl refl refl

    -- ---- shorter, with m literals left
    module _ {m : ℕ} (s : verdict_of k.host.values (lits_at words (at list i)) ≡ Shorter m) where
      abbrev r : List ℕ
      r = unfalsified k.host.values (lits_at words (at list i))

      pub left_is : m ≡ length r
      left_is = (is_shorter _ _ refl m s).1

      fewer : m ≡ len_at words (at list i) → ⊥
      fewer e = (is_shorter _ _ refl m s).2 (e ∙ sym lits_len)

      short_is : state_at (view k) (i + 1) ≡ shorten r (at list i) (state_at (view k) i)
      unfolding sim_one
      short_is = next_is ∙ rw (← T.laid.words_is, d, (is_shorter _ _ refl m s).0, ne_eqb (length r) (length (lits_at words (at list i))) (λ e. fewer (left_is ∙ e ∙ lits_len)))

      short_rec : (shorten r (at list i) (state_at (view k) i)).rec ≡ (state_at (view k) i).rec ++ short_lines_lem r (at list i) words
      short_rec = short_said r (at list i) (state_at (view k) i) ∙ ap (λ (w : List ℕ). (state_at (view k) i).rec ++ short_lines_lem r (at list i) w) (sym T.laid.words_is)

      short_len : length (short_lines_lem r (at list i) words) ≡ (m + 2) + (len_at words (at list i) + 2)
      short_len = length-append (enter_line r (at list i) words) (strike_line 6 (at list i) words) ∙ omega (arith, lits_len, left_is)

      pub short_room : st.recorded + (m + 2) + (len_at words (at list i) + 2) ≤ length rec
      short_room = omega (arith, said_room (short_lines_lem r (at list i) words) _ short_is short_rec, short_len)

      pub m_small : m < len_at words (at list i)
      m_small = omega (arith, unfalsified_length k.host.values (lits_at words (at list i)), lits_len, left_is, fewer)

      pub m_few : m < 2 ^ 32
      m_few = omega (arith, m_small, ends, T.words_size, R.words_most)

      -- what entering the shorter form gave
      module _ {rec₁ : List ℕ} {mid : ℕ} (u : (mid ≡ st.recorded + (m + 2)) × (rec₁ ≡ sets rec st.recorded (entry_kind (original_at words (at list i)) m ∷ m ∷ r))) where
        pub strike_room : mid + (len_at words (at list i) + 2) ≤ length rec₁
        strike_room = rw (u.1, length-sets) (omega (arith, u.0, short_room))

        -- and striking the old one
        module _ {rec₂ : List ℕ} {end : ℕ} (v : (end ≡ mid + (len_at words (at list i) + 2)) × (rec₂ ≡ sets rec₁ mid (strike_line 6 (at list i) words))) where
          lines_are : rec₂ ≡ sets rec st.recorded (short_lines_lem r (at list i) words)
          lines_are =
              let n : st.recorded + (length r + 2) ≡ st.recorded + length (enter_line r (at list i) words) = omega arith in
              rw (v.1, u.1, u.0, left_is, n) (sets_append rec st.recorded (enter_line r (at list i) words) (strike_line 6 (at list i) words))

          rec_len : length rec₂ ≡ length rec
          rec_len = rw (lines_are, length-sets)

          kept_is : (p : ℕ) → p < m → at rec₂ (st.recorded + 2 + p) ≡ at r p
          kept_is p l =
              let n : st.recorded + 2 + p ≡ st.recorded + suc (suc p) = omega arith in
              rw (lines_are, n) (at_sets (short_lines_lem r (at list i) words) rec st.recorded (suc (suc p)) (omega (arith, short_len)) (omega (arith, short_len, short_room)) ∙ get_or-append r (strike_line 6 (at list i) words) 0 p (omega (arith, left_is)))

          pub kept_room : st.recorded + 2 + m ≤ length rec₂
          kept_room = omega (arith, rec_len, short_room)

          -- two left: a binary clause
          module _ (two : m ≡ 2) where
            pub pair_there : (st.recorded + 3 < length rec₂) × (length rec₂ ≤ 2 ^ 24)
            pair_there = (omega (arith, kept_room), omega (arith, rec_len, T.rec_size, R.rec_most))

            bin_is : state_at (view k) (i + 1) ≡ gone (at list i) (short_lines_lem r (at list i) words) (pair_pushed (at r 0) (at r 1) (state_at (view k) i).rows) ((state_at (view k) i).binary + 1) (state_at (view k) i)
            bin_is = short_is ∙ short_two r words (at list i) (state_at (view k) i) T.laid.words_is (sym left_is ∙ two)

            lit_code : (p : ℕ) → p < 2 → neg (at r p) < length k.counts
            lit_code p l =
                let c = unfalsified_in (λ (x : ℕ). neg x < length (view k).rows) k.host.values words (at list i + 3) (len_at words (at list i)) (codes d) p (omega (arith, left_is)) in
                omega (arith, c, rows_many R 0, (state_first (view k) 0).size)

            -- the literals as the code reads them
            abbrev x : ℕ
            x = at rec₂ (st.recorded + 2)

            abbrev y : ℕ
            y = at rec₂ (st.recorded + 3)

            ex : x ≡ at r 0
            ex = simp add-zero at (kept_is 0 (omega arith))

            ey : y ≡ at r 1
            ey = let n : st.recorded + 2 + 1 ≡ st.recorded + 3 = omega arith in rw n at (kept_is 1 (omega arith))

            abbrev rs₀ : List (List ℕ)
            rs₀ = (state_at (view k) i).rows

            rows_then : (state_at (view k) (i + 1)).rows ≡ pair_pushed x y rs₀
            rows_then = rw (ex, ey) (ap (λ (s : Held). s.rows) bin_is)

            counts_long : length counts ≡ length rs₀
            counts_long = ap length T.laid.counts_is ∙ length_lengths rs₀

            fits_then : AllFit (room_in k) (pair_pushed x y rs₀)
            fits_then = rw rows_then at (rows_fit R (i + 1))

            pub pair_requires : (neg x < length counts) × (neg y < length counts) × (length counts * room_in k ≤ length rows) × (room_in k < 2 ^ 32)
            pair_requires =
                (rw (T.counts_size, ex) (lit_code 0 (omega arith)), rw (T.counts_size, ey) (lit_code 1 (omega arith)), rw (T.counts_size, T.rows_size) (square R), room_small R)

            pub pair_fits : (c : ℕ) → c < length counts → at (more (neg y) (more (neg x) counts)) c ≤ room_in k
            pair_fits c l = rw (T.laid.counts_is, pair_counts rs₀ x y c) (rw rows_then at (rows_room R (i + 1) c (omega (arith, T.counts_size))))

            pub turn_binary : {words' rows' counts' : List ℕ} {st₁ : State}
                → (rows' ≡ fill_rows (room_in k) counts (pair_pushed x y (rows_of (room_in k) counts rows)) rows) × (counts' ≡ lengths (pair_pushed x y (rows_of (room_in k) counts rows)))
                → length rows' ≡ length rows → length counts' ≡ length counts
                → (st₁ ≡ state_of st.vars st.words st.clauses st.tiers end (less (tier_at words (at list i)) st.counts) (st.garbage + size_at words (at list i)) st.binary st.activity)
                × (words' ≡ change_head (with_deleted true) (at list i) words)
                → Turned k (i + 1) to words' list rows' counts' rec₂ (with_binary_count (st₁.binary + 1) st₁)
            turn_binary p lr lc w =
                let both = pair_laid (room_in k) k.counts rs₀ k.rows x y (sized R) (rows_fit R i) fits_then (rows_many R i) in
                gone_turn _ _ _ bin_is w.1
                (p.0 ∙ ap₂ (λ (n b : List ℕ). fill_rows (room_in k) n (pair_pushed x y (rows_of (room_in k) n b)) b) T.laid.counts_is T.laid.rows_is ∙ both.0 ∙ ap₂ (λ (u v : ℕ). fill_rows (room_in k) k.counts (pair_pushed u v rs₀) k.rows) ex ey)
                (p.1 ∙ ap₂ (λ (n b : List ℕ). lengths (pair_pushed x y (rows_of (room_in k) n b))) T.laid.counts_is T.laid.rows_is ∙ both.1 ∙ ap₂ (λ (u v : ℕ). lengths (pair_pushed u v rs₀)) ex ey)
                lr lc lines_are (omega (arith, v.0, u.0, short_len))
                (ap (λ (z : State). with_binary_count (z.binary + 1) z) w.0
                ∙ ap (λ (b : ℕ). state_of st.vars st.words st.clauses st.tiers end (less (tier_at words (at list i)) st.counts) (st.garbage + size_at words (at list i)) (b + 1) st.activity) (ap (λ (z : State). z.binary) T.laid.state_is))

          -- three or more: written over the front
          module _ (many : m ≡ 2 → ⊥) where
            front_is : state_at (view k) (i + 1) ≡ stays (at list i) (short_lines_lem r (at list i) words) (sets words (at list i + 2) (length r ∷ r)) (state_at (view k) i)
            front_is = short_is ∙ short_more r words (at list i) (state_at (view k) i) T.laid.words_is (λ e. many (left_is ∙ e))

            read_back : read_n rec₂ (st.recorded + 2) m ≡ r
            read_back =
                read_same rec₂ r (st.recorded + 2) 0 m (λ j l. let z : 0 + j ≡ j = omega arith in rw z (kept_is j l)) ∙ ap (read_n r 0) left_is ∙ read_whole r

            pub turn_front : {words' : List ℕ} → words' ≡ sets words (at list i + 2) (m ∷ read_n rec₂ (st.recorded + 2) m) → Turned k (i + 1) (to + 1) words' (set list to (at list i)) rows counts rec₂ (with_recorded end st)
            turn_front ew =
                turn _ front_is
                (laid_stays T.laid R.recorded (at list i) _ _ {st' = with_recorded end st} (room_rec _ front_is) (omega (arith, T.behind, T.size, R.listed))
                (ew ∙ ap₂ (λ (n : ℕ) (l : List ℕ). sets words (at list i + 2) (n ∷ l)) left_is read_back) refl lines_are (omega (arith, v.0, u.0, short_len)) refl)
                (omega (arith, T.behind)) (length-set list to (at list i)) (drop-set-lt (i + 1) list to (at list i) (omega (arith, T.behind))) refl refl rec_len

-- ---- the beginning
pub turned_start : {k : Lent} → LongReady k → Turned k 0 0 k.words k.clauses k.rows k.counts k.rec k.state
turned_start {k} R = record {
  within = omega arith;
  behind = omega arith;
  size = refl;
  ahead = refl;
  words_size = refl;
  rows_size = refl;
  counts_size = refl;
  rec_size = refl;
  laid = rw (state_zero (view k)) (laid_start k (sized R) R.recorded);
}

-- ---- the end
pub turned_end : {k : Lent} {i to : ℕ} {words list rows counts rec : List ℕ} {st : State} → Turned k i to words list rows counts rec st → LongReady k → k.state.clauses ≤ i
    → {list' : List ℕ} → list' ≡ sets list to (replicate (k.state.clauses - to) 0)
    → ◌≡◌ {A = Lent} (record { state = with_listed to st; words = words; clauses = list'; tiers = k.tiers; rows = rows; counts = counts; rec = rec; host = k.host }) (lay walk_parts k (longs_done (view k)))
turned_end {k} {i} {to} T R h e =
    let q : i ≡ k.state.clauses = omega (arith, T.within) in
    laid_end T.laid (state_first (view k) i) (omega (arith, T.behind)) (omega (arith, T.size, R.listed)) (rw q at T.ahead) e refl ∙ ap (lay walk_parts k) (state_end (view k) i (omega (arith, entries_length R)))
