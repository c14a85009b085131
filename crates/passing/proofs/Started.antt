-- An accepted start leaves a store that passes, and with a host side that passes all of it: so there is something to preserve. Assumes nothing.
use mathlib.Core.Path.{◌≡◌, refl, sym, ap, ◌∙◌, subst}
use mathlib.Core.Bool.{true, ◌&&◌}
use mathlib.Core.List.{List, [], ◌∷◌}
use Prim.Native.Nat.{ℕ, zero, suc, ◌*◌, ◌^◌}
use native.Mathlib.Omega.{arith}
use lib.ListN.{length, drop, replicate, length-replicate}
use lib.Dec.{eqb, ltb, T}
use lib.Ieee.{Float, binary32, fits, to_bits}
use lib.Ieee.Bits.{of_bits-fits}
use lib.Ieee.Fits.{div-fits}
use borrow.Author.Tests.{leb-true, eqb-true, ltb-true, not-false}
use Rattle.laws.specs.Fold.{all_below}
use Rattle.laws.specs.Lists.{at, list_at, take_each}
use Rattle.laws.specs.Counts.{count}
use Rattle.laws.proofs.Folds.{and_both, and_left, and_right, all_of, all_at}
use Rattle.laws.proofs.Members.{In}
use Rattle.laws.proofs.Sums.{sum_zeros}
use Rattle.laws.proofs.Entries.{elem_none}
use Rattle.laws.proofs.Sorting.{count_nil}
use Rattle.kinds.specs.Clauses.{neg}
use Rattle.kinds.specs.Floats.{unity, inverse, decay_ok, inverse_ok}
use Rattle.kinds.specs.Lent.{Lent, room_of}
use Rattle.kinds.specs.Layout.{rows_of, view}
use Rattle.kinds.proofs.FloatRanges.{bump_bound, unity_ok, inverse_ok_lem}
use Rattle.calls.specs.Call.{everything}
use Rattle.calls.specs.Size.{vars_in_range, sized, words_sized, tier_sized, tiers_sized, rows_sized, record_sized, levels_sized, host_sized, sizes_ok, at_most, tier_at_most, start_sizes_ok}
use Rattle.calls.specs.StorePasses.{store_passes}
use Rattle.calls.specs.HostPasses.{host_passes}
use Rattle.calls.specs.Adding.{zeros, zeros_each, started}
use Rattle.calls.specs.Outcome.{start_number}
use Rattle.demands.specs.Demands.{whole_passes, Typed, Kept}
use Rattle.passing.proofs.Store.{Store}
use Rattle.passing.proofs.Good.{row_size, Even, Tuned, Quiet}
use Rattle.passing.proofs.Tests.{words_test, tiers_test, rows_test, floats_test}
use Rattle.calls.proofs.Given.{first_not, others_not}
use Rattle.passing.proofs.Sizes.{sized_test}
use Rattle.passing.proofs.Sizes as sizes

-- ---- what an accepted start was given

module _ (v : ℕ) (d : Float) (k : Lent) (z : start_number v d k ≡ 0) where
  sizes_given : start_sizes_ok v k ≡ true
  unfolding start_number
  sizes_given = not-false _ (first_not 1 _ _ (λ q. omega arith) z)

  decay_given : decay_ok d ≡ true
  unfolding start_number
  decay_given = not-false _ (first_not 12 _ _ (λ q. omega arith) (others_not 1 _ _ (λ q. omega arith) z))

-- ---- empty lists

zeros_at : (n i : ℕ) → at (replicate n 0) i ≡ 0
zeros_at zero i = refl
zeros_at (suc n) zero = refl
zeros_at (suc n) (suc i) = zeros_at n i

no_rows : (m n : ℕ) (buf : List ℕ) (c : ℕ) → list_at (rows_of m (replicate n 0) buf) c ≡ []
unfolding rows_of
no_rows m zero buf c = refl
no_rows m (suc n) buf zero = refl
no_rows m (suc n) buf (suc c) = no_rows m n (drop m buf) c

rows_many : (m n : ℕ) (buf : List ℕ) → length (rows_of m (replicate n 0) buf) ≡ n
unfolding rows_of
rows_many m zero buf = refl
rows_many m (suc n) buf = ap suc (rows_many m n (drop m buf))

no_entries : (n : ℕ) (ls : List (List ℕ)) (t : ℕ) → list_at (take_each (replicate n 0) ls) t ≡ []
unfolding take_each
no_entries zero ls t = refl
no_entries (suc n) [] t = refl
no_entries (suc n) (l ∷ ls) zero = refl
no_entries (suc n) (l ∷ ls) (suc t) = no_entries n ls t

lists_many : (n : ℕ) (ls : List (List ℕ)) → length ls ≡ n → length (take_each (replicate n 0) ls) ≡ n
unfolding take_each
lists_many zero ls e = refl
lists_many (suc n) [] e = absurd (omega arith)
lists_many (suc n) (l ∷ ls) e = ap suc (lists_many n ls (omega arith))

zeros_long : (l : List ℕ) → length (zeros l) ≡ length l
zeros_long l = length-replicate {A = ℕ} (length l) 0

zeros_each_lem : (ls : List (List ℕ)) → length (zeros_each ls) ≡ length ls
unfolding zeros_each
zeros_each_lem [] = refl
zeros_each_lem (l ∷ ls) = ap suc (zeros_each_lem ls)

zeros_list : (ls : List (List ℕ)) (t : ℕ) → length (list_at (zeros_each ls) t) ≡ length (list_at ls t)
unfolding zeros_each
zeros_list [] t = refl
zeros_list (l ∷ ls) zero = zeros_long l
zeros_list (l ∷ ls) (suc t) = zeros_list ls t

none_in : (l : List ℕ) (x : ℕ) → l ≡ [] → In x l → ⊥
none_in l x e m = elem_none x (subst (λ (y : List ℕ). In x y) e m)

-- ---- the empty store

module _ (v : ℕ) (d : Float) (k : Lent) (fit : T (fits binary32 d)) (four : length k.tiers ≡ 4) (z : start_number v d k ≡ 0) where
  abbrev s : Lent
  s = started v d k

  empty_store : Store v (view s).words 0 [] (view s).counts 0 (view s).tiers []
  unfolding view started
  empty_store = record {
    chain = omega arith;
    clause = λ o m. absurd (elem_none o m);
    counts = λ t h. zeros_at 4 t;
    garbage = omega arith;
    covered = λ o m. absurd (elem_none o m);
    entry = λ t e h m. absurd (none_in (list_at (take_each (replicate 4 0) (zeros_each k.tiers)) t) e (no_entries 4 (zeros_each k.tiers) t) m);
    four_counts = refl;
    four_lists_lem = lists_many 4 (zeros_each k.tiers) (zeros_each_lem k.tiers ∙ four);
    room = omega arith;
  }

  counts_many : length k.counts ≡ 2 * v
  unfolding start_sizes_ok
  counts_many = eqb-true (length k.counts) (2 * v) (and_left _ _ (and_right (vars_in_range v) _ (sizes_given v d k z)))

  empty_rows : Even v (view s).rows 0
  unfolding view started
  empty_rows =
      let rows = rows_of (room_of v (zeros k.rows)) (zeros k.counts) (zeros k.rows) in
      let none : (c : ℕ) → list_at rows c ≡ [] = no_rows (room_of v (zeros k.rows)) (length k.counts) (zeros k.rows) in
      record {
        long = rows_many (room_of v (zeros k.rows)) (length k.counts) (zeros k.rows) ∙ counts_many;
        below = λ c x h m. absurd (none_in (list_at rows c) x (none c) m);
        apart = λ c x h m. absurd (none_in (list_at rows c) x (none c) m);
        even = λ x y a b. ap (count y) (none (neg x)) ∙ empty_count y x ∙ sym (ap (count x) (none (neg y)));
        half = sym (sum_zeros (row_size rows) (2 * v) (λ c h. ap length (none c)));
      }
    where
      empty_count : (y x : ℕ) → count y [] ≡ count x []
      empty_count y x = count_nil y ∙ sym (count_nil x)

  fresh_tuned : Tuned unity (inverse d)
  unfolding inverse_ok
  fresh_tuned =
      let i = inverse_ok_lem d fit (decay_given v d k z) in
      record {
        bump = bump_bound unity unity_ok;
        above = ltb-true 0x3f80_0000 (to_bits binary32 (inverse d)) (and_left _ _ i);
        below = ltb-true (to_bits binary32 (inverse d)) 0x4180_0000 (and_right (ltb 0x3f80_0000 (to_bits binary32 (inverse d))) _ i);
        bump_fits = of_bits-fits binary32 0x3f80_0000;
        inverse_fits = div-fits binary32 unity d;
      }

  pub started_store : store_passes everything (view s) ≡ true
  unfolding store_passes view started
  started_store =
      let quiet : Quiet (view s).words [] = λ o m. absurd (elem_none o m) in
      and_both _ _ (words_test (view s) empty_store quiet) (and_both _ _ (tiers_test (view s) empty_store quiet) (and_both _ _ (rows_test (view s) empty_rows) (floats_test (view s) fresh_tuned)))

  pub started_typed : Typed s
  unfolding started
  started_typed = record { lists = zeros_each_lem k.tiers ∙ four; lengths = refl; counts = refl; bump = fresh_tuned.bump_fits; inverse = fresh_tuned.inverse_fits }

  -- the sizes judged at the start, one after the other
  given_words : at_most (2 ^ 24) k.words && (at_most (2 ^ 22) k.clauses && (all_below (tier_at_most k) 4 && (at_most (2 ^ 24) k.rows && at_most (2 ^ 24) k.rec))) ≡ true
  unfolding start_sizes_ok
  given_words = and_right (eqb (length k.counts) (2 * v)) _ (and_right (vars_in_range v) _ (sizes_given v d k z))

  given_clauses : at_most (2 ^ 22) k.clauses && (all_below (tier_at_most k) 4 && (at_most (2 ^ 24) k.rows && at_most (2 ^ 24) k.rec)) ≡ true
  given_clauses = and_right (at_most (2 ^ 24) k.words) _ given_words

  given_tiers : all_below (tier_at_most k) 4 && (at_most (2 ^ 24) k.rows && at_most (2 ^ 24) k.rec) ≡ true
  given_tiers = and_right (at_most (2 ^ 22) k.clauses) _ given_clauses

  given_rows : at_most (2 ^ 24) k.rows && at_most (2 ^ 24) k.rec ≡ true
  given_rows = and_right (all_below (tier_at_most k) 4) _ given_tiers

  empty_sized : (m : ℕ) (l : List ℕ) → at_most m l ≡ true → sized m 0 (zeros l) ≡ true
  empty_sized m l e = let a = leb-true (length l) m e in let b = zeros_long l in sized_test m 0 (zeros l) (omega arith) (omega arith)

  words_started : words_sized s ≡ true
  unfolding words_sized started
  words_started = and_both _ _ (empty_sized (2 ^ 24) k.words (and_left _ _ given_words)) (empty_sized (2 ^ 22) k.clauses (and_left _ _ given_clauses))

  tiers_started : tiers_sized s ≡ true
  unfolding tiers_sized tier_sized started tier_at_most
  tiers_started = all_of (tier_sized s) 4 (λ t g.
      let a = leb-true (length (list_at k.tiers t)) (2 ^ 22) (all_at (tier_at_most k) 4 (and_left _ _ given_tiers) t g) in
      let b = zeros_list k.tiers t in
      let c = zeros_at 4 t in
      sized_test (2 ^ 22) (at (replicate 4 0) t) (list_at (zeros_each k.tiers) t) (omega arith) (omega arith))

  rows_started : rows_sized s ≡ true
  unfolding started
  rows_started =
      let a = leb-true (length k.rows) (2 ^ 24) (and_left _ _ given_rows) in
      let b = zeros_long k.rows in
      sizes.rows_test s (omega arith) (zeros_long k.counts ∙ counts_many) (λ c g. let e = zeros_at (length k.counts) c in omega arith)

  record_started : record_sized s ≡ true
  unfolding record_sized started
  record_started = empty_sized (2 ^ 24) k.rec (and_right (at_most (2 ^ 24) k.rows) _ given_rows)

  vars_started : vars_in_range v ≡ true
  unfolding start_sizes_ok
  vars_started = and_left _ _ (sizes_given v d k z)

  started_sizes : levels_sized v k.host ≡ true → host_sized v k.host ≡ true → sizes_ok everything s ≡ true
  unfolding sizes_ok started
  started_sizes levels host = and_both _ _ vars_started (and_both _ _ words_started (and_both _ _ tiers_started (and_both _ _ rows_started (and_both _ _ record_started (and_both _ _ levels host)))))

  -- with a host side that is of the right size and passes
  pub started_kept : levels_sized v k.host ≡ true → host_sized v k.host ≡ true → host_passes everything (view s) ≡ true → Kept s
  unfolding whole_passes
  started_kept levels host passes = record { typed = started_typed; passes = and_both _ _ (started_sizes levels host) (and_both _ _ started_store passes) }
