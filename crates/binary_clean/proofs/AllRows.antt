-- All rows, one after the other: what is done, with what remains, gives the whole. Assumes nothing.
use mathlib.Core.Path.{◌≡◌, refl, sym, ap, ap₂, ◌∙◌}
use mathlib.Core.List.{List, [], ◌∷◌, ◌++◌, append_assoc, append-nil}
use Prim.Native.Nat.{ℕ, suc, ◌+◌, ◌-◌, ◌*◌, ◌^◌, ◌≤◌, ◌<◌}
use native.Mathlib.Omega.{arith}
use native.Mathlib.Numerals.{add-one}
use native.Mathlib.Nat.{add-zero, suc-mul, mul-le-mul_right}
use lib.ListN.{length, set, take, drop, length-set, length-append, length-drop, take-append-drop, drop_of_length-le}
use lib.Seq.{sets, length-sets, drop-cons, take-suc-set, drop-set-lt, drop-drop, get_or-drop, take-take, length-take-le, take-append_seam, take-length, take_all, take_at, drop_at}
use Rattle.std.proofs.lemmas.Grind.{drop_more_same}
use Rattle.laws.specs.Lists.{at, list_at, lengths, joined, fill}
use Rattle.laws.proofs.Parts.{same_next}
use Rattle.laws.proofs.Fills.{length_fill}
use Rattle.laws.proofs.Closing.{sets_append}
use Rattle.kinds.specs.Clauses.{var_of}
use Rattle.kinds.specs.Lines.{Line, line_words, flat}
use Rattle.kinds.specs.Layout.{rows_of, fill_rows}
use Rattle.kinds.proofs.RowLayout.{row_at}
use Rattle.calls.specs.Simplifying.{row_cleaned, row_strikes, rows_cleaned, rows_strikes}
use Rattle.binary_clean.specs.Ready.{RowsReady}
use Rattle.binary_clean.proofs.OneRow.{cleaned_length, strikes_length}

-- ---- the rows from the code c on
abbrev pub from : ℕ → List ℕ → List ℕ → ℕ → List (List ℕ)
from m ns buf c = rows_of m (drop c ns) (drop (c * m) buf)

next_place : (c m : ℕ) → (c + 1) * m ≡ c * m + m
next_place c m = ap (λ (k : ℕ). k * m) (add-one c) ∙ suc-mul c m

drop_next : (m : ℕ) (buf : List ℕ) (c : ℕ) → drop m (drop (c * m) buf) ≡ drop ((c + 1) * m) buf
drop_next m buf c = drop-drop m (c * m) buf ∙ ap (λ (k : ℕ). drop k buf) (sym (next_place c m))

counts_next : (ns : List ℕ) (c : ℕ) → c < length ns → drop c ns ≡ at ns c ∷ drop (c + 1) ns
counts_next ns c h = drop-cons ns c 0 h ∙ ap (λ (k : ℕ). at ns c ∷ drop k ns) (sym (add-one c))

pub flat_append : (xs ys : List Line) → flat (xs ++ ys) ≡ flat xs ++ flat ys
unfolding flat
flat_append [] ys = refl
flat_append (x ∷ xs) ys = ap (λ (l : List ℕ). line_words x ++ l) (flat_append xs ys) ∙ sym (append_assoc (line_words x) (flat xs) (flat ys))

module _ (m : ℕ) (ns buf : List ℕ) (c : ℕ) (h : c < length ns) where
  pub rows_next : from m ns buf c ≡ take (at ns c) (drop (c * m) buf) ∷ from m ns buf (c + 1)
  unfolding rows_of
  rows_next = ap (λ (l : List ℕ). rows_of m l (drop (c * m) buf)) (counts_next ns c h) ∙ ap (λ (l : List ℕ). take (at ns c) (drop (c * m) buf) ∷ rows_of m (drop (c + 1) ns) l) (drop_next m buf c)

  module _ (a : List ℕ) where
    abbrev here : List ℕ
    here = take (at ns c) (drop (c * m) buf)

    pub cleaned_next : rows_cleaned a c (from m ns buf c) ≡ row_cleaned a c here ∷ rows_cleaned a (c + 1) (from m ns buf (c + 1))
    unfolding rows_cleaned
    cleaned_next = ap (rows_cleaned a c) rows_next ∙ ap (λ (k : ℕ). row_cleaned a c here ∷ rows_cleaned a k (from m ns buf (c + 1))) (sym (add-one c))

    strikes_next : rows_strikes a c (from m ns buf c) ≡ row_strikes a c here ++ rows_strikes a (c + 1) (from m ns buf (c + 1))
    unfolding rows_strikes
    strikes_next = ap (rows_strikes a c) rows_next ∙ ap (λ (k : ℕ). row_strikes a c here ++ rows_strikes a k (from m ns buf (c + 1))) (sym (add-one c))

    pub lines_next : flat (rows_strikes a c (from m ns buf c)) ≡ flat (row_strikes a c here) ++ flat (rows_strikes a (c + 1) (from m ns buf (c + 1)))
    lines_next = ap flat strikes_next ∙ flat_append (row_strikes a c here) (rows_strikes a (c + 1) (from m ns buf (c + 1)))

    fill_next : fill_rows m (drop c ns) (rows_cleaned a c (from m ns buf c)) (drop (c * m) buf)
        ≡ fill (take m (drop (c * m) buf)) (at ns c) (row_cleaned a c here) ++ fill_rows m (drop (c + 1) ns) (rows_cleaned a (c + 1) (from m ns buf (c + 1))) (drop ((c + 1) * m) buf)
    unfolding fill_rows
    fill_next =
        ap₂ (λ (l : List ℕ) (r : List (List ℕ)). fill_rows m l r (drop (c * m) buf)) (counts_next ns c h) cleaned_next
        ∙ ap (λ (b : List ℕ). fill (take m (drop (c * m) buf)) (at ns c) (row_cleaned a c here) ++ fill_rows m (drop (c + 1) ns) (rows_cleaned a (c + 1) (from m ns buf (c + 1))) b) (drop_next m buf c)

    joined_next : length (joined (rows_cleaned a c (from m ns buf c))) ≡ length (row_cleaned a c here) + length (joined (rows_cleaned a (c + 1) (from m ns buf (c + 1))))
    unfolding joined
    joined_next = ap (λ (r : List (List ℕ)). length (joined r)) cleaned_next ∙ length-append (row_cleaned a c here) _

    lengths_next : lengths (rows_cleaned a c (from m ns buf c)) ≡ length (row_cleaned a c here) ∷ lengths (rows_cleaned a (c + 1) (from m ns buf (c + 1)))
    unfolding lengths
    lengths_next = ap lengths cleaned_next

from_end : (m : ℕ) (ns buf : List ℕ) (c : ℕ) → length ns ≤ c → from m ns buf c ≡ []
unfolding rows_of
from_end m ns buf c h = ap (λ (l : List ℕ). rows_of m l (drop (c * m) buf)) (drop_of_length-le ns {i = c} h)

-- the part of the buffer that the row of the code c has its room in
abbrev pub lent : ℕ → ℕ → List ℕ → List ℕ
lent c m rows = take (c * m + m - c * m) (drop (c * m) rows)

-- ---- what holds when the rows below c are done
pub record Done (a : List ℕ) (m : ℕ) (ns buf rec₀ : List ℕ) (recorded₀ c entries recorded : ℕ) (rows counts rec : List ℕ) : Type 0 where
  pub rows_size : length rows ≡ length buf
  pub counts_size : length counts ≡ length ns
  pub rec_size : length rec ≡ length rec₀
  pub rows_ahead : drop (c * m) rows ≡ drop (c * m) buf
  pub counts_ahead : drop c counts ≡ drop c ns
  pub rows_is : take (c * m) rows ++ fill_rows m (drop c ns) (rows_cleaned a c (from m ns buf c)) (drop (c * m) buf) ≡ fill_rows m ns (rows_cleaned a 0 (rows_of m ns buf)) buf
  pub counts_is : take c counts ++ lengths (rows_cleaned a c (from m ns buf c)) ≡ lengths (rows_cleaned a 0 (rows_of m ns buf))
  pub told : sets rec recorded (flat (rows_strikes a c (from m ns buf c))) ≡ sets rec₀ recorded₀ (flat (rows_strikes a 0 (rows_of m ns buf)))
  pub end : recorded + length (flat (rows_strikes a c (from m ns buf c))) ≡ recorded₀ + length (flat (rows_strikes a 0 (rows_of m ns buf)))
  pub entries_is : entries + length (joined (rows_cleaned a c (from m ns buf c))) ≡ length (joined (rows_cleaned a 0 (rows_of m ns buf)))
  pub few : entries ≤ c * m

module _ {a : List ℕ} {m : ℕ} {ns buf rec₀ : List ℕ} {recorded₀ c entries recorded : ℕ} {rows counts rec : List ℕ}
    (D : Done a m ns buf rec₀ recorded₀ c entries recorded rows counts rec) (R : RowsReady m ns buf a) (h : c < length ns) where
  pub count_here : at counts c ≡ at ns c
  count_here = same_next counts ns c D.counts_ahead

  pub place_end : c * m + m ≤ length buf
  place_end = let e = mul-le-mul_right {m = suc c} {n = length ns} m (omega arith) in let s = suc-mul c m in omega (arith, R.square)

  pub part_size : length (take m (drop (c * m) buf)) ≡ m
  part_size = length-take-le m (drop (c * m) buf) (omega (arith, length-drop (c * m) buf, place_end))

  -- the part of the buffer that the row's room is
  pub part_is : lent c m rows ≡ take m (drop (c * m) buf)
  part_is =
      let e : c * m + m - c * m ≡ m = omega arith in
      rw (e, D.rows_ahead)

  taken : take (at counts c) (lent c m rows) ≡ take (at ns c) (drop (c * m) buf)
  taken = rw (part_is, count_here) (take-take (at ns c) m (drop (c * m) buf) (R.counted c h))

  pub kept_small : length (row_cleaned a c (take (at ns c) (drop (c * m) buf))) ≤ m
  kept_small =
      omega (arith, cleaned_length a c (take (at ns c) (drop (c * m) buf)), length-take-le (at ns c) (drop (c * m) buf) (omega (arith, length-drop (c * m) buf, place_end, R.counted c h)), R.counted c h)

  pub code_in : var_of c < length a
  code_in = omega (arith, R.codes, h)

  pub entry_in : (p : ℕ) → p < at ns c → var_of (at (take m (drop (c * m) buf)) p) < length a
  entry_in p l =
      let e : at (take m (drop (c * m) buf)) p ≡ at buf (c * m + p) = lib.Seq.get_or-take m (drop (c * m) buf) p 0 (omega (arith, R.counted c h)) ∙ get_or-drop (c * m) buf p 0 in
      rw e (omega (arith, R.in_range c p h l, R.codes))

  pub lines_room : recorded₀ + length (flat (rows_strikes a 0 (rows_of m ns buf))) ≤ length rec₀ → recorded + length (flat (row_strikes a c (take (at ns c) (drop (c * m) buf)))) ≤ length rec
  lines_room g = omega (arith, D.end, ap length (lines_next m ns buf c h a), length-append (flat (row_strikes a c (take (at ns c) (drop (c * m) buf)))) (flat (rows_strikes a (c + 1) (from m ns buf (c + 1)))), D.rec_size)

  module _ {part' rows' counts' rec' : List ℕ} {kept recorded' : ℕ}
      (e₁ : part' ≡ fill (take m (drop (c * m) buf)) (at ns c) (row_cleaned a c (take (at ns c) (drop (c * m) buf))))
      (e₂ : rows' ≡ take (c * m) rows ++ (part' ++ drop (c * m + m) rows))
      (e₃ : counts' ≡ set counts c kept) (e₄ : kept ≡ length (row_cleaned a c (take (at ns c) (drop (c * m) buf))))
      (e₅ : rec' ≡ sets rec recorded (flat (row_strikes a c (take (at ns c) (drop (c * m) buf))))) (e₆ : recorded' ≡ recorded + length (flat (row_strikes a c (take (at ns c) (drop (c * m) buf))))) where
    part_length : length part' ≡ m
    part_length = ap length e₁ ∙ length_fill (take m (drop (c * m) buf)) (at ns c) _ (omega (arith, part_size, R.counted c h)) (omega (arith, part_size, kept_small)) ∙ part_size

    front_length : length (take (c * m) rows ++ part') ≡ (c + 1) * m
    front_length =
        let t = length-take-le (c * m) rows (omega (arith, D.rows_size, place_end)) in
        length-append (take (c * m) rows) part' ∙ omega (arith, t, part_length, next_place c m)

    rows_split : rows' ≡ (take (c * m) rows ++ part') ++ drop (c * m + m) rows
    rows_split = e₂ ∙ sym (append_assoc (take (c * m) rows) part' (drop (c * m + m) rows))

    pub done_next : Done a m ns buf rec₀ recorded₀ (c + 1) (entries + kept) recorded' rows' counts' rec'
    done_next =
        let ahead : drop (c * m + m) rows ≡ drop ((c + 1) * m) buf = sym (drop-drop m (c * m) rows) ∙ ap (drop m) D.rows_ahead ∙ drop_next m buf c in
        let front : take ((c + 1) * m) rows' ≡ take (c * m) rows ++ part' = ap (take ((c + 1) * m)) rows_split ∙ take_at (take (c * m) rows ++ part') (drop (c * m + m) rows) ((c + 1) * m) front_length in
        let listed : take (c + 1) counts' ≡ take c counts ++ (kept ∷ []) = rw (e₃, add-one) (take-suc-set counts c kept (omega (arith, D.counts_size))) in
        let behind : drop (c + 1) counts' ≡ drop (c + 1) counts = rw e₃ (drop-set-lt (c + 1) counts c kept (omega arith)) in
        let line = flat (row_strikes a c (take (at ns c) (drop (c * m) buf))) in
        let others = flat (rows_strikes a (c + 1) (from m ns buf (c + 1))) in
        record {
          rows_size = ap length rows_split ∙ length-append (take (c * m) rows ++ part') (drop (c * m + m) rows) ∙ omega (arith, front_length, length-drop (c * m + m) rows, D.rows_size, place_end, next_place c m);
          counts_size = ap length e₃ ∙ length-set counts c kept ∙ D.counts_size;
          rec_size = ap length e₅ ∙ length-sets rec recorded line ∙ D.rec_size;
          rows_ahead = ap (drop ((c + 1) * m)) rows_split ∙ drop_at (take (c * m) rows ++ part') (drop (c * m + m) rows) ((c + 1) * m) front_length ∙ ahead;
          counts_ahead = behind ∙ drop_more_same counts ns c D.counts_ahead;
          rows_is =
              ap (λ (l : List ℕ). l ++ fill_rows m (drop (c + 1) ns) (rows_cleaned a (c + 1) (from m ns buf (c + 1))) (drop ((c + 1) * m) buf)) (front ∙ ap (λ (l : List ℕ). take (c * m) rows ++ l) e₁)
              ∙ append_assoc (take (c * m) rows) _ _
              ∙ ap (λ (l : List ℕ). take (c * m) rows ++ l) (sym (fill_next m ns buf c h a)) ∙ D.rows_is;
          counts_is =
              ap (λ (l : List ℕ). l ++ lengths (rows_cleaned a (c + 1) (from m ns buf (c + 1)))) listed
              ∙ append_assoc (take c counts) (kept ∷ []) (lengths (rows_cleaned a (c + 1) (from m ns buf (c + 1))))
              ∙ ap (λ (x : ℕ). take c counts ++ (x ∷ lengths (rows_cleaned a (c + 1) (from m ns buf (c + 1))))) e₄
              ∙ ap (λ (l : List ℕ). take c counts ++ l) (sym (lengths_next m ns buf c h a)) ∙ D.counts_is;
          told = ap₂ (λ (l : List ℕ) (n : ℕ). sets l n others) e₅ e₆ ∙ sets_append rec recorded line others ∙ ap (sets rec recorded) (sym (lines_next m ns buf c h a)) ∙ D.told;
          end = omega (arith, e₆, D.end, ap length (lines_next m ns buf c h a), length-append line others);
          entries_is = omega (arith, D.entries_is, joined_next m ns buf c h a, e₄);
          few = omega (arith, D.few, e₄, kept_small, next_place c m);
        }

  -- the same from what the row's cleaning gave
  pub done_turn : {part' rows' counts' rec' : List ℕ} {kept recorded' : ℕ}
      → (part' ≡ fill (lent c m rows) (at counts c) (row_cleaned a c (take (at counts c) (lent c m rows))))
      × (rec' ≡ sets rec recorded (flat (row_strikes a c (take (at counts c) (lent c m rows)))))
      × (kept ≡ length (row_cleaned a c (take (at counts c) (lent c m rows))))
      × (recorded' ≡ recorded + length (flat (row_strikes a c (take (at counts c) (lent c m rows)))))
      → rows' ≡ take (c * m) rows ++ (part' ++ drop (c * m + m - c * m) (drop (c * m) rows)) → counts' ≡ set counts c kept
      → Done a m ns buf rec₀ recorded₀ (c + 1) (entries + kept) recorded' rows' counts' rec'
  done_turn (p, r, k, u) w v =
      let z : c * m + m - c * m ≡ m = omega arith in
      done_next (rw (taken, part_is, count_here) at p) (rw (z, drop-drop m (c * m) rows) at w) v (rw taken at k) (rw taken at r) (rw taken at u)

  pub kept_fits : {kept : ℕ} → kept ≡ length (row_cleaned a c (take (at counts c) (lent c m rows))) → entries + kept ≤ 2 ^ 24
  kept_fits k = omega (arith, rw taken at k, kept_small, D.few, place_end, R.most)

  -- what the row's cleaning needs
  pub count_in : at counts c ≤ length (lent c m rows)
  count_in = omega (arith, ap length part_is, part_size, count_here, R.counted c h)

  pub lines_fit : recorded₀ + length (flat (rows_strikes a 0 (rows_of m ns buf))) ≤ length rec₀ → recorded + length (flat (row_strikes a c (take (at counts c) (lent c m rows)))) ≤ length rec
  lines_fit g = rw taken (lines_room g)

  pub entries_fit : (p : ℕ) → p < at counts c → var_of (at (lent c m rows) p) < length a
  entries_fit p l = rw part_is (entry_in p (omega (arith, count_here)))

module _ {a : List ℕ} {m : ℕ} {ns buf rec₀ : List ℕ} {recorded₀ c entries recorded : ℕ} {rows counts rec : List ℕ}
    (D : Done a m ns buf rec₀ recorded₀ c entries recorded rows counts rec) (g : length ns ≤ c) where
  none : from m ns buf c ≡ []
  none = from_end m ns buf c g

  pub done_end : (rows ≡ fill_rows m ns (rows_cleaned a 0 (rows_of m ns buf)) buf)
      × (counts ≡ lengths (rows_cleaned a 0 (rows_of m ns buf)))
      × (rec ≡ sets rec₀ recorded₀ (flat (rows_strikes a 0 (rows_of m ns buf))))
      × (entries ≡ length (joined (rows_cleaned a 0 (rows_of m ns buf))))
      × (recorded ≡ recorded₀ + length (flat (rows_strikes a 0 (rows_of m ns buf))))
  unfolding fill_rows rows_cleaned rows_strikes lengths joined flat
  done_end = (
    sym (take-append-drop (c * m) rows) ∙ ap (λ (l : List ℕ). take (c * m) rows ++ l) D.rows_ahead
        ∙ ap (λ (l : List ℕ). take (c * m) rows ++ fill_rows m l (rows_cleaned a c (from m ns buf c)) (drop (c * m) buf)) (sym (drop_of_length-le ns {i = c} g)) ∙ D.rows_is,
    sym (take_all c counts (omega (arith, D.counts_size))) ∙ sym (append-nil (take c counts)) ∙ ap (λ (r : List (List ℕ)). take c counts ++ lengths (rows_cleaned a c r)) (sym none) ∙ D.counts_is,
    ap (λ (r : List (List ℕ)). sets rec recorded (flat (rows_strikes a c r))) (sym none) ∙ D.told,
    sym (add-zero entries) ∙ ap (λ (r : List (List ℕ)). entries + length (joined (rows_cleaned a c r))) (sym none) ∙ D.entries_is,
    sym (add-zero recorded) ∙ ap (λ (r : List (List ℕ)). recorded + length (flat (rows_strikes a c r))) (sym none) ∙ D.end,
  )

-- ---- only counting
pub record Tallying (a : List ℕ) (m : ℕ) (ns buf tally₀ : List ℕ) (c words : ℕ) (tally : List ℕ) : Type 0 where
  pub size : length tally ≡ length tally₀
  pub short : words ≤ 4 * (c * m)
  pub told : words + length (flat (rows_strikes a c (from m ns buf c))) ≡ length (flat (rows_strikes a 0 (rows_of m ns buf)))
  pub tally_is : sets tally c (lengths (rows_cleaned a c (from m ns buf c))) ≡ sets tally₀ 0 (lengths (rows_cleaned a 0 (rows_of m ns buf)))

module _ {a : List ℕ} {m : ℕ} {ns buf tally₀ : List ℕ} {c words : ℕ} {tally : List ℕ} (T : Tallying a m ns buf tally₀ c words tally) (R : RowsReady m ns buf a) (h : c < length ns) where
  abbrev row : List ℕ
  row = take (at ns c) (drop (c * m) buf)

  pub row_end : c * m + m ≤ length buf
  row_end = let e = mul-le-mul_right {m = suc c} {n = length ns} m (omega arith) in let s = suc-mul c m in omega (arith, R.square)

  pub row_length_lem : length row ≡ at ns c
  row_length_lem = length-take-le (at ns c) (drop (c * m) buf) (omega (arith, length-drop (c * m) buf, row_end, R.counted c h))

  pub row_entry : (p : ℕ) → p < length row → var_of (at row p) < length a
  row_entry p l =
      let e : at row p ≡ at buf (c * m + p) = lib.Seq.get_or-take (at ns c) (drop (c * m) buf) p 0 (omega (arith, row_length_lem)) ∙ get_or-drop (c * m) buf p 0 in
      rw e (omega (arith, R.in_range c p h (omega (arith, row_length_lem)), R.codes))

  pub row_few : length (row_cleaned a c row) ≤ m
  row_few = omega (arith, cleaned_length a c row, row_length_lem, R.counted c h)

  pub words_few : words + length (flat (row_strikes a c row)) ≤ 4 * length buf
  words_few = omega (arith, T.short, strikes_length a c row, row_length_lem, R.counted c h, row_end)

  pub tallying_next : {kept more : ℕ} {tally' : List ℕ} → kept ≡ length (row_cleaned a c row) → more ≡ length (flat (row_strikes a c row)) → tally' ≡ set tally c kept
      → Tallying a m ns buf tally₀ (c + 1) (words + more) tally'
  tallying_next {kept} {more} {tally'} e₁ e₂ e₃ =
      let others = lengths (rows_cleaned a (c + 1) (from m ns buf (c + 1))) in
      record {
        size = ap length e₃ ∙ length-set tally c kept ∙ T.size;
        short = omega (arith, T.short, e₂, strikes_length a c row, row_length_lem, R.counted c h, next_place c m);
        told = omega (arith, T.told, e₂, ap length (lines_next m ns buf c h a), length-append (flat (row_strikes a c row)) (flat (rows_strikes a (c + 1) (from m ns buf (c + 1)))));
        tally_is =
            ap₂ (λ (l : List ℕ) (k : ℕ). sets l k others) e₃ (add-one c)
            ∙ ap (λ (x : ℕ). sets tally c (x ∷ others)) e₁
            ∙ ap (sets tally c) (sym (lengths_next m ns buf c h a)) ∙ T.tally_is;
      }

  -- the same from what the row's counting gave, `read` being the row as it was lent
  module _ {read : List ℕ} (e : read ≡ list_at (rows_of m ns buf) c) where
    read_is : read ≡ row
    read_is = e ∙ row_at m ns buf c h

    pub entries_in : (p : ℕ) → p < length read → var_of (at read p) < length a
    entries_in = rw read_is row_entry

    module _ {kept more : ℕ} (k : (kept ≡ length (row_cleaned a c read)) × (more ≡ length (flat (row_strikes a c read)))) where
      pub counted_few : (kept ≤ 2 ^ 24) × (words + more ≤ 2 ^ 26)
      counted_few = (omega (arith, rw read_is at k.0, row_few, row_end, R.most), omega (arith, rw read_is at k.1, words_few, R.most))

      pub tallying_turn : {tally' : List ℕ} → tally' ≡ set tally c kept → Tallying a m ns buf tally₀ (c + 1) (words + more) tally'
      tallying_turn v = tallying_next (rw read_is at k.0) (rw read_is at k.1) v

module _ {a : List ℕ} {m : ℕ} {ns buf tally₀ : List ℕ} {c words : ℕ} {tally : List ℕ} (T : Tallying a m ns buf tally₀ c words tally) (g : length ns ≤ c) where
  pub tallying_end : (words ≡ length (flat (rows_strikes a 0 (rows_of m ns buf)))) × (tally ≡ sets tally₀ 0 (lengths (rows_cleaned a 0 (rows_of m ns buf))))
  unfolding rows_cleaned rows_strikes lengths flat
  tallying_end = (
    sym (add-zero words) ∙ ap (λ (r : List (List ℕ)). words + length (flat (rows_strikes a c r))) (sym (from_end m ns buf c g)) ∙ T.told,
    ap (λ (r : List (List ℕ)). sets tally c (lengths (rows_cleaned a c r))) (sym (from_end m ns buf c g)) ∙ T.tally_is,
  )
