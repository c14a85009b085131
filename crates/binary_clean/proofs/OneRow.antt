-- One row: the entries that stay and the lines of those that go. Assumes nothing.
use mathlib.Core.Path.{◌≡◌, refl, sym, ap, ap₂, ◌∙◌}
use mathlib.Core.Bool.{Bool, true, false, cond, not, ◌&&◌}
use mathlib.Core.List.{List, [], ◌∷◌, ◌++◌, append_assoc, append-nil}
use Prim.Native.Nat.{ℕ, suc, ◌+◌, ◌-◌, ◌*◌, ◌≤◌, ◌<◌}
use native.Mathlib.Omega.{arith}
use native.Mathlib.Numerals.{add-one}
use lib.ListN.{length, set, take, drop, replicate, length-set, drop_of_length-le}
use lib.Seq.{sets, drop-cons, get_or-take, length-sets, take-suc-set, drop-set-lt, length-take-le}
use lib.Dec.{ltb}
use Rattle.std.proofs.lemmas.Grind.{drop_more_same}
use Rattle.laws.specs.Lists.{at, fill}
use Rattle.laws.proofs.Parts.{same_next}
use Rattle.laws.proofs.Closing.{sets_append, closed}
use Rattle.kinds.specs.Clauses.{neg}
use Rattle.kinds.specs.Lines.{Line, line, line_words, flat}
use Rattle.calls.specs.Simplifying.{stays_in, row_cleaned, row_strikes}

-- ---- one entry more
module _ (a : List ℕ) (r b : ℕ) (bs : List ℕ) where
  pub cleaned_stays : stays_in a r b ≡ true → row_cleaned a r (b ∷ bs) ≡ b ∷ row_cleaned a r bs
  unfolding row_cleaned
  cleaned_stays e = ap (λ (x : Bool). cond x (b ∷ row_cleaned a r bs) (row_cleaned a r bs)) e

  pub cleaned_goes : stays_in a r b ≡ false → row_cleaned a r (b ∷ bs) ≡ row_cleaned a r bs
  unfolding row_cleaned
  cleaned_goes e = ap (λ (x : Bool). cond x (b ∷ row_cleaned a r bs) (row_cleaned a r bs)) e

  choice : (x y : Bool) → stays_in a r b ≡ x → ltb (neg r) b ≡ y → row_strikes a r (b ∷ bs) ≡ cond (not x && y) (line 5 (neg r ∷ b ∷ []) ∷ row_strikes a r bs) (row_strikes a r bs)
  unfolding row_strikes
  choice x y e f = ap₂ (λ (s t : Bool). cond (not s && t) (line 5 (neg r ∷ b ∷ []) ∷ row_strikes a r bs) (row_strikes a r bs)) e f

  pub strikes_stays : stays_in a r b ≡ true → row_strikes a r (b ∷ bs) ≡ row_strikes a r bs
  strikes_stays e = choice true (ltb (neg r) b) e refl

  pub strikes_struck : stays_in a r b ≡ false → ltb (neg r) b ≡ true → row_strikes a r (b ∷ bs) ≡ line 5 (neg r ∷ b ∷ []) ∷ row_strikes a r bs
  strikes_struck e f = choice false true e f

  pub strikes_quiet : stays_in a r b ≡ false → ltb (neg r) b ≡ false → row_strikes a r (b ∷ bs) ≡ row_strikes a r bs
  strikes_quiet e f = choice false false e f

pub flat_cons : (l : Line) (ls : List Line) → flat (l ∷ ls) ≡ line_words l ++ flat ls
unfolding flat
flat_cons l ls = refl

pub flat_length : (a b : ℕ) (ls : List Line) → length (flat (line 5 (a ∷ b ∷ []) ∷ ls)) ≡ 4 + length (flat ls)
unfolding flat
flat_length a b ls = omega arith

-- a row has no more entries afterwards
pub cleaned_length : (a : List ℕ) (r : ℕ) (bs : List ℕ) → length (row_cleaned a r bs) ≤ length bs
unfolding row_cleaned
cleaned_length a r [] = omega arith
cleaned_length a r (b ∷ bs) = go (stays_in a r b) (cleaned_length a r bs)
  where
    go : (x : Bool) → length (row_cleaned a r bs) ≤ length bs → length (cond x (b ∷ row_cleaned a r bs) (row_cleaned a r bs)) ≤ suc (length bs)
    go true h = omega arith
    go false h = omega arith

pub strikes_length : (a : List ℕ) (r : ℕ) (bs : List ℕ) → length (flat (row_strikes a r bs)) ≤ 4 * length bs
strikes_length a r [] = unfold row_strikes in unfold flat in omega arith
strikes_length a r (b ∷ bs) = go (stays_in a r b) (ltb (neg r) b) refl refl (strikes_length a r bs)
  where
    go : (x y : Bool) → stays_in a r b ≡ x → ltb (neg r) b ≡ y → length (flat (row_strikes a r bs)) ≤ 4 * length bs → length (flat (row_strikes a r (b ∷ bs))) ≤ 4 * suc (length bs)
    go true y e f h = rw (strikes_stays a r b bs e) (omega arith)
    go false true e f h = rw (strikes_struck a r b bs e f) (omega (arith, flat_length (neg r) b (row_strikes a r bs)))
    go false false e f h = rw (strikes_quiet a r b bs e f) (omega arith)

-- ---- the loop: i of the entries xs are read, `to` of them stay
pub record Swept (a : List ℕ) (code : ℕ) (xs row₀ rec₀ : List ℕ) (recorded₀ i to recorded : ℕ) (row rec : List ℕ) : Type 0 where
  pub behind : to ≤ i
  pub size : length row ≡ length row₀
  pub rec_size : length rec ≡ length rec₀
  pub ahead : drop i row ≡ drop i row₀
  pub kept : take to row ++ row_cleaned a code (drop i xs) ≡ row_cleaned a code xs
  pub told : sets rec recorded (flat (row_strikes a code (drop i xs))) ≡ sets rec₀ recorded₀ (flat (row_strikes a code xs))
  pub end : recorded + length (flat (row_strikes a code (drop i xs))) ≡ recorded₀ + length (flat (row_strikes a code xs))

module _ {a : List ℕ} {code n : ℕ} {row₀ rec₀ : List ℕ} {recorded₀ i to recorded : ℕ} {row rec : List ℕ} (S : Swept a code (take n row₀) row₀ rec₀ recorded₀ i to recorded row rec) (h : i < n) (l : n ≤ length row₀) where
  pub here : at row i ≡ at row₀ i
  here = same_next row row₀ i S.ahead

  abbrev rest : List ℕ
  rest = drop (i + 1) (take n row₀)

  next : drop i (take n row₀) ≡ at row i ∷ rest
  next = rw (here, ← get_or-take n row₀ i 0 h, add-one) (drop-cons (take n row₀) i 0 (rw (length-take-le n row₀ l) h))

  pub swept_stays : stays_in a code (at row i) ≡ true → {row' : List ℕ} → row' ≡ set row to (at row i) → Swept a code (take n row₀) row₀ rec₀ recorded₀ (i + 1) (to + 1) recorded row' rec
  swept_stays t {row'} e =
      let front : take (to + 1) row' ≡ take to row ++ (at row i ∷ []) = rw (e, add-one) (take-suc-set row to (at row i) (omega (arith, S.behind, S.size))) in
      let s = ap (row_strikes a code) next ∙ strikes_stays a code (at row i) rest t in
      record {
        behind = omega (arith, S.behind);
        size = rw (e, length-set) S.size;
        rec_size = S.rec_size;
        ahead = rw e (drop-set-lt (i + 1) row to (at row i) (omega (arith, S.behind))) ∙ drop_more_same row row₀ i S.ahead;
        kept = ap (λ (x : List ℕ). x ++ row_cleaned a code rest) front
            ∙ append_assoc (take to row) (at row i ∷ []) (row_cleaned a code rest)
            ∙ ap (λ (x : List ℕ). take to row ++ x) (sym (ap (row_cleaned a code) next ∙ cleaned_stays a code (at row i) rest t)) ∙ S.kept;
        told = rw s at S.told;
        end = rw s at S.end;
      }

  module _ (t : stays_in a code (at row i) ≡ false) where
    goes : take to row ++ row_cleaned a code rest ≡ row_cleaned a code (take n row₀)
    goes = rw (ap (row_cleaned a code) next ∙ cleaned_goes a code (at row i) rest t) at S.kept

    module _ (b : ltb (neg code) (at row i) ≡ true) where
      lines : flat (row_strikes a code (drop i (take n row₀))) ≡ line_words (line 5 (neg code ∷ at row i ∷ [])) ++ flat (row_strikes a code rest)
      lines = ap flat (ap (row_strikes a code) next ∙ strikes_struck a code (at row i) rest t b) ∙ flat_cons (line 5 (neg code ∷ at row i ∷ [])) (row_strikes a code rest)

      lines_length : length (flat (row_strikes a code (drop i (take n row₀)))) ≡ 4 + length (flat (row_strikes a code rest))
      lines_length = ap length lines ∙ omega arith

      pub strike_room : recorded₀ + length (flat (row_strikes a code (take n row₀))) ≤ length rec₀ → recorded + 4 ≤ length rec
      strike_room g = omega (arith, S.end, lines_length, S.rec_size)

      pub swept_struck : {rec' : List ℕ} {recorded' : ℕ} → recorded' ≡ recorded + 4 → rec' ≡ sets rec recorded (line_words (line 5 (neg code ∷ at row i ∷ [])))
          → Swept a code (take n row₀) row₀ rec₀ recorded₀ (i + 1) to recorded' row rec'
      swept_struck f e = record {
        behind = omega (arith, S.behind);
        size = S.size;
        rec_size = rw (e, length-sets) S.rec_size;
        ahead = drop_more_same row row₀ i S.ahead;
        kept = goes;
        told = rw (e, f) (sets_append rec recorded (line_words (line 5 (neg code ∷ at row i ∷ []))) (flat (row_strikes a code rest))) ∙ ap (sets rec recorded) (sym lines) ∙ S.told;
        end = omega (arith, f, lines_length, S.end);
      }

    pub swept_quiet : ltb (neg code) (at row i) ≡ false → Swept a code (take n row₀) row₀ rec₀ recorded₀ (i + 1) to recorded row rec
    swept_quiet b =
        let s = ap (row_strikes a code) next ∙ strikes_quiet a code (at row i) rest t b in
        record { behind = omega (arith, S.behind); size = S.size; rec_size = S.rec_size; ahead = drop_more_same row row₀ i S.ahead; kept = goes; told = rw s at S.told; end = rw s at S.end }

pub swept_end : {a : List ℕ} {code n : ℕ} {row₀ rec₀ : List ℕ} {recorded₀ to recorded : ℕ} {row rec : List ℕ} → Swept a code (take n row₀) row₀ rec₀ recorded₀ n to recorded row rec → n ≤ length row₀
    → {row' : List ℕ} → row' ≡ sets row to (replicate (n - to) 0)
    → (row' ≡ fill row₀ n (row_cleaned a code (take n row₀)))
    × (rec ≡ sets rec₀ recorded₀ (flat (row_strikes a code (take n row₀))))
    × (to ≡ length (row_cleaned a code (take n row₀)))
    × (recorded ≡ recorded₀ + length (flat (row_strikes a code (take n row₀))))
unfolding row_cleaned row_strikes flat
swept_end {a} {code} {n} {row₀} {rec₀} {recorded₀} {to} {recorded} {row} {rec} S l e =
    let none : drop n (take n row₀) ≡ [] = drop_of_length-le (take n row₀) (omega (arith, length-take-le n row₀ l)) in
    let left : take to row ≡ row_cleaned a code (take n row₀) = sym (append-nil (take to row)) ∙ rw none at S.kept in
    let to_length : to ≡ length (row_cleaned a code (take n row₀)) = sym (length-take-le to row (omega (arith, S.behind, S.size))) ∙ ap length left in
    (e ∙ closed row₀ row (row_cleaned a code (take n row₀)) n to S.behind (omega (arith, S.size)) to_length left S.ahead, rw none at S.told, to_length, omega (arith, rw none at S.end))

-- ---- the loop that only counts
pub record Read (a : List ℕ) (code : ℕ) (row : List ℕ) (i entries words : ℕ) : Type 0 where
  pub few : entries ≤ i
  pub short : words ≤ 4 * i
  pub kept : entries + length (row_cleaned a code (drop i row)) ≡ length (row_cleaned a code row)
  pub told : words + length (flat (row_strikes a code (drop i row))) ≡ length (flat (row_strikes a code row))

module _ {a : List ℕ} {code : ℕ} {row : List ℕ} {i entries words : ℕ} (S : Read a code row i entries words) (h : i < length row) where
  abbrev more : List ℕ
  more = drop (i + 1) row

  next_read : drop i row ≡ at row i ∷ more
  next_read = rw add-one (drop-cons row i 0 h)

  pub read_stays : stays_in a code (at row i) ≡ true → Read a code row (i + 1) (entries + 1) words
  read_stays t =
      let c = ap (row_cleaned a code) next_read ∙ cleaned_stays a code (at row i) more t in
      let s = ap (row_strikes a code) next_read ∙ strikes_stays a code (at row i) more t in
      record { few = omega (arith, S.few); short = omega (arith, S.short); kept = omega (arith, rw c at S.kept); told = rw s at S.told }

  module _ (t : stays_in a code (at row i) ≡ false) where
    gone_here : row_cleaned a code (drop i row) ≡ row_cleaned a code more
    gone_here = ap (row_cleaned a code) next_read ∙ cleaned_goes a code (at row i) more t

    pub read_struck : ltb (neg code) (at row i) ≡ true → Read a code row (i + 1) entries (words + 4)
    read_struck b =
        let s = ap (row_strikes a code) next_read ∙ strikes_struck a code (at row i) more t b in
        record { few = omega (arith, S.few); short = omega (arith, S.short); kept = rw gone_here at S.kept; told = omega (arith, rw s at S.told, flat_length (neg code) (at row i) (row_strikes a code more)) }

    pub read_quiet : ltb (neg code) (at row i) ≡ false → Read a code row (i + 1) entries words
    read_quiet b =
        let s = ap (row_strikes a code) next_read ∙ strikes_quiet a code (at row i) more t b in
        record { few = omega (arith, S.few); short = omega (arith, S.short); kept = rw gone_here at S.kept; told = rw s at S.told }

pub read_end : {a : List ℕ} {code : ℕ} {row : List ℕ} {i entries words : ℕ} → Read a code row i entries words → length row ≤ i → (entries ≡ length (row_cleaned a code row)) × (words ≡ length (flat (row_strikes a code row)))
unfolding row_cleaned row_strikes flat
read_end {row = row} {i = i} S g =
    let none : drop i row ≡ [] = drop_of_length-le row g in
    (omega (arith, rw none at S.kept), omega (arith, rw none at S.told))
