-- The ways through the two calls that give a part as numbers. Assumes nothing.
use mathlib.Core.Path.{◌≡◌, refl, sym, ap, ◌∙◌, subst}
use mathlib.Core.Bool.{Bool, true, false, not}
use mathlib.Core.List.{List, []}
use Prim.Native.Nat.{ℕ, ◌+◌, ◌*◌, ◌≤◌, ◌<◌}
use native.Mathlib.Omega.{arith}
use lib.ListN.{length, take, drop, length-drop}
use lib.Seq.{length-take-le}
use Rattle.laws.specs.Lists.{at, read_n, list_at}
use Rattle.laws.proofs.Reading.{read_take}
use Rattle.kinds.specs.Clauses.{lits_at, end_at, len_at, is_live}
use Rattle.kinds.specs.Lent.{Lent, Parts, lent_words, lent_rows, no_host, room_of}
use Rattle.kinds.specs.Layout.{rows_of}
use Rattle.kinds.specs.Numbers.{refusal_number}
use Rattle.kinds.specs.declared.Refusal.{Refusal}
use Rattle.kinds.specs.declared.State.{State}
use Rattle.kinds.proofs.RowLayout.{row_at}
use Rattle.calls.specs.Call.{Command, literals, implied, parts, words_and_list, only_rows}
use Rattle.calls.specs.Outcome.{Outcome, judged, part_of, done}
use Rattle.replies.proofs.Ways.{refusal_given, judge_number_told, judge_part}
use Rattle.binary.proofs.Pairs.{row_fits}
use Rattle.binary_calls.proofs.Rows.{RowsReady}
use Rattle.binary_calls.proofs.Reading as rows-law
use Rattle.reading_calls.proofs.Literals as words-law
use Rattle.store_kinds.specs.Heard.{PartHeard, part_heard}
use Rattle.store_kinds.proofs.Told.{parting, part_refused, part_given_lem}

-- as long as it is said to be, where it ends within the buffer
taken : (buf : List ℕ) (start len : ℕ) → start + len ≤ length buf → length (take len (drop start buf)) ≡ len
taken buf start len h = length-take-le len (drop start buf) (let e = length-drop start buf in omega arith)

-- the judging refused; m is the number that is told
pub part_judged : (c : Command) (k : Lent) (r : Refusal) → refusal_number r ≡ judged (parts c) k → (buf : List ℕ) (place : ℕ) {m : ℕ} → m ≡ refusal_number r → parting m 0 0 [] ≡ part_heard place (done c k)
part_judged c k r e buf place {m} q = ap (λ (x : ℕ). parting x 0 0 []) q ∙ part_refused buf place (done c k) (refusal_given r) (judge_number_told c k r e) (judge_part c k r e)

-- ---- implied literals
module _ (s : State) (rows counts : List ℕ) (l : ℕ) (n : ℕ) (e : n ≡ judged only_rows (lent_rows s rows counts)) (z : n ≡ 0) where
  abbrev row_start : ℕ
  row_start = l * room_of s.vars rows

  pub implied_wrong : 2 * s.vars ≤ l → parting 4 0 0 [] ≡ part_heard row_start (done (implied l) (lent_rows s rows counts))
  implied_wrong h = part_refused rows row_start (done (implied l) (lent_rows s rows counts)) (λ q. omega arith) (rows-law.number_wrong s rows counts l n e z h) (rows-law.part_wrong s rows counts l n e z h)

  pub row_ends : l < 2 * s.vars → row_start + at counts l ≤ length rows
  row_ends h =
      let r = rows-law.ready s rows counts l n e z in
      let long = r.long in
      let below : l < length counts = omega arith in
      row_fits l (length counts) (room_of s.vars rows) (at counts l) (length rows) below (r.within l below) r.whole

  pub implied_read : l < 2 * s.vars → (m : ℕ) → m ≡ at counts l → parting 0 row_start m (take m (drop row_start rows)) ≡ part_heard row_start (done (implied l) (lent_rows s rows counts))
  implied_read h m q =
      let r = rows-law.ready s rows counts l n e z in
      let long = r.long in
      let below : l < length counts = omega arith in
      let fits : row_start + m ≤ length rows = subst (λ (x : ℕ). row_start + x ≤ length rows) (sym q) (row_ends h) in
      part_given_lem rows row_start m (done (implied l) (lent_rows s rows counts)) (taken rows row_start m fits) (rows-law.number_read s rows counts l n e z h)
      (rows-law.part_read s rows counts l n e z h (take m (drop row_start rows)) (ap (λ (x : ℕ). take x (drop row_start rows)) q ∙ sym (row_at (room_of s.vars rows) counts rows l below)))

-- ---- a clause's literals; r: what the test gave
module _ (s : State) (words clauses : List ℕ) (o : ℕ) (n : ℕ) (e : n ≡ judged words_and_list (lent_words s words clauses [] no_host)) (z : n ≡ 0) (r : Bool) (q : r ≡ is_live words (take s.clauses clauses) o) where
  pub lits_gone : not r ≡ true → parting 6 0 0 [] ≡ part_heard (o + 3) (done (literals o) (lent_words s words clauses [] no_host))
  lits_gone h = part_refused words (o + 3) (done (literals o) (lent_words s words clauses [] no_host)) (λ w. omega arith) (words-law.number_gone s words clauses o n e z r q h) (words-law.part_gone s words clauses o n e z r q h)

  pub lits_read : not r ≡ false → (m : ℕ) → m ≡ len_at words o → parting 0 (o + 3) m (take m (drop (o + 3) words)) ≡ part_heard (o + 3) (done (literals o) (lent_words s words clauses [] no_host))
  lits_read h m f =
      let ends = words-law.ends s words clauses o n e z r q h in
      let fits : o + 3 + m ≤ length words = omega (arith, f) in
      part_given_lem words (o + 3) m (done (literals o) (lent_words s words clauses [] no_host)) (taken words (o + 3) m fits) (words-law.number_read s words clauses o n e z r q h)
      (words-law.part_read s words clauses o n e z r q h (take m (drop (o + 3) words)) (sym (read_take words (o + 3) m fits) ∙ ap (read_n words (o + 3)) f))
