-- A clause's literals: the ways through the two calls. Assumes nothing.
use mathlib.Core.Path.{◌≡◌, refl, sym, ap, ◌∙◌}
use mathlib.Core.Bool.{Bool, true, false, cond, not, ◌&&◌}
use mathlib.Core.List.{List, []}
use Prim.Native.Nat.{ℕ, ◌≤◌}
use native.Mathlib.Omega.{arith}
use lib.ListN.{length, take}
use lib.Seq.{length-take-le}
use lib.Dec.{leb}
use borrow.Author.Tests.{le-leb}
use Rattle.laws.proofs.Folds.{and_both, and_left}
use Rattle.laws.proofs.Tests.{passed, failed}
use Rattle.kinds.specs.Clauses.{lits_at, end_at, is_live}
use Rattle.kinds.specs.Lent.{Lent, lent_words, no_host}
use Rattle.kinds.specs.Layout.{view, lay, fit}
use Rattle.kinds.specs.declared.State.{State}
use Rattle.calls.specs.Call.{literals, parts, words_and_list}
use Rattle.calls.specs.StorePasses.{placed, words_pass}
use Rattle.calls.specs.Refusing.{lowest, own, not_live}
use Rattle.calls.specs.Outcome.{Outcome, judged, refused_for, has_room, own_number, or_else, step, answer, part, part_of, refused, accepted, done}
use Rattle.calls.proofs.Judged.{sizes_judged, store_judged, words_sized_lem, clauses_sized}
use Rattle.calls.proofs.Readings.{words_pass_lem}
use Rattle.calls.proofs.Live.{live_there}
use Rattle.judge_words.proofs.Whole.{words_whole}
use Rattle.replies.proofs.Ways.{own_way, step_way, part_none, part_told}

module _ (s : State) (words clauses : List ℕ) (o : ℕ) where
  abbrev k : Lent
  k = lent_words s words clauses [] no_host

  pub lends : parts (literals o) ≡ words_and_list
  unfolding parts
  lends = refl

  -- what the code stands on
  pub record ListReady : Type 0 where
    pub used : s.words ≤ length words
    pub listed : s.clauses ≤ length clauses
    pub places : placed words s.words clauses s.clauses ≡ true
    pub passes : words_pass (view k) ≡ true

  list_ready : judged words_and_list k ≡ 0 → ListReady
  list_ready j =
      let z = sizes_judged words_and_list k j in
      let l = (clauses_sized words_and_list k z refl).used in
      let p = words_pass_lem words_and_list (view k) (store_judged words_and_list k j) refl in
      record {
        used = (words_sized_lem words_and_list k z refl).used;
        listed = l;
        places = and_left (placed words s.words clauses s.clauses) _ (sym (words_whole k l) ∙ p);
        passes = p;
      }

  -- 6
  refusal : (b : Bool) → is_live words (take s.clauses clauses) o ≡ b → refused_for (literals o) (view k) ≡ cond b 0 6
  unfolding refused_for own lowest not_live view
  refusal true e = ap (λ (x : Bool). cond (not x) 6 0) e
  refusal false e = ap (λ (x : Bool). cond (not x) 6 0) e

  own_six : is_live words (take s.clauses clauses) o ≡ false → 6 ≡ own_number (literals o) k
  unfolding own_number
  own_six e = sym (ap (λ (x : ℕ). or_else x (cond (has_room (literals o) k) 0 11)) (refusal false e))

  has_room_lem : ListReady → has_room (literals o) k ≡ true
  unfolding has_room fit parts step view
  has_room_lem r =
      let l = r.listed in
      let n = length-take-le s.clauses clauses l in
      and_both (leb s.words (length words) && leb (length (take s.clauses clauses)) (length clauses)) true
      (and_both (leb s.words (length words)) (leb (length (take s.clauses clauses)) (length clauses)) (le-leb s.words (length words) r.used)
      (le-leb (length (take s.clauses clauses)) (length clauses) (omega arith)))
      refl

  own_none : ListReady → is_live words (take s.clauses clauses) o ≡ true → own_number (literals o) k ≡ 0
  unfolding own_number
  own_none r e =
      ap (λ (x : ℕ). or_else x (cond (has_room (literals o) k) 0 11)) (refusal true e)
      ∙ ap (λ (x : Bool). cond x 0 11) (has_room_lem r)

  clause_ends : ListReady → is_live words (take s.clauses clauses) o ≡ true → end_at words o ≤ length words
  unfolding view
  clause_ends r e =
      let t = (live_there (view k) o r.passes e).ends in
      let u = r.used in
      omega (arith, t)

  -- n: what the judging gave, 0; r: what the test gave
  module _ (n : ℕ) (e : n ≡ judged words_and_list k) (z : n ≡ 0) where
    pub ready : ListReady
    ready = list_ready (sym e ∙ z)

    module _ (r : Bool) (q : r ≡ is_live words (take s.clauses clauses) o) where
      gone : not r ≡ true → done (literals o) k ≡ refused 6 k
      gone h = own_way (literals o) words_and_list lends k (sym e ∙ z) 6 (own_six (failed q h)) (λ w. omega arith)

      read : not r ≡ false → done (literals o) k ≡ accepted (answer (literals o) (view k)) (lay words_and_list k (step (literals o) (view k)))
      read h = step_way (literals o) words_and_list lends k (sym e ∙ z) (own_none ready (passed q h))

      pub ends : not r ≡ false → end_at words o ≤ length words
      ends h = clause_ends ready (passed q h)

      pub part_gone : not r ≡ true → [] ≡ part_of (done (literals o) k).answer
      part_gone h = part_none k 6 (gone h)

      answered : answer (literals o) (view k) ≡ part (lits_at words o)
      unfolding answer view
      answered = refl

      pub part_read : not r ≡ false → (x : List ℕ) → x ≡ lits_at words o → x ≡ part_of (done (literals o) k).answer
      part_read h x w = w ∙ ap part_of (sym answered) ∙ part_told (lay words_and_list k (step (literals o) (view k))) (answer (literals o) (view k)) (read h)

      pub number_gone : not r ≡ true → 6 ≡ (done (literals o) k).number
      number_gone h = sym (ap (λ (u : Outcome). u.number) (gone h))

      pub number_read : not r ≡ false → 0 ≡ (done (literals o) k).number
      number_read h = sym (ap (λ (u : Outcome). u.number) (read h))
