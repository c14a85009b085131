-- A live clause lies within the words; and each way through the tests of a reason. Assumes nothing.
use mathlib.Core.Path.{◌≡◌, refl, sym, ap, ◌∙◌, subst}
use mathlib.Core.Bool.{Bool, true, not, ◌&&◌, ◌||◌}
use mathlib.Core.List.{List, [], ◌∷◌}
use Prim.Native.Nat.{ℕ, ◌+◌, ◌-◌, ◌≤◌}
use native.Mathlib.Omega.{arith}
use lib.ListN.{length, take, drop}
use lib.Seq.{take-length, length-take-le, get_or-take}
use Rattle.std.proofs.lemmas.List.{get_or-drop, length-drop}
use lib.Dec.{eqb}
use borrow.Author.Tests.{eqb-true}
use Rattle.laws.specs.Fold.{all_below}
use Rattle.laws.specs.Lists.{at}
use Rattle.laws.proofs.Folds.{and_left, and_right, all_at, all_same, any_find}
use Rattle.kinds.specs.Clauses.{len_at, first_at, end_at, is_live, var_of}
use Rattle.kinds.specs.Held.{Held, is_false, kind_of, reason_word}
use Rattle.calls.specs.StorePasses.{live_at, ref_at, clause_ok_at, clauses_ok}
use Rattle.calls.specs.HostPasses.{other_false, reason_clause_ok, long_reason_ok, long_reasons_ok}
use Rattle.calls.proofs.Readings.{ends_read, clause_read, unless}
use Rattle.judge_words.proofs.Bisect.{ref_is_live}
use Rattle.judge_host.specs.Sides.{side_of}
use Rattle.judge_reasons.specs.Reasons.{false_at, besides, under, Listed, Readable}
use Rattle.judge_words.proofs.Whole.{placed_used, clauses_used}

-- the used part of a clause list that was judged
pub readable : {w : List ℕ} {v used : ℕ} {l : List ℕ} {n : ℕ} → Listed w v used l n → Readable w used (take n l)
unfolding clauses_ok clause_ok_at
readable {w} {v} {used} {l} {n} z = record {
  room = z.room;
  lies = placed_used w l n z.listed used ∙ z.lies;
  three = λ i h e. (clause_read w v (at (take n l) i) (unless (live_at w (take n l) i) _ (all_at (clause_ok_at w v (take n l)) (length (take n l)) (clauses_used w l n z.listed v ∙ z.good) i h) e)).three;
}

-- a clause that the search found live
pub record Within (w : List ℕ) (o : ℕ) : Type 0 where
  pub ends : end_at w o ≤ length w
  pub three : 3 ≤ len_at w o

pub live_within : (w : List ℕ) (used : ℕ) (l : List ℕ) → Readable w used l → (o : ℕ) {r : Bool} → r ≡ is_live w (take (length l) l) o → r ≡ true → Within w o
unfolding ref_at
live_within w used l z o p t =
    let found = any_find (ref_at w l o) (length l) (ref_is_live w l (length l) o (omega arith) ∙ sym p ∙ t) in
    let i = found.0 in
    let there : at l i ≡ o = eqb-true (at l i) o (and_right (live_at w l i) _ found.2) in
    record {
      ends = omega (arith, z.room, subst (λ (x : ℕ). end_at w x ≤ used) there (ends_read w used l (length l) z.lies i found.1));
      three = subst (λ (x : ℕ). 3 ≤ len_at w x) there (z.three i found.1 (and_left _ _ found.2));
    }

-- ---- the other literals

others_alone : (h : Held) (o n : ℕ) → all_below (other_false h o) n ≡ all_below (other_false (under h.words [] h.host.values) o) n
unfolding other_false
others_alone h o n = all_same (other_false h o) (other_false (under h.words [] h.host.values) o) n (λ i l. refl)

-- the literals behind the first of the clause at o, as a part of the words
pub others_are : (w cs values : List ℕ) (o e n : ℕ) → o + 4 + n ≡ e → e ≤ length w → all_below (false_at values (take (e - (o + 4)) (drop (o + 4) w))) (length (take (e - (o + 4)) (drop (o + 4) w))) ≡ all_below (other_false (under w cs values) o) n
unfolding false_at other_false
others_are w cs values o e n q h =
    let m : e - (o + 4) ≡ n = omega arith in
    let k : length (take (e - (o + 4)) (drop (o + 4) w)) ≡ n = length-take-le (e - (o + 4)) (drop (o + 4) w) (omega (arith, length-drop (o + 4) w)) ∙ m in
    ap (all_below (false_at values (take (e - (o + 4)) (drop (o + 4) w)))) k
    ∙ all_same (false_at values (take (e - (o + 4)) (drop (o + 4) w))) (other_false (under w cs values) o) n
    (λ i b. ap (is_false values) (get_or-take (e - (o + 4)) (drop (o + 4) w) i 0 (omega arith) ∙ get_or-drop (o + 4) w i 0))

pub live_used : (w l : List ℕ) (o : ℕ) → is_live w (take (length l) l) o ≡ is_live w l o
live_used w l o = ap (λ (m : List ℕ). is_live w m o) (take-length l)

pub clause_alone : (h : Held) (l o : ℕ) → reason_clause_ok h l o ≡ reason_clause_ok (under h.words h.clauses h.host.values) l o
unfolding reason_clause_ok
clause_alone h l o =
    ap (λ (b : Bool). is_live h.words h.clauses o && (eqb (first_at h.words o) l && b))
    (others_alone h o (len_at h.words o - 1) ∙ sym (others_alone (under h.words h.clauses h.host.values) o (len_at h.words o - 1)))

-- a literal of the trail by itself
pub literal_alone : (w cs values kinds reasons levels trail : List ℕ) (j : ℕ)
    → long_reason_ok (besides w cs (side_of values kinds reasons levels trail 0)) j ≡ long_reason_ok (besides w cs (side_of values kinds reasons levels (at trail j ∷ []) 0)) 0
unfolding long_reason_ok
literal_alone w cs values kinds reasons levels trail j =
    let l = at trail j in
    ap (λ (b : Bool). not (eqb (at kinds (var_of l)) 3) || b)
    (clause_alone (besides w cs (side_of values kinds reasons levels trail 0)) l (at reasons (var_of l))
    ∙ sym (clause_alone (besides w cs (side_of values kinds reasons levels (l ∷ []) 0)) l (at reasons (var_of l))))

-- the words, the clauses and the host's side are all that is judged here
pub reasons_alone : (h : Held) → long_reasons_ok h ≡ long_reasons_ok (besides h.words h.clauses (side_of h.host.values h.host.kinds h.host.reasons h.host.levels h.host.trail 0))
unfolding long_reasons_ok long_reason_ok
reasons_alone h =
    let g = besides h.words h.clauses (side_of h.host.values h.host.kinds h.host.reasons h.host.levels h.host.trail 0) in
    all_same (long_reason_ok h) (long_reason_ok g) (length h.host.trail)
    (λ j q. let l = at h.host.trail j in
    ap (λ (b : Bool). not (eqb (kind_of h.host l) 3) || b) (clause_alone h l (reason_word h.host l) ∙ sym (clause_alone g l (reason_word h.host l))))
