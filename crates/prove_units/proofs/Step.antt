-- `prove_units` on what is lent: what the code may take for granted, what its writes come to, and what the room test says. Assumes nothing.
use mathlib.Core.Path.{◌≡◌, refl, sym, ap, ap₂, ◌∙◌}
use mathlib.Core.Bool.{Bool, true, false, cond}
use mathlib.Core.List.{List, [], ◌∷◌, ◌++◌, append_assoc, append-nil}
use Prim.Native.Nat.{ℕ, zero, suc, ◌+◌, ◌≤◌, ◌<◌}
use native.Mathlib.Omega.{arith}
use native.Mathlib.Numerals.{add-one}
use lib.ListN.{length, set, take, drop}
use lib.Seq.{take-suc, take_all}
use lib.Dec.{eqb}
use borrow.Author.Tests.{eq-eqb, ne_eqb}
use Rattle.laws.specs.Fold.{fold_list}
use Rattle.laws.specs.Lists.{at}
use Rattle.kinds.specs.Clauses.{lits_at, var_of}
use Rattle.kinds.specs.Lines.{line, line_words}
use Rattle.kinds.specs.Numbers.{reason_of}
use Rattle.kinds.specs.Held.{Held, Side, with_host, with_reasons, with_rec, noted, kind_of, reason_word}
use Rattle.calls.specs.Simplifying.{rest_of_reason, unit_noted, unit_removed, unit_done, trail_emptied, units_proved}
use Rattle.prove_units.specs.Units.{reason_line, trail_lines, trail_set, TrailReady}
use Rattle.prove_units.proofs.Reasons.{line_of_kind}
use Rattle.prove_units.proofs.Trail.{lines_next, set_next, set_before}

-- ---- one literal
unit_is : (h : Held) (l : ℕ) → unit_done h l
    ≡ with_host (with_reasons (set h.host.kinds (var_of l) 4) (set h.host.reasons (var_of l) 0) h.host.trail h.host)
    (with_rec (h.rec ++ cond (eqb (kind_of h.host l) 1) [] (line_words (line 1 (l ∷ cond (eqb (kind_of h.host l) 2) (reason_word h.host l ∷ []) (drop 1 (lits_at h.words (reason_word h.host l))))))) h)
unfolding unit_done unit_removed unit_noted rest_of_reason
unit_is h l = go (eqb (kind_of h.host l) 1) (l ∷ cond (eqb (kind_of h.host l) 2) (reason_word h.host l ∷ []) (drop 1 (lits_at h.words (reason_word h.host l))))
  where
    new : Side
    new = with_reasons (set h.host.kinds (var_of l) 4) (set h.host.reasons (var_of l) 0) h.host.trail h.host

    go : (b : Bool) (c : List ℕ) → unit_removed (cond b h (noted (line 1 c) h)) l ≡ with_host (with_reasons (set h.host.kinds (var_of l) 4) (set h.host.reasons (var_of l) 0) h.host.trail h.host) (with_rec (h.rec ++ cond b [] (line_words (line 1 c))) h)
    go true c = ap (λ (r : List ℕ). with_host (with_reasons (set h.host.kinds (var_of l) 4) (set h.host.reasons (var_of l) 0) h.host.trail h.host) (with_rec r h)) (sym (append-nil h.rec))
    go false c = refl

-- ---- the first i literals
abbrev units_at : Held → ℕ → Held
units_at h i =
    with_host (with_reasons (trail_set 4 h.host.kinds h.host.trail i) (trail_set 0 h.host.reasons h.host.trail i) h.host.trail h.host)
    (with_rec (h.rec ++ trail_lines h.words h.host.kinds h.host.reasons h.host.trail i) h)

module _ (h : Held) (R : TrailReady h.words h.host.kinds h.host.reasons h.host.levels h.host.trail (length h.host.trail)) where
  abbrev ks : List ℕ
  ks = h.host.kinds

  abbrev rs : List ℕ
  rs = h.host.reasons

  abbrev tr : List ℕ
  tr = h.host.trail

  unit_next : (i : ℕ) → i < length h.host.trail → unit_done (units_at h i) (at h.host.trail i) ≡ units_at h (i + 1)
  unit_next i g =
      let l = at tr i in
      let v = var_of l in
      let k : at (trail_set 4 ks tr i) v ≡ at ks v = set_before 4 ks tr i v (λ j q e. R.apart j i q g e) in
      let x : at (trail_set 0 rs tr i) v ≡ at rs v = set_before 0 rs tr i v (λ j q e. R.apart j i q g e) in
      let said : cond (eqb (at (trail_set 4 ks tr i) v) 1) [] (line_words (line 1 (l ∷ cond (eqb (at (trail_set 4 ks tr i) v) 2) (at (trail_set 0 rs tr i) v ∷ []) (drop 1 (lits_at h.words (at (trail_set 0 rs tr i) v))))))
      ≡ reason_line h.words (reason_of (at ks v) (at rs v)) l =
      ap₂ (λ (p q : ℕ). cond (eqb p 1) [] (line_words (line 1 (l ∷ cond (eqb p 2) (q ∷ []) (drop 1 (lits_at h.words q)))))) k x ∙ sym (line_of_kind h.words l (at ks v) (at rs v) (R.low i g) (R.high i g)) in
      unit_is (units_at h i) l
      ∙ ap (λ (r : List ℕ). with_host (with_reasons (set (trail_set 4 ks tr i) v 4) (set (trail_set 0 rs tr i) v 0) tr h.host) (with_rec r h))
      (append_assoc h.rec (trail_lines h.words ks rs tr i) _ ∙ ap (λ (y : List ℕ). h.rec ++ y) (ap (λ (y : List ℕ). trail_lines h.words ks rs tr i ++ y) said ∙ sym (lines_next h.words ks rs tr i)))
      ∙ ap₂ (λ (p q : List ℕ). with_host (with_reasons p q tr h.host) (with_rec (h.rec ++ trail_lines h.words ks rs tr (i + 1)) h)) (sym (set_next 4 ks tr i)) (sym (set_next 0 rs tr i))

  fold_append : (xs : List ℕ) (y : ℕ) (s : Held) → fold_list unit_done s (xs ++ (y ∷ [])) ≡ unit_done (fold_list unit_done s xs) y
  unfolding fold_list
  fold_append [] y s = refl
  fold_append (x ∷ xs) y s = fold_append xs y (unit_done s x)

  units_are : (i : ℕ) → i ≤ length h.host.trail → fold_list unit_done h (take i h.host.trail) ≡ units_at h i
  units_are zero g = start
    where
      start : fold_list unit_done h (take 0 h.host.trail) ≡ units_at h 0
      start = unfold fold_list in unfold trail_lines in unfold trail_set in (ap (λ (r : List ℕ). with_rec r h) (sym (append-nil h.rec)))
  units_are (suc i) g =
      ap (fold_list unit_done h) (take-suc tr i 0 g) ∙ fold_append (take i tr) (at tr i) h ∙ ap (λ (s : Held). unit_done s (at tr i)) (units_are i (omega arith)) ∙ unit_next i g ∙ ap (units_at h) (add-one i)

  pub proved_is : h.host.level ≡ 0
      → units_proved h ≡ with_host (with_reasons (trail_set 4 ks tr (length tr)) (trail_set 0 rs tr (length tr)) [] h.host) (with_rec (h.rec ++ trail_lines h.words ks rs tr (length tr)) h)
  unfolding units_proved trail_emptied
  proved_is e =
      ap (λ (b : Bool). cond b (trail_emptied (fold_list unit_done h tr)) h) (eq-eqb h.host.level 0 e)
      ∙ ap (λ (s : Held). trail_emptied s) (ap (fold_list unit_done h) (sym (take_all (length tr) tr (omega arith))) ∙ units_are (length tr) (omega arith))

pub proved_above : (h : Held) → (h.host.level ≡ 0 → ⊥) → units_proved h ≡ h
unfolding units_proved
proved_above h n = ap (λ (b : Bool). cond b (trail_emptied (fold_list unit_done h h.host.trail)) h) (ne_eqb h.host.level 0 n)
