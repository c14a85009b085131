-- Assessing a learned clause: the ways through the call. Assumes nothing.
use mathlib.Core.Path.{◌≡◌, refl, sym, ap, ap₂, ◌∙◌, subst}
use mathlib.Core.Bool.{Bool, true, false, cond, not, ◌&&◌}
use mathlib.Core.List.{List}
use Prim.Native.Nat.{ℕ, ◌*◌, ◌≤◌, ◌<◌}
use native.Mathlib.Omega.{arith}
use lib.ListN.{length}
use lib.Dec.{leb}
use borrow.Author.Tests.{le-leb, lt-leb}
use Rattle.laws.specs.Lists.{at}
use Rattle.laws.proofs.Folds.{and_both, and_fails_left, and_fails_right}
use Rattle.laws.proofs.Tests.{passed, failed}
use Rattle.kinds.specs.Header.{saturated}
use Rattle.kinds.specs.Clauses.{var_of}
use Rattle.kinds.specs.Numbers.{tier_number}
use Rattle.kinds.specs.declared.Tier.{Tier}
use Rattle.kinds.specs.Lent.{Lent, lent_levels}
use Rattle.kinds.specs.Layout.{view, side, fit}
use Rattle.calls.specs.Call.{assess, parts, only_levels}
use Rattle.calls.specs.StorePasses.{lits_ok}
use Rattle.calls.specs.Bumping.{tier_for, learned_glue}
use Rattle.calls.specs.Refusing.{lowest, own, clause_wrong}
use Rattle.calls.specs.Outcome.{Outcome, Answer, assessed, judged, refused_for, has_room, own_number, or_else, step, answer, refused, accepted, done}
use Rattle.calls.proofs.Judged.{sizes_judged, host_judged, vars_high, levels_long}
use Rattle.calls.proofs.Readings.{lits_read, levels_pass}
use Rattle.assess.specs.Levelled.{Levelled}
use Rattle.replies.proofs.Ways.{own_way, still_way}

module _ (v : ℕ) (levels ls : List ℕ) where
  abbrev k : Lent
  k = lent_levels v levels

  pub lends : parts (assess ls) ≡ only_levels
  unfolding parts
  lends = refl

  -- ---- 4

  few_wrong : length ls < 1 → clause_wrong v 1 v ls ≡ true
  unfolding clause_wrong
  few_wrong h = ap not (and_fails_left (leb 1 (length ls)) (leb (length ls) v && lits_ok ls v 0 (length ls)) (lt-leb 1 (length ls) h))

  many_wrong : v < length ls → clause_wrong v 1 v ls ≡ true
  unfolding clause_wrong
  many_wrong h = ap not (and_fails_right (leb 1 (length ls)) (leb (length ls) v && lits_ok ls v 0 (length ls)) (and_fails_left (leb (length ls) v) (lits_ok ls v 0 (length ls)) (lt-leb (length ls) v h)))

  lits_wrong : lits_ok ls v 0 (length ls) ≡ false → clause_wrong v 1 v ls ≡ true
  unfolding clause_wrong
  lits_wrong e = ap not (and_fails_right (leb 1 (length ls)) (leb (length ls) v && lits_ok ls v 0 (length ls)) (and_fails_right (leb (length ls) v) (lits_ok ls v 0 (length ls)) e))

  clause_fine : 1 ≤ length ls → length ls ≤ v → lits_ok ls v 0 (length ls) ≡ true → clause_wrong v 1 v ls ≡ false
  unfolding clause_wrong
  clause_fine a b e = ap not (and_both (leb 1 (length ls)) (leb (length ls) v && lits_ok ls v 0 (length ls)) (le-leb 1 (length ls) a) (and_both (leb (length ls) v) (lits_ok ls v 0 (length ls)) (le-leb (length ls) v b) e))

  refusal : (b : Bool) → clause_wrong v 1 v ls ≡ b → refused_for (assess ls) (view k) ≡ cond b 4 0
  unfolding refused_for own lowest view
  refusal b e = ap (λ (x : Bool). cond x 4 0) e

  own_four : clause_wrong v 1 v ls ≡ true → 4 ≡ own_number (assess ls) k
  unfolding own_number
  own_four e = sym (ap (λ (x : ℕ). or_else x (cond (has_room (assess ls) k) 0 11)) (refusal true e))

  has_room_lem : has_room (assess ls) k ≡ true
  unfolding has_room fit parts
  has_room_lem = refl

  own_none : clause_wrong v 1 v ls ≡ false → own_number (assess ls) k ≡ 0
  unfolding own_number
  own_none e = ap (λ (x : ℕ). or_else x (cond (has_room (assess ls) k) 0 11)) (refusal false e) ∙ ap (λ (x : Bool). cond x 0 11) has_room_lem

  -- ---- what the code stands on

  level_low : judged only_levels k ≡ 0 → (x : ℕ) → x < v → at levels x ≤ v
  unfolding view side
  level_low j = levels_pass only_levels (view k) (host_judged only_levels k j) refl

  levelled : judged only_levels k ≡ 0 → lits_ok ls v 0 (length ls) ≡ true → Levelled levels ls
  levelled j e =
      let z = sizes_judged only_levels k j in
      let high = vars_high only_levels k z refl in
      let long = levels_long only_levels k z refl in
      let l = lits_read ls v 0 (length ls) e in
      let below : (j : ℕ) → j < length ls → var_of (at ls j) < v = λ j h.
      let b : at ls j < 2 * v = subst (λ (x : ℕ). at ls x < 2 * v) (omega arith) (l.below j h) in omega arith in
      record {
        inside = λ j h. let b = below j h in omega arith;
        low = λ i h. let b = level_low j (var_of (at ls i)) (below i h) in omega arith;
      }

  -- n: what the judging gave, 0
  module _ (n : ℕ) (e : n ≡ judged only_levels k) (z : n ≡ 0) where
    pub high : v ≤ 65536
    high = vars_high only_levels k (sizes_judged only_levels k (sym e ∙ z)) refl

    wrong : clause_wrong v 1 v ls ≡ true → refused 4 k ≡ done (assess ls) k
    wrong h = sym (own_way (assess ls) only_levels lends k (sym e ∙ z) 4 (own_four h) (λ q. omega arith))

    pub too_few : length ls < 1 → refused 4 k ≡ done (assess ls) k
    too_few h = wrong (few_wrong h)

    pub too_many : v < length ls → refused 4 k ≡ done (assess ls) k
    too_many h = wrong (many_wrong h)

    module _ (r : Bool) (q : r ≡ lits_ok ls v 0 (length ls)) where
      pub not_lits : not r ≡ true → refused 4 k ≡ done (assess ls) k
      not_lits h = wrong (lits_wrong (failed q h))

      pub clause_levelled : not r ≡ false → Levelled levels ls
      clause_levelled h = levelled (sym e ∙ z) (passed q h)

      unchanged_step : step (assess ls) (view k) ≡ view k
      unfolding step
      unchanged_step = refl

      answered : answer (assess ls) (view k) ≡ assessed (tier_for (learned_glue levels ls)) (saturated (learned_glue levels ls))
      unfolding answer view side
      answered = refl

      pub is_assessed : not r ≡ false → 1 ≤ length ls → length ls ≤ v → (t : Tier) (g : ℕ) → tier_number t ≡ tier_for (learned_glue levels ls) → g ≡ saturated (learned_glue levels ls)
          → accepted (assessed (tier_number t) g) k ≡ done (assess ls) k
      is_assessed h a b t g i w =
          ap₂ (λ (x y : ℕ). accepted (assessed x y) k) i w
          ∙ ap (λ (y : Answer). accepted y k) (sym answered)
          ∙ sym (still_way (assess ls) only_levels lends k unchanged_step refl refl (sym e ∙ z) (own_none (clause_fine a b (passed q h))))
