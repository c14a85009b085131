-- Every step keeps the length of the word buffer and of the host's buffers, and no trail becomes longer. Assumes nothing.
use mathlib.Core.Path.{◌≡◌, refl, ap, ◌∙◌}
use mathlib.Core.Bool.{Bool, true, false, cond}
use mathlib.Core.List.{List, [], ◌∷◌}
use Prim.Native.Nat.{ℕ, ◌+◌, ◌-◌, ◌≤◌}
use native.Mathlib.Omega.{arith}
use lib.ListN.{length, length-set}
use lib.Seq.{length-sets}
use lib.Dec.{eqb, ltb}
use lib.Ieee.{lt, le, to_bits, binary32}
use Rattle.laws.specs.Fold.{fold_list}
use Rattle.laws.specs.Lists.{at}
use Rattle.kinds.specs.Header.{with_tier, with_deleted, with_glue, with_active}
use Rattle.kinds.specs.Clauses.{head_at, tier_at, glue_at, active_at, deleted_at, lits_at, undeleted, activity_at, var_of}
use Rattle.kinds.specs.Floats.{limit, scaled}
use Rattle.kinds.specs.Lines.{line}
use Rattle.kinds.specs.Held.{Held, Side, with_clauses, list_in, noted, kind_of}
use Rattle.kinds.specs.declared.Verdict.{Verdict}
use Rattle.kinds.specs.declared.Verdict.TheVariants.{Satisfied, Same, Shorter}
use Rattle.calls.specs.Call.{Command, add_clause, set_tier, delete, add_binary, implied, literals, assess, bump, decay, set_decay, reduce_locals, reduce_mids, collect, prove_units, unit_simplify, empty_record, view_fields, view_literal}
use Rattle.calls.specs.Adding.{new_words, added_long, moved_to, tier_set, removed, strike_noted, struck, added_pair, deleted, record_emptied}
use Rattle.calls.specs.Bumping.{tier_for, new_glue, sum_for, bump_grown, scaled_at, rescaled, activity_raised, activity_bumped, activated, glue_stored, glue_lowered, bumped, decayed, decay_set}
use Rattle.calls.specs.Reducing.{Round, spared, local_done, locals_round, locals_reduced, sorted_locals, to_strike, mid_kept, mid_done, mids_reduced, tier_emptied, cleaned_tier}
use Rattle.calls.specs.Collecting.{due, old_places, new_places, host_followed, closed_up, collected}
use Rattle.calls.specs.Simplifying.{unfalsified, rest_of_reason, verdict_of, kept, unit_noted, unit_removed, unit_done, trail_emptied, units_proved, binaries_cleaned, shorter_noted, shortened, shorter_done, verdict_done, clause_done, simplified}
use Rattle.calls.specs.Outcome.{step}
use Rattle.passing.proofs.Good.{Whole}
use Rattle.passing.proofs.Collect.{closed_long, follow_length}

pub record Keeps (h k : Held) : Type 0 where
  pub words : length k.words ≡ length h.words
  pub values : length k.host.values ≡ length h.host.values
  pub kinds : length k.host.kinds ≡ length h.host.kinds
  pub reasons : length k.host.reasons ≡ length h.host.reasons
  pub levels : length k.host.levels ≡ length h.host.levels
  pub trail : length k.host.trail ≤ length h.host.trail

pub keeps_self : (h : Held) → Keeps h h
keeps_self h = record { words = refl; values = refl; kinds = refl; reasons = refl; levels = refl; trail = omega arith }

-- the words alone change
with_words_lem : (h k : Held) → k.host ≡ h.host → length k.words ≡ length h.words → Keeps h k
with_words_lem h k e w = record {
  words = w;
  values = ap (λ (s : Side). length s.values) e;
  kinds = ap (λ (s : Side). length s.kinds) e;
  reasons = ap (λ (s : Side). length s.reasons) e;
  levels = ap (λ (s : Side). length s.levels) e;
  trail = let z : length k.host.trail ≡ length h.host.trail = ap (λ (s : Side). length s.trail) e in omega arith;
}

keeps_then : {g h k : Held} → Keeps g h → Keeps h k → Keeps g k
keeps_then a b = record {
  words = b.words ∙ a.words;
  values = b.values ∙ a.values;
  kinds = b.kinds ∙ a.kinds;
  reasons = b.reasons ∙ a.reasons;
  levels = b.levels ∙ a.levels;
  trail = let x = a.trail in let y = b.trail in omega arith;
}

chosen : (h : Held) (b : Bool) (x y : Held) → Keeps h x → Keeps h y → Keeps h (cond b x y)
chosen h true x y p q = p
chosen h false x y p q = q

folded : (f : Held → ℕ → Held) → ((h : Held) (o : ℕ) → Keeps h (f h o)) → (l : List ℕ) (h : Held) → Keeps h (fold_list f h l)
unfolding fold_list
folded f e [] h = keeps_self h
folded f e (o ∷ l) h = keeps_then (e h o) (folded f e l (f h o))

-- ---- adding, tiers, deleting

tier_keeps : (t o : ℕ) (h : Held) → Keeps h (tier_set t o h)
unfolding tier_set moved_to
tier_keeps t o h = chosen h (eqb (tier_at h.words o) t) h (moved_to t o h) (keeps_self h) (with_words_lem h (moved_to t o h) refl (length-set h.words (o + 1) (with_tier t (head_at h.words o))))

removed_keeps : (o : ℕ) (h : Held) → Keeps h (removed o h)
unfolding removed
removed_keeps o h = with_words_lem h (removed o h) refl (length-set h.words (o + 1) (with_deleted true (head_at h.words o)))

struck_keeps : (k o : ℕ) (h : Held) → Keeps h (struck k o h)
unfolding struck strike_noted
struck_keeps k o h = keeps_then (with_words_lem h (strike_noted k o h) refl refl) (removed_keeps o (strike_noted k o h))

-- ---- bump and decay

scaled_long : (l w : List ℕ) → length (fold_list scaled_at w l) ≡ length w
unfolding fold_list scaled_at
scaled_long [] w = refl
scaled_long (o ∷ l) w = scaled_long l (scaled_at w o) ∙ length-set w o (scaled (activity_at w o))

rescaled_keeps : (h : Held) → Keeps h (rescaled h)
unfolding rescaled
rescaled_keeps h = with_words_lem h (rescaled h) refl (scaled_long (undeleted h.words h.clauses) h.words)

bumped_keeps : (o : ℕ) (h : Held) → Keeps h (bumped o h)
unfolding bumped activity_bumped activated glue_lowered glue_stored
bumped_keeps o h =
    let up = with_words_lem h (activity_raised o h) refl (length-set h.words o (to_bits binary32 (sum_for o h))) in
    let a = chosen h (lt limit (sum_for o h)) (rescaled (activity_raised o h)) (activity_raised o h) (keeps_then up (rescaled_keeps (activity_raised o h))) up in
    let x = activity_bumped o h in
    let b = keeps_then a (with_words_lem x (activated o x) refl (length-set x.words (o + 1) (with_active true (head_at x.words o)))) in
    let y = activated o x in
    let z = glue_stored (new_glue o h) o y in
    keeps_then b (chosen y (ltb (new_glue o h) (glue_at y.words o)) (tier_set (tier_for (new_glue o h)) o z) y
    (keeps_then (with_words_lem y z refl (length-set y.words (o + 1) (with_glue (new_glue o h) (head_at y.words o)))) (tier_keeps (tier_for (new_glue o h)) o z)) (keeps_self y))

decayed_keeps : (h : Held) → Keeps h (decayed h)
unfolding decayed
decayed_keeps h =
    let up = with_words_lem h (bump_grown h) refl refl in
    chosen h (le limit (bump_grown h).activity.bump) (rescaled (bump_grown h)) (bump_grown h) (keeps_then up (rescaled_keeps (bump_grown h))) up

-- ---- reducing

mid_keeps : (h : Held) (o : ℕ) → Keeps h (mid_done h o)
unfolding mid_done mid_kept
mid_keeps h o = chosen h (active_at h.words o) (mid_kept o h) (tier_set 3 o h) (with_words_lem h (mid_kept o h) refl (length-set h.words (o + 1) (with_active false (head_at h.words o)))) (tier_keeps 3 o h)

mids_keeps : (h : Held) → Keeps h (mids_reduced h)
unfolding mids_reduced
mids_keeps h = keeps_then (with_words_lem h (tier_emptied 2 h) refl refl) (folded mid_done mid_keeps (cleaned_tier 2 h) (tier_emptied 2 h))

local_keeps : (r : Round) (o : ℕ) → Keeps r.held (local_done r o).held
unfolding local_done
local_keeps r o = go (spared r o)
  where
    go : (b : Bool) → Keeps r.held (cond {A = Round} b (record { left = r.left; held = list_in 3 o r.held }) (record { left = r.left - 1; held = deleted o r.held })).held
    go true = with_words_lem r.held (list_in 3 o r.held) refl refl
    go false = struck_keeps 4 o r.held

locals_folded : (l : List ℕ) (r : Round) → Keeps r.held (fold_list local_done r l).held
unfolding fold_list
locals_folded [] r = keeps_self r.held
locals_folded (o ∷ l) r = keeps_then (local_keeps r o) (locals_folded l (local_done r o))

locals_keeps : (h : Held) → Keeps h (locals_reduced h)
unfolding locals_round
locals_keeps h = keeps_then (with_words_lem h (tier_emptied 3 h) refl refl) (locals_folded (sorted_locals h) (record { left = to_strike h; held = tier_emptied 3 h }))

-- ---- collecting: all live words fit, since what is held passes

collected_keeps : (h : Held) → Whole h [] → Keeps h (collected h)
unfolding collected closed_up host_followed
collected_keeps h d = chosen h (due h) (closed_up h) h
    (record { words = closed_long h d; values = refl; kinds = refl; reasons = follow_length h.host (old_places h) (new_places h) h.host.trail h.host.reasons; levels = refl; trail = omega arith })
    (keeps_self h)

-- ---- units, simplifying

unit_keeps : (h : Held) (l : ℕ) → Keeps h (unit_done h l)
unfolding unit_done unit_removed unit_noted
unit_keeps h l =
    let x = unit_noted h l in
    keeps_then (chosen h (eqb (kind_of h.host l) 1) h (noted (line 1 (l ∷ rest_of_reason h l)) h) (keeps_self h) (with_words_lem h (noted (line 1 (l ∷ rest_of_reason h l)) h) refl refl))
    (record { words = refl; values = refl; kinds = length-set x.host.kinds (var_of l) 4; reasons = length-set x.host.reasons (var_of l) 0; levels = refl; trail = omega arith })

units_keeps : (h : Held) → Keeps h (units_proved h)
unfolding units_proved trail_emptied
units_keeps h =
    let x = fold_list unit_done h h.host.trail in
    chosen h (eqb h.host.level 0) (trail_emptied x) h
    (keeps_then (folded unit_done unit_keeps h.host.trail h) (record { words = refl; values = refl; kinds = refl; reasons = refl; levels = refl; trail = omega arith }))
    (keeps_self h)

shorter_keeps : (ls : List ℕ) (o : ℕ) (h : Held) → Keeps h (shorter_done ls o h)
unfolding shorter_done shortened shorter_noted strike_noted added_pair
shorter_keeps ls o h =
    let x = shorter_noted ls o h in
    keeps_then (with_words_lem h x refl refl)
    (chosen x (eqb (length ls) 2) (added_pair (at ls 0) (at ls 1) (removed o x)) (kept o (shortened ls o x))
    (keeps_then (removed_keeps o x) (with_words_lem (removed o x) (added_pair (at ls 0) (at ls 1) (removed o x)) refl refl))
    (with_words_lem x (kept o (shortened ls o x)) refl (length-sets x.words (o + 2) (length ls ∷ ls))))

verdict_keeps : (v : Verdict) (o : ℕ) (h : Held) → Keeps h (verdict_done v o h)
unfolding verdict_done
verdict_keeps Satisfied o h = struck_keeps 5 o h
verdict_keeps Same o h = with_words_lem h (kept o h) refl refl
verdict_keeps (Shorter n) o h = shorter_keeps (unfalsified h.host.values (lits_at h.words o)) o h

clause_keeps : (h : Held) (o : ℕ) → Keeps h (clause_done h o)
unfolding clause_done
clause_keeps h o = chosen h (deleted_at h.words o) h (verdict_done (verdict_of h.host.values (lits_at h.words o)) o h) (keeps_self h) (verdict_keeps (verdict_of h.host.values (lits_at h.words o)) o h)

simplified_keeps : (h : Held) → Keeps h (simplified h)
unfolding simplified binaries_cleaned
simplified_keeps h = keeps_then (with_words_lem h (with_clauses [] (binaries_cleaned h)) refl refl) (folded clause_done clause_keeps h.clauses (with_clauses [] (binaries_cleaned h)))

pub step_keeps : (c : Command) (h : Held) → Whole h [] → Keeps h (step c h)
unfolding step added_long added_pair decay_set record_emptied
step_keeps (add_clause t g ls) h d = with_words_lem h (added_long t g ls h) refl (length-sets h.words h.used (new_words t g ls))
step_keeps (set_tier o t) h d = tier_keeps t o h
step_keeps (delete o) h d = struck_keeps 4 o h
step_keeps (add_binary ls) h d = with_words_lem h (added_pair (at ls 0) (at ls 1) h) refl refl
step_keeps (implied l) h d = keeps_self h
step_keeps (literals o) h d = keeps_self h
step_keeps (assess ls) h d = keeps_self h
step_keeps (bump o) h d = bumped_keeps o h
step_keeps decay h d = decayed_keeps h
step_keeps (set_decay x) h d = with_words_lem h (decay_set x h) refl refl
step_keeps reduce_locals h d = locals_keeps h
step_keeps reduce_mids h d = mids_keeps h
step_keeps collect h d = collected_keeps h d
step_keeps prove_units h d = units_keeps h
step_keeps unit_simplify h d = simplified_keeps h
step_keeps empty_record h d = with_words_lem h (record_emptied h) refl refl
step_keeps (view_fields ws) h d = keeps_self h
step_keeps (view_literal ws i) h d = keeps_self h
