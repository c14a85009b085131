-- `prove_units` on what is lent: what the code may take for granted, what its writes come to, and what the room test says. Assumes nothing.
use mathlib.Core.Path.{◌≡◌, refl, sym, ap, ap₂, ◌∙◌, subst}
use mathlib.Core.Bool.{Bool, true, false, cond, ◌&&◌}
use mathlib.Core.List.{List, [], ◌++◌}
use Prim.Native.Nat.{ℕ, zero, suc, ◌+◌, ◌-◌, ◌*◌, ◌^◌, ◌≤◌, ◌<◌}
use native.Mathlib.Omega.{arith}
use lib.ListN.{length, set, take, replicate, length-append}
use lib.Seq.{sets, length-take-le, get_or-take}
use lib.Dec.{leb}
use borrow.Author.Tests.{not-true, le-leb}
use Rattle.laws.specs.Lists.{at, fill}
use Rattle.laws.proofs.Folds.{and_both, and_left, and_right}
use Rattle.laws.proofs.Fills.{fill_append, fill_same, fill_cut}
use Rattle.laws.proofs.Entries.{elem_place}
use Rattle.kinds.specs.Clauses.{len_at, end_at, deleted_at, is_live, var_of}
use Rattle.kinds.specs.Numbers.{reason_of}
use Rattle.kinds.specs.Lent.{Lent, lent_words, host_of}
use Rattle.kinds.specs.Setters.{state_of}
use Rattle.kinds.specs.Held.{Held}
use Rattle.kinds.specs.Layout.{view, side, lay, lay_state, lay_host, fit}
use Rattle.kinds.specs.declared.State.{State}
use Rattle.calls.specs.Call.{prove_units, parts, words_record_host}
use Rattle.calls.specs.Refusing.{own, lowest}
use Rattle.calls.specs.Simplifying.{units_proved}
use Rattle.calls.specs.Outcome.{judged, refused_for, has_room, step, own_number}
use Rattle.calls.proofs.Laws.{has_room_lem}
use Rattle.calls.proofs.Readings.{words_pass_lem, held_words, side_pass, reasons_pass, reason_read}
use Rattle.calls.proofs.Judged.{sizes_judged, store_judged, host_judged, words_sized_lem, clauses_sized, record_sized_lem, levels_long, host_sized_lem, record_fits}
use Rattle.prove_units.specs.Units.{reason_line, trail_lines, trail_set, TrailReady}
use Rattle.prove_units.proofs.Step.{proved_is, proved_above}

lines_same : (ws ks rs t u : List ℕ) (n : ℕ) → ((j : ℕ) → j < n → at t j ≡ at u j) → trail_lines ws ks rs t n ≡ trail_lines ws ks rs u n
unfolding trail_lines
lines_same ws ks rs t u zero f = refl
lines_same ws ks rs t u (suc n) f = ap₂ (λ (x : List ℕ) (l : ℕ). x ++ reason_line ws (reason_of (at ks (var_of l)) (at rs (var_of l))) l) (lines_same ws ks rs t u n (λ j h. f j (omega arith))) (f n (omega arith))

set_same : (x : ℕ) (l t u : List ℕ) (n : ℕ) → ((j : ℕ) → j < n → at t j ≡ at u j) → trail_set x l t n ≡ trail_set x l u n
unfolding trail_set
set_same x l t u zero f = refl
set_same x l t u (suc n) f = ap₂ (λ (y : List ℕ) (k : ℕ). set y (var_of k) x) (set_same x l t u n (λ j h. f j (omega arith))) (f n (omega arith))

module _ (s : State) (words clauses rec values kinds reasons levels trail : List ℕ) (assigned level : ℕ) where
  abbrev k : Lent
  k = lent_words s words clauses rec (host_of values kinds reasons levels trail assigned level)

  abbrev T : List ℕ
  T = take assigned trail

  module _ (j : judged words_record_host (lent_words s words clauses rec (host_of values kinds reasons levels trail assigned level)) ≡ 0) where
    many : length (take assigned trail) ≡ assigned
    many = length-take-le assigned trail (host_sized_lem words_record_host k (sizes_judged words_record_host k j) refl).assigned

    entry : (i : ℕ) → i < assigned → at (take assigned trail) i ≡ at trail i
    entry i h = get_or-take assigned trail i 0 h

    live_in : (o : ℕ) → is_live words (take s.clauses clauses) o ≡ true → (end_at words o ≤ length words) × (1 ≤ len_at words o)
    unfolding view is_live
    live_in o e =
        let w = held_words (view k) (words_pass_lem words_record_host (view k) (store_judged words_record_host k j) refl) in
        let p = elem_place o (take s.clauses clauses) (and_left _ _ e) in
        let z = words_sized_lem words_record_host k (sizes_judged words_record_host k j) refl in
        let d : deleted_at words o ≡ false = not-true (deleted_at words o) (and_right (Rattle.laws.specs.Lists.elem o (take s.clauses clauses)) _ e) in
        let q : end_at words o ≤ s.words = subst (λ (x : ℕ). end_at words x ≤ s.words) p.2 (w.ends p.0 p.1) in
        let c : 3 ≤ len_at words o = subst (λ (x : ℕ). deleted_at words x ≡ false → 3 ≤ len_at words x) p.2 (λ f. (w.clause p.0 p.1 f).three) d in
        (omega (arith, q, z.used), omega (arith, c))

    trail_ready : TrailReady words kinds reasons levels (take assigned trail) (length (take assigned trail))
    unfolding view side
    trail_ready =
        let z = sizes_judged words_record_host k j in
        let g = host_judged words_record_host k j in
        let hs = host_sized_lem words_record_host k z refl in
        let lv = levels_long words_record_host k z refl in
        let S = side_pass words_record_host (view k) g refl in
        let below : (i : ℕ) → i < length (take assigned trail) → at (take assigned trail) i < 2 * s.vars = λ i h. subst (λ (x : ℕ). at (take assigned trail) x < 2 * s.vars) (zero_first i) (S.trail.below i h) in
        record {
          short = omega arith;
          in_kinds = λ i h. omega (arith, below i h, hs.kinds);
          in_reasons = λ i h. omega (arith, below i h, hs.reasons);
          in_levels = λ i h. omega (arith, below i h, lv);
          apart = λ a b h l e. S.trail.apart b a l h (ap (λ (x : ℕ). var_of (at (take assigned trail) x)) (zero_first a) ∙ e ∙ sym (ap (λ (x : ℕ). var_of (at (take assigned trail) x)) (zero_first b)));
          low = λ i h. (S.lits i h).low;
          high = λ i h. (S.lits i h).high;
          long = λ i h e. live_in _ (reason_read (view k) (reasons_pass words_record_host (view k) g refl) i h e).live;
          most = (words_sized_lem words_record_host k z refl).most;
        }
      where
        zero_first : (i : ℕ) → 0 + i ≡ i
        zero_first i = omega arith

    pub ready : TrailReady words kinds reasons levels trail assigned
    ready =
        let R = trail_ready in
        record {
          short = (host_sized_lem words_record_host k (sizes_judged words_record_host k j) refl).assigned;
          in_kinds = λ i h. subst (λ (x : ℕ). var_of x < length kinds) (entry i h) (R.in_kinds i (omega (arith, many)));
          in_reasons = λ i h. subst (λ (x : ℕ). var_of x < length reasons) (entry i h) (R.in_reasons i (omega (arith, many)));
          in_levels = λ i h. subst (λ (x : ℕ). var_of x < length levels) (entry i h) (R.in_levels i (omega (arith, many)));
          apart = λ a b h l e. R.apart a b h (omega (arith, many)) (ap var_of (entry a (omega arith)) ∙ e ∙ sym (ap var_of (entry b l)));
          low = λ i h. subst (λ (x : ℕ). 1 ≤ at kinds (var_of x)) (entry i h) (R.low i (omega (arith, many)));
          high = λ i h. subst (λ (x : ℕ). at kinds (var_of x) ≤ 3) (entry i h) (R.high i (omega (arith, many)));
          long = λ i h. subst (λ (x : ℕ). at kinds (var_of x) ≡ 3 → (end_at words (at reasons (var_of x)) ≤ length words) × (1 ≤ len_at words (at reasons (var_of x)))) (entry i h) (R.long i (omega (arith, many)));
          most = R.most;
        }

    pub rec_used : s.recorded ≤ length rec
    rec_used = (record_sized_lem words_record_host k (sizes_judged words_record_host k j) refl).used

    pub rec_most : length rec ≤ 2 ^ 24
    rec_most = (record_sized_lem words_record_host k (sizes_judged words_record_host k j) refl).most

    listed : s.clauses ≤ length clauses
    listed = (clauses_sized words_record_host k (sizes_judged words_record_host k j) refl).used

    lines_are : trail_lines words kinds reasons (take assigned trail) (length (take assigned trail)) ≡ trail_lines words kinds reasons trail assigned
    lines_are = ap (trail_lines words kinds reasons (take assigned trail)) many ∙ lines_same words kinds reasons (take assigned trail) trail assigned entry

    kinds_are : trail_set 4 kinds (take assigned trail) (length (take assigned trail)) ≡ trail_set 4 kinds trail assigned
    kinds_are = ap (trail_set 4 kinds (take assigned trail)) many ∙ set_same 4 kinds (take assigned trail) trail assigned entry

    reasons_are : trail_set 0 reasons (take assigned trail) (length (take assigned trail)) ≡ trail_set 0 reasons trail assigned
    reasons_are = ap (trail_set 0 reasons (take assigned trail)) many ∙ set_same 0 reasons (take assigned trail) trail assigned entry

    -- ---- level 0
    rec_then : level ≡ 0 → (units_proved (view k)).rec ≡ take s.recorded rec ++ trail_lines words kinds reasons trail assigned
    unfolding view side
    rec_then e = ap (λ (h : Held). h.rec) (proved_is (view k) trail_ready e) ∙ ap (λ (l : List ℕ). take s.recorded rec ++ l) lines_are

    rec_length : level ≡ 0 → length (units_proved (view k)).rec ≡ s.recorded + length (trail_lines words kinds reasons trail assigned)
    rec_length e = ap length (rec_then e) ∙ length-append (take s.recorded rec) _ ∙ ap (λ (n : ℕ). n + length (trail_lines words kinds reasons trail assigned)) (length-take-le s.recorded rec rec_used)

    pub lines_room : level ≡ 0 → own_number prove_units (lent_words s words clauses rec (host_of values kinds reasons levels trail assigned level)) ≡ 0 → s.recorded + length (trail_lines words kinds reasons trail assigned) ≤ length rec
    unfolding has_room step parts
    lines_room e o = omega (arith, record_fits words_record_host k (units_proved (view k)) (has_room_lem prove_units k o) refl, rec_length e)

    pub units_laid : level ≡ 0 → s.recorded + length (trail_lines words kinds reasons trail assigned) ≤ length rec → {end : ℕ} {rec' kinds' reasons' trail' : List ℕ}
        → (end ≡ s.recorded + length (trail_lines words kinds reasons trail assigned)) × (rec' ≡ sets rec s.recorded (trail_lines words kinds reasons trail assigned))
        × (kinds' ≡ trail_set 4 kinds trail assigned) × (reasons' ≡ trail_set 0 reasons trail assigned)
        → trail' ≡ sets trail 0 (replicate (assigned - 0) 0)
        → lent_words (state_of s.vars s.words s.clauses s.tiers end s.counts s.garbage s.binary s.activity) words clauses rec' (host_of values kinds' reasons' levels trail' 0 level)
        ≡ lay words_record_host (lent_words s words clauses rec (host_of values kinds reasons levels trail assigned level)) (units_proved (view (lent_words s words clauses rec (host_of values kinds reasons levels trail assigned level))))
    unfolding lay lay_state lay_host view side
    units_laid e g {end} (p, q, r, u) t =
        let ended : end ≡ length (take s.recorded rec ++ trail_lines words kinds reasons (take assigned trail) (length (take assigned trail))) = p ∙ sym (rec_length e) ∙ ap (λ (h : Held). length h.rec) (proved_is (view k) trail_ready e) in
        let recs = q ∙ sym (fill_append rec s.recorded (trail_lines words kinds reasons trail assigned) g) ∙ ap (λ (l : List ℕ). fill rec s.recorded (take s.recorded rec ++ l)) (sym lines_are) in
        let emptied = t ∙ sym (fill_cut trail assigned 0 (omega arith) (host_sized_lem words_record_host k (sizes_judged words_record_host k j) refl).assigned) in
        (λ i. record {
          state = record { vars = s.vars; words = s.words; clauses = sym (length-take-le s.clauses clauses listed) i; tiers = s.tiers; recorded = ended i; counts = s.counts; garbage = s.garbage; binary = s.binary; activity = s.activity };
          words = words;
          clauses = sym (fill_same clauses s.clauses listed) i;
          tiers = k.tiers;
          rows = [];
          counts = [];
          rec = recs i;
          host = record { values = values; kinds = (r ∙ sym kinds_are) i; reasons = (u ∙ sym reasons_are) i; levels = levels; trail = emptied i; assigned = 0; level = level };
        }) ∙ ap (lay words_record_host k) (sym (proved_is (view k) trail_ready e))

    -- ---- above
    pub same_laid : (level ≡ 0 → ⊥) → lent_words s words clauses rec (host_of values kinds reasons levels trail assigned level)
        ≡ lay words_record_host (lent_words s words clauses rec (host_of values kinds reasons levels trail assigned level)) (units_proved (view (lent_words s words clauses rec (host_of values kinds reasons levels trail assigned level))))
    unfolding lay lay_state lay_host view side
    same_laid n =
        (λ i. record {
          state = record { vars = s.vars; words = s.words; clauses = sym (length-take-le s.clauses clauses listed) i; tiers = s.tiers; recorded = sym (length-take-le s.recorded rec rec_used) i; counts = s.counts; garbage = s.garbage; binary = s.binary; activity = s.activity };
          words = words;
          clauses = sym (fill_same clauses s.clauses listed) i;
          tiers = k.tiers;
          rows = [];
          counts = [];
          rec = sym (fill_same rec s.recorded rec_used) i;
          host = record { values = values; kinds = kinds; reasons = reasons; levels = levels; trail = sym (fill_same trail assigned (host_sized_lem words_record_host k (sizes_judged words_record_host k j) refl).assigned) i; assigned = sym many i; level = level };
        }) ∙ ap (lay words_record_host k) (sym (proved_above (view k) n))

    -- ---- the room test
    own_is : own_number prove_units k ≡ cond (fit words_record_host k (units_proved (view k))) 0 11
    unfolding own_number refused_for own lowest has_room step parts
    own_is = refl

    fit_is : (h : Held) → h.used ≡ s.words → h.clauses ≡ take s.clauses clauses → (b : Bool) → leb (length h.rec) (length rec) ≡ b → fit words_record_host k h ≡ b
    unfolding fit
    fit_is h u c b e =
        let w = words_sized_lem words_record_host k (sizes_judged words_record_host k j) refl in
        let x : leb h.used (length words) ≡ true = le-leb h.used (length words) (omega (arith, u, w.used)) in
        let y : leb (length h.clauses) (length clauses) ≡ true = le-leb (length h.clauses) (length clauses) (omega (arith, ap length c, length-take-le s.clauses clauses listed, listed)) in
        ap₂ (λ (p q : Bool). p && (true && (true && q))) (and_both _ _ x y) e

    pub number_zero : level ≡ 0 → (b : Bool) → b ≡ leb (s.recorded + length (trail_lines words kinds reasons trail assigned)) (length rec) → cond b 0 11 ≡ own_number prove_units (lent_words s words clauses rec (host_of values kinds reasons levels trail assigned level))
    unfolding view side
    number_zero e b f =
        let P = proved_is (view k) trail_ready e in
        sym (own_is ∙ ap (λ (x : Bool). cond x 0 11)
        (fit_is (units_proved (view k)) (ap (λ (h : Held). h.used) P) (ap (λ (h : Held). h.clauses) P) b (ap (λ (n : ℕ). leb n (length rec)) (rec_length e) ∙ sym f)))

    pub number_above : (level ≡ 0 → ⊥) → 0 ≡ own_number prove_units (lent_words s words clauses rec (host_of values kinds reasons levels trail assigned level))
    unfolding view side
    number_above n =
        let P = proved_above (view k) n in
        sym (own_is ∙ ap (λ (x : Bool). cond x 0 11)
        (fit_is (units_proved (view k)) (ap (λ (h : Held). h.used) P) (ap (λ (h : Held). h.clauses) P) true (ap (λ (h : Held). leb (length h.rec) (length rec)) P ∙ le-leb (length (take s.recorded rec)) (length rec) (omega (arith, length-take-le s.recorded rec rec_used, rec_used)))))
