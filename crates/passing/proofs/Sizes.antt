-- An accepted call leaves buffers and used lengths that refusal 1 finds nothing wrong with. Assumes nothing.
use mathlib.Core.Path.{◌≡◌, refl, sym, ap, ap₂, ◌∙◌, subst}
use mathlib.Core.Bool.{Bool, true, false, cond, true≢false}
use mathlib.Core.List.{List, [], ◌∷◌}
use Prim.Native.Nat.{ℕ, zero, suc, ◌*◌, ◌/◌, ◌^◌, ◌≤◌, ◌<◌}
use native.Mathlib.Nat.{mul-div-le}
use native.Mathlib.Omega.{arith}
use lib.ListN.{length, length-take}
use borrow.Author.Tests.{eq-eqb, le-leb}
use Rattle.laws.specs.Lists.{at, list_at, lengths, fill, fill_each}
use Rattle.laws.proofs.Folds.{and_both, all_of}
use Rattle.laws.proofs.Fills.{length_fill}
use Rattle.kinds.specs.Lent.{Lent, Parts, room_of}
use Rattle.kinds.specs.Held.{Held}
use Rattle.kinds.specs.Layout.{fill_rows, side, view, lay_state, lay_host, lay, fit}
use Rattle.kinds.proofs.Layouts.{Sized, AllFit, sized_of, all_fit_of, length_fill_rows}
use Rattle.kinds.proofs.RowLayout.{length_lengths, at_lengths}
use Rattle.calls.specs.Call.{Command, add_clause, set_tier, delete, add_binary, implied, literals, assess, bump, decay, set_decay, reduce_locals, reduce_mids, collect, prove_units, unit_simplify, empty_record, view_fields, view_literal, parts, everything}
use Rattle.calls.specs.Size.{vars_in_range, sized, words_sized, tier_sized, tiers_sized, row_sized, rows_sized, record_sized, levels_sized, host_sized, sizes_ok}
use Rattle.calls.specs.Adding.{added_pair, record_emptied}
use Rattle.calls.specs.Bumping.{decay_set}
use Rattle.calls.specs.Outcome.{step}
use Rattle.calls.proofs.Judged.{SizedList, vars_low, vars_high, words_sized_lem, clauses_sized, tier_sized_lem, rows_most, counts_long, counts_within, record_sized_lem, levels_long, host_sized_lem, words_fit, clauses_fit, tier_fits, row_fits, record_fits}
use Rattle.calls.proofs.Shapes.{Shape}
use Rattle.passing.proofs.Keeps.{Keeps}

-- ---- one list, as far as it is lent

list_long : (b : Bool) (n : ℕ) (buf xs : List ℕ) → n ≤ length buf → (b ≡ true → length xs ≤ length buf) → length (cond b (fill buf n xs) buf) ≡ length buf
list_long true n buf xs h k = length_fill buf n xs h (k refl)
list_long false n buf xs h k = refl

list_used : (b : Bool) (n : ℕ) (buf xs : List ℕ) → n ≤ length buf → (b ≡ true → length xs ≤ length buf) → cond b (length xs) n ≤ length buf
list_used true n buf xs h k = k refl
list_used false n buf xs h k = h

pub sized_test : (m n : ℕ) (l : List ℕ) → length l ≤ m → n ≤ length l → sized m n l ≡ true
unfolding sized
sized_test m n l h k = and_both _ _ (le-leb (length l) m h) (le-leb n (length l) k)

list_after : (b : Bool) (m n : ℕ) (buf xs : List ℕ) → SizedList m n buf → (b ≡ true → length xs ≤ length buf) → sized m (cond b (length xs) n) (cond b (fill buf n xs) buf) ≡ true
list_after b m n buf xs s k =
    let e = list_long b n buf xs s.used k in
    let u = list_used b n buf xs s.used k in
    let z = s.most in
    sized_test m (cond b (length xs) n) (cond b (fill buf n xs) buf) (omega arith) (omega arith)

-- ---- four lists

filled_at : (bs : List (List ℕ)) (ns : List ℕ) (ls : List (List ℕ)) → length ns ≡ length bs → length ls ≡ length bs → (t : ℕ) → t < length bs → list_at (fill_each bs ns ls) t ≡ fill (list_at bs t) (at ns t) (list_at ls t)
unfolding fill_each
filled_at [] ns ls e f t h = absurd (omega arith)
filled_at (b ∷ bs) [] ls e f t h = absurd (omega arith)
filled_at (b ∷ bs) (n ∷ ns) [] e f t h = absurd (omega arith)
filled_at (b ∷ bs) (n ∷ ns) (l ∷ ls) e f zero h = refl
filled_at (b ∷ bs) (n ∷ ns) (l ∷ ls) e f (suc t) h = filled_at bs ns ls (omega arith) (omega arith) t (omega arith)

tier_after : (b : Bool) (m : ℕ) (bs : List (List ℕ)) (ns : List ℕ) (ls : List (List ℕ)) → length ns ≡ length bs → length ls ≡ length bs → (t : ℕ) → t < length bs
    → SizedList m (at ns t) (list_at bs t) → (b ≡ true → length (list_at ls t) ≤ length (list_at bs t)) → sized m (at (cond b (lengths ls) ns) t) (list_at (cond b (fill_each bs ns ls) bs) t) ≡ true
tier_after true m bs ns ls e f t h s k =
    subst (λ (l : List ℕ). sized m (at (lengths ls) t) l ≡ true) (sym (filled_at bs ns ls e f t h))
    (subst (λ (n : ℕ). sized m n (fill (list_at bs t) (at ns t) (list_at ls t)) ≡ true) (sym (at_lengths ls t)) (list_after true m (at ns t) (list_at bs t) (list_at ls t) s k))
tier_after false m bs ns ls e f t h s k = sized_test m (at ns t) (list_at bs t) s.most s.used

-- ---- the rows

rows_long : (b : Bool) (m : ℕ) (ns : List ℕ) (rows : List (List ℕ)) (buf : List ℕ) → Sized m ns buf → (b ≡ true → AllFit m rows) → length (cond b (fill_rows m ns rows buf) buf) ≡ length buf
rows_long true m ns rows buf s f = length_fill_rows m ns rows buf s (f refl)
rows_long false m ns rows buf s f = refl

counts_after : (b : Bool) (n : ℕ) (ns : List ℕ) (rows : List (List ℕ)) → length ns ≡ n → length rows ≡ n → length (cond b (lengths rows) ns) ≡ n
counts_after true n ns rows e f = length_lengths rows ∙ f
counts_after false n ns rows e f = e

counts_room : (b : Bool) (m c : ℕ) (ns : List ℕ) (rows : List (List ℕ)) → at ns c ≤ m → (b ≡ true → length (list_at rows c) ≤ m) → at (cond b (lengths rows) ns) c ≤ m
counts_room true m c ns rows h f = let z = f refl in let e = at_lengths rows c in omega arith
counts_room false m c ns rows h f = h

pub rows_test : (k : Lent) → length k.rows ≤ 2 ^ 24 → length k.counts ≡ 2 * k.state.vars → ((c : ℕ) → c < 2 * k.state.vars → at k.counts c ≤ room_of k.state.vars k.rows) → rows_sized k ≡ true
unfolding rows_sized row_sized
rows_test k h e f = and_both _ _ (le-leb (length k.rows) (2 ^ 24) h) (and_both _ _ (eq-eqb (length k.counts) (2 * k.state.vars) e) (all_of (row_sized k) (2 * k.state.vars) (λ c g. le-leb _ _ (f c g))))

-- ---- all of it

module _ (p : Parts) (k : Lent) (h : Held) (E : sizes_ok everything k ≡ true) (four : length k.tiers ≡ 4) (used : length k.state.tiers ≡ 4)
    (F : fit p k h ≡ true) (S : Shape k.state.vars (length k.counts) h) (K : Keeps (view k) h) (U : p.words ≡ false → h.used ≡ k.state.words) where
  used_within : h.used ≤ length k.words
  used_within = go p.words refl
    where
      go : (b : Bool) → p.words ≡ b → h.used ≤ length k.words
      go true e = words_fit p k h F e
      go false e = let z = (words_sized_lem everything k E refl).used in let q = U e in omega arith

  words_after : words_sized (lay p k h) ≡ true
  unfolding words_sized lay lay_state view
  words_after =
      let s = words_sized_lem everything k E refl in
      let z = s.most in
      let e = K.words in
      let u = used_within in
      and_both _ _ (sized_test (2 ^ 24) h.used h.words (omega arith) (omega arith))
      (list_after p.words (2 ^ 22) k.state.clauses k.clauses h.clauses (clauses_sized everything k E refl) (λ q. clauses_fit p k h F q))

  tiers_after : tiers_sized (lay p k h) ≡ true
  unfolding tiers_sized tier_sized lay lay_state
  tiers_after = all_of (tier_sized (lay p k h)) 4 (λ t g.
      tier_after p.tiers (2 ^ 22) k.tiers k.state.tiers h.tiers (used ∙ sym four) (S.four ∙ sym four) t (omega arith) (tier_sized_lem everything k E refl t g) (λ q. tier_fits p k h F q t g))

  abbrev m : ℕ
  m = room_of k.state.vars k.rows

  rows_length : length h.rows ≡ 2 * k.state.vars
  rows_length = S.rows ∙ counts_long everything k E refl

  rows_same : length (cond p.rows (fill_rows m k.counts h.rows k.rows) k.rows) ≡ length k.rows
  rows_same = rows_long p.rows m k.counts h.rows k.rows
      (sized_of m k.counts k.rows (λ j g. counts_within everything k E refl j (let e = counts_long everything k E refl in omega arith))
      (subst (λ (n : ℕ). n * m ≤ length k.rows) (sym (counts_long everything k E refl)) (mul-div-le (length k.rows) (2 * k.state.vars))))
      (λ q. all_fit_of m h.rows (λ c g. row_fits p k h F q c (let e = rows_length in omega arith)))

  rows_after : rows_sized (lay p k h) ≡ true
  unfolding lay lay_state
  rows_after =
      let e = rows_same in
      rows_test (lay p k h)
      (let z = rows_most everything k E refl in omega arith)
      (counts_after p.rows (2 * k.state.vars) k.counts h.rows (counts_long everything k E refl) rows_length ∙ ap (λ (n : ℕ). 2 * n) (sym S.vars))
      (λ c g.
      let g' : c < 2 * k.state.vars = subst (λ (n : ℕ). c < 2 * n) S.vars g in
      subst (λ (n : ℕ). at (cond p.rows (lengths h.rows) k.counts) c ≤ n) (ap₂ (λ (x y : ℕ). x / (2 * y)) (sym e) (sym S.vars))
      (counts_room p.rows m c k.counts h.rows (counts_within everything k E refl c g') (λ q. row_fits p k h F q c g')))

  record_after : record_sized (lay p k h) ≡ true
  unfolding record_sized lay lay_state
  record_after = list_after p.rec (2 ^ 24) k.state.recorded k.rec h.rec (record_sized_lem everything k E refl) (λ q. record_fits p k h F q)

  levels_after : levels_sized h.vars (lay p k h).host ≡ true
  unfolding levels_sized lay lay_host view side
  levels_after = eq-eqb _ _ (K.levels ∙ levels_long everything k E refl ∙ sym S.vars)

  host_after : host_sized h.vars (lay p k h).host ≡ true
  unfolding host_sized lay lay_host view side
  host_after =
      let s = host_sized_lem everything k E refl in
      let short : length h.host.trail ≤ length k.host.trail = let a = K.trail in let b = length-take k.host.assigned k.host.trail in omega arith in
      let e = list_long p.host k.host.assigned k.host.trail h.host.trail s.assigned (λ q. short) in
      let u = list_used p.host k.host.assigned k.host.trail h.host.trail s.assigned (λ q. short) in
      let v = S.vars in
      let t = s.trail in
      let enough : h.vars ≤ length (cond p.host (fill k.host.trail k.host.assigned h.host.trail) k.host.trail) = omega arith in
      let within : cond p.host (length h.host.trail) k.host.assigned ≤ length (cond p.host (fill k.host.trail k.host.assigned h.host.trail) k.host.trail) = omega arith in
      and_both _ _ (eq-eqb _ _ (K.values ∙ s.values ∙ sym v)) (and_both _ _ (eq-eqb _ _ (K.kinds ∙ s.kinds ∙ sym v)) (and_both _ _ (eq-eqb _ _ (K.reasons ∙ s.reasons ∙ sym v))
      (and_both _ _ (le-leb _ _ enough) (le-leb _ _ within))))

  vars_after : vars_in_range h.vars ≡ true
  unfolding vars_in_range
  vars_after =
      let e = S.vars in
      let a = vars_low everything k E refl in
      let b = vars_high everything k E refl in
      and_both _ _ (le-leb 1 h.vars (omega arith)) (le-leb h.vars 65536 (omega arith))

  pub sizes_after : sizes_ok everything (lay p k h) ≡ true
  unfolding sizes_ok lay lay_state
  sizes_after = and_both _ _ vars_after (and_both _ _ words_after (and_both _ _ tiers_after (and_both _ _ rows_after (and_both _ _ record_after (and_both _ _ levels_after host_after)))))

-- a call that is not lent the words leaves their number
pub used_same : (c : Command) (h : Held) → (parts c).words ≡ false → (step c h).used ≡ h.used
unfolding parts step added_pair decay_set record_emptied
used_same (add_clause t g ls) h e = absurd (true≢false e)
used_same (set_tier o t) h e = absurd (true≢false e)
used_same (delete o) h e = absurd (true≢false e)
used_same (add_binary ls) h e = refl
used_same (implied l) h e = refl
used_same (literals o) h e = refl
used_same (assess ls) h e = refl
used_same (bump o) h e = absurd (true≢false e)
used_same decay h e = absurd (true≢false e)
used_same (set_decay d) h e = refl
used_same reduce_locals h e = absurd (true≢false e)
used_same reduce_mids h e = absurd (true≢false e)
used_same collect h e = absurd (true≢false e)
used_same prove_units h e = absurd (true≢false e)
used_same unit_simplify h e = absurd (true≢false e)
used_same empty_record h e = refl
used_same (view_fields ws) h e = refl
used_same (view_literal ws i) h e = refl
