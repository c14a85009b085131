-- Adding a binary clause: 4, 11, and what the writes come to. Assumes nothing.
use mathlib.Core.Path.{◌≡◌, refl, sym, ap, ap₂, ◌∙◌, subst}
use mathlib.Core.Bool.{Bool, true, false, cond, not, ◌&&◌}
use mathlib.Core.List.{List}
use Prim.Native.Nat.{ℕ, ◌+◌, ◌*◌, ◌≤◌, ◌<◌}
use native.Mathlib.Omega.{arith}
use native.Mathlib.Decide.{ℕ_discrete}
use lib.ListN.{length}
use lib.Dec.{leb}
use borrow.Author.Tests.{le-leb, lt-leb, leb-true, leb-false}
use Rattle.laws.specs.Fold.{all_below}
use Rattle.laws.specs.Lists.{at, list_at, more, push, lengths}
use Rattle.laws.proofs.Folds.{all_of, all_fails, and_both, and_fails_left, and_fails_right}
use Rattle.laws.proofs.Pushes.{more_here, more_other, length_more}
use Rattle.laws.proofs.Tests.{and_true}
use Rattle.kinds.specs.Clauses.{neg, var_of}
use Rattle.kinds.specs.Setters.{with_binary_count}
use Rattle.kinds.specs.Lent.{Lent, lent_rows, room_of}
use Rattle.kinds.specs.Layout.{rows_of, fill_rows, view, side, lay, lay_state, lay_host, fit, fit_row}
use Rattle.kinds.specs.declared.State.{State}
use Rattle.kinds.proofs.RowLayout.{at_lengths, lengths_push, lengths_rows}
use Rattle.calls.specs.Call.{add_binary, parts, only_rows}
use Rattle.calls.specs.StorePasses.{lits_ok}
use Rattle.calls.specs.Adding.{pair_pushed, added_pair, added_binary}
use Rattle.calls.specs.Refusing.{lowest, own, clause_wrong}
use Rattle.calls.specs.Outcome.{nothing, judged, refused_for, has_room, own_number, or_else, step, answer, refused, accepted, done}
use Rattle.calls.proofs.Laws.{not_refused}
use Rattle.calls.proofs.Laws.{has_room_lem as room-given}
use Rattle.calls.proofs.Judged.{row_fits}
use Rattle.calls.proofs.Readings.{Lits, lits_read}
use Rattle.calls.proofs.Given.{first_not, clause_right}
use Rattle.binary_calls.proofs.Rows.{RowsReady, rows_ready}

-- ---- literals

pub neg_below : (l v : ℕ) → l < 2 * v → neg l < 2 * v
neg_below l v h = omega arith

neg_apart : (a b : ℕ) → (var_of a ≡ var_of b → ⊥) → neg a ≡ neg b → ⊥
neg_apart a b h e = h (omega arith)

-- a row's test, read: x is the room, y the code
pub full_read : (counts : List ℕ) (m c : ℕ) {r : Bool} {x y : ℕ} → r ≡ leb x (at counts y) → x ≡ m → y ≡ c → r ≡ true → m ≤ at counts c
full_read counts m c {x = x} {y = y} e f g t = subst (λ (n : ℕ). n ≤ at counts c) f (subst (λ (n : ℕ). x ≤ at counts n) g (leb-true x (at counts y) (sym e ∙ t)))

pub free_read : (counts : List ℕ) (m c : ℕ) {r : Bool} {x y : ℕ} → r ≡ leb x (at counts y) → x ≡ m → y ≡ c → r ≡ false → at counts c < m
free_read counts m c {x = x} {y = y} e f g t = subst (λ (n : ℕ). at counts c < n) f (subst (λ (n : ℕ). at counts n < x) g (leb-false x (at counts y) (sym e ∙ t)))

module _ (s : State) (rows counts ls : List ℕ) where
  abbrev k : Lent
  k = lent_rows s rows counts

  abbrev m : ℕ
  m = room_of s.vars rows

  abbrev grown : List ℕ
  grown = more (neg (at ls 1)) (more (neg (at ls 0)) counts)

  -- two literals of different variables, in range
  pub record PairReady : Type 0 where
    pub two : length ls ≡ 2
    pub first : neg (at ls 0) < length counts
    pub second : neg (at ls 1) < length counts
    pub differ : neg (at ls 1) ≡ neg (at ls 0) → ⊥

  pair_of : RowsReady s rows counts → length ls ≡ 2 → Lits ls s.vars 0 (length ls) → PairReady
  pair_of r e l =
      let long = r.long in
      let a = neg_below (at ls 0) s.vars (l.below 0 (omega arith)) in
      let b = neg_below (at ls 1) s.vars (l.below 1 (omega arith)) in
      record {
        two = e;
        first = omega arith;
        second = omega arith;
        differ = λ q. neg_apart (at ls 1) (at ls 0) (λ w. l.apart 1 0 (omega arith) (omega arith) (sym w)) q;
      }

  pub pair_ready : RowsReady s rows counts → length ls ≡ 2 → lits_ok ls s.vars 0 (length ls) ≡ true → PairReady
  pair_ready r e o = pair_of r e (lits_read ls s.vars 0 (length ls) o)

  -- ---- 4

  refusal : (b : Bool) → clause_wrong s.vars 2 2 ls ≡ b → refused_for (add_binary ls) (view k) ≡ cond b 4 0
  unfolding refused_for own lowest view
  refusal b e = ap (λ (x : Bool). cond x 4 0) e

  pub length_wrong : (length ls ≡ 2 → ⊥) → clause_wrong s.vars 2 2 ls ≡ true
  unfolding clause_wrong
  length_wrong h = go (leb 2 (length ls)) refl
    where
      go : (b : Bool) → leb 2 (length ls) ≡ b → not (leb 2 (length ls) && (leb (length ls) 2 && lits_ok ls s.vars 0 (length ls))) ≡ true
      go false e = ap not (and_fails_left (leb 2 (length ls)) (leb (length ls) 2 && lits_ok ls s.vars 0 (length ls)) e)
      go true e =
          let low = leb-true 2 (length ls) e in
          ap not (and_fails_right (leb 2 (length ls)) (leb (length ls) 2 && lits_ok ls s.vars 0 (length ls))
          (and_fails_left (leb (length ls) 2) (lits_ok ls s.vars 0 (length ls)) (lt-leb (length ls) 2 (omega arith))))

  pub lits_wrong : lits_ok ls s.vars 0 (length ls) ≡ false → clause_wrong s.vars 2 2 ls ≡ true
  unfolding clause_wrong
  lits_wrong e = ap not (and_fails_right (leb 2 (length ls)) (leb (length ls) 2 && lits_ok ls s.vars 0 (length ls)) (and_fails_right (leb (length ls) 2) (lits_ok ls s.vars 0 (length ls)) e))

  clause_fine : length ls ≡ 2 → lits_ok ls s.vars 0 (length ls) ≡ true → clause_wrong s.vars 2 2 ls ≡ false
  unfolding clause_wrong
  clause_fine e o = ap not (and_both (leb 2 (length ls)) (leb (length ls) 2 && lits_ok ls s.vars 0 (length ls)) (le-leb 2 (length ls) (omega arith)) (and_both (leb (length ls) 2) (lits_ok ls s.vars 0 (length ls)) (le-leb (length ls) 2 (omega arith)) o))

  -- in the code's terms
  pub own_wrong : clause_wrong s.vars 2 2 ls ≡ true → 4 ≡ own_number (add_binary ls) k
  unfolding own_number
  own_wrong e = sym (ap (λ (x : ℕ). or_else x (cond (has_room (add_binary ls) k) 0 11)) (refusal true e))

  -- ---- 11: each of the two rows needs room for one more

  module _ (r : RowsReady s rows counts) where
    lengths_grown : lengths (pair_pushed (at ls 0) (at ls 1) (rows_of m counts rows)) ≡ grown
    lengths_grown =
        lengths_push (push (neg (at ls 0)) (at ls 1) (rows_of m counts rows)) (neg (at ls 1)) (at ls 0)
        ∙ ap (more (neg (at ls 1))) (lengths_push (rows_of m counts rows) (neg (at ls 0)) (at ls 1) ∙ ap (more (neg (at ls 0))) (lengths_rows m counts rows r.sized))

    pub row_grown : (c : ℕ) → length (list_at (pair_pushed (at ls 0) (at ls 1) (rows_of m counts rows)) c) ≡ at grown c
    row_grown c = sym (at_lengths (pair_pushed (at ls 0) (at ls 1) (rows_of m counts rows)) c) ∙ ap (λ (l : List ℕ). at l c) lengths_grown

    fit_grown : (c : ℕ) → fit_row k (step (add_binary ls) (view k)) c ≡ leb (at grown c) m
    unfolding fit_row step added_pair view
    fit_grown c = ap (λ (n : ℕ). leb n (room_of s.vars rows)) (row_grown c)

    module _ (p : PairReady) where
      pub at_first : at grown (neg (at ls 0)) ≡ at counts (neg (at ls 0)) + 1
      at_first = more_other (more (neg (at ls 0)) counts) (neg (at ls 1)) (neg (at ls 0)) (λ q. p.differ (sym q)) ∙ more_here counts (neg (at ls 0)) p.first

      pub at_second : at grown (neg (at ls 1)) ≡ at counts (neg (at ls 1)) + 1
      at_second =
          more_here (more (neg (at ls 0)) counts) (neg (at ls 1)) (subst (λ (n : ℕ). neg (at ls 1) < n) (sym (length_more counts (neg (at ls 0)))) p.second)
          ∙ ap (λ (n : ℕ). n + 1) (more_other counts (neg (at ls 0)) (neg (at ls 1)) p.differ)

      at_rest : (c : ℕ) → (c ≡ neg (at ls 0) → ⊥) → (c ≡ neg (at ls 1) → ⊥) → at grown c ≡ at counts c
      at_rest c f g = more_other (more (neg (at ls 0)) counts) (neg (at ls 1)) c g ∙ more_other counts (neg (at ls 0)) c f

      rows_of_lem : all_below (fit_row k (step (add_binary ls) (view k))) (2 * s.vars) ≡ has_room (add_binary ls) k
      unfolding has_room fit parts
      rows_of_lem = sym (and_true (all_below (fit_row k (step (add_binary ls) (view k))) (2 * s.vars)))

      no_room : (c : ℕ) → c < length counts → m < at grown c → has_room (add_binary ls) k ≡ false
      no_room c h g =
          let long = r.long in
          sym rows_of_lem ∙ all_fails (fit_row k (step (add_binary ls) (view k))) c (2 * s.vars) (omega arith) (fit_grown c ∙ lt-leb (at grown c) m g)

      each_fits : at counts (neg (at ls 0)) < m → at counts (neg (at ls 1)) < m → (c : ℕ) → c < length counts → at grown c ≤ m
      each_fits f g c h = go (ℕ_discrete c (neg (at ls 0))) (ℕ_discrete c (neg (at ls 1)))
        where
          go : Dec (c ≡ neg (at ls 0)) → Dec (c ≡ neg (at ls 1)) → at grown c ≤ m
          go (yes e) q = subst (λ (n : ℕ). at grown n ≤ m) (sym e) (let z = at_first in omega arith)
          go (no n) (yes e) = subst (λ (n : ℕ). at grown n ≤ m) (sym e) (let z = at_second in omega arith)
          go (no n) (no o) = let z = at_rest c n o in let w = r.within c h in omega arith

      all_room : at counts (neg (at ls 0)) < m → at counts (neg (at ls 1)) < m → has_room (add_binary ls) k ≡ true
      all_room f g =
          let long = r.long in
          sym rows_of_lem ∙ all_of (fit_row k (step (add_binary ls) (view k))) (2 * s.vars) (λ c h. fit_grown c ∙ le-leb (at grown c) m (each_fits f g c (omega arith)))

  -- what is left once 4 is not given
  own_room : clause_wrong s.vars 2 2 ls ≡ false → (b : Bool) → has_room (add_binary ls) k ≡ b → cond b 0 11 ≡ own_number (add_binary ls) k
  unfolding own_number
  own_room e b h = sym (ap (λ (x : ℕ). or_else x (cond (has_room (add_binary ls) k) 0 11)) (refusal false e) ∙ ap (λ (x : Bool). cond x 0 11) h)

  module _ (j : judged only_rows k ≡ 0) (e : length ls ≡ 2) (o : lits_ok ls s.vars 0 (length ls) ≡ true) where
    ready : RowsReady s rows counts
    ready = rows_ready s rows counts j

    pair : PairReady
    pair = pair_ready ready e o

    pub first_full : m ≤ at counts (neg (at ls 0)) → 11 ≡ own_number (add_binary ls) k
    first_full h = let z = at_first ready pair in own_room (clause_fine e o) false (no_room ready pair (neg (at ls 0)) pair.first (omega arith))

    pub second_full : m ≤ at counts (neg (at ls 1)) → 11 ≡ own_number (add_binary ls) k
    second_full h = let z = at_second ready pair in own_room (clause_fine e o) false (no_room ready pair (neg (at ls 1)) pair.second (omega arith))

    pub none_full : at counts (neg (at ls 0)) < m → at counts (neg (at ls 1)) < m → 0 ≡ own_number (add_binary ls) k
    none_full f g = own_room (clause_fine e o) true (all_room ready pair f g)

  -- ---- the step: what the code stands on

  pub record StepReady : Type 0 where
    pub room : RowsReady s rows counts
    pub pair : PairReady
    pub fits : (c : ℕ) → c < length counts → at grown c ≤ m

  fitted : RowsReady s rows counts → (c : ℕ) → length (list_at (step (add_binary ls) (view k)).rows c) ≤ m → at grown c ≤ m
  unfolding step added_pair view
  fitted r c h = subst (λ (n : ℕ). n ≤ room_of s.vars rows) (row_grown r c) h

  pub step_ready : judged only_rows k ≡ 0 → own_number (add_binary ls) k ≡ 0 → StepReady
  unfolding refused_for own view has_room parts
  step_ready j n =
      let r = rows_ready s rows counts j in
      let c = clause_right s.vars 2 2 ls (first_not 4 _ _ (λ q. omega arith) (not_refused (add_binary ls) k n)) in
      let low = c.low in
      let high = c.high in
      let long = r.long in
      record {
        room = r;
        pair = pair_of r (omega arith) c.lits;
        fits = λ c h. fitted r c (row_fits only_rows k (step (add_binary ls) (view k)) (room-given (add_binary ls) k n) refl c (omega arith));
      }

  pub pair_laid : (rows₁ counts₁ : List ℕ)
      → rows₁ ≡ fill_rows m counts (pair_pushed (at ls 0) (at ls 1) (rows_of m counts rows)) rows
      → counts₁ ≡ lengths (pair_pushed (at ls 0) (at ls 1) (rows_of m counts rows))
      → lent_rows (with_binary_count (s.binary + 1) s) rows₁ counts₁ ≡ lay only_rows k (added_binary ls (view k))
  unfolding lay lay_state lay_host view side added_pair
  pair_laid rows₁ counts₁ a b = ap₂ (λ (x y : List ℕ). lent_rows (with_binary_count (s.binary + 1) s) x y) a b
