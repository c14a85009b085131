-- `unit_simplify`: binary clauses cleaned, each removed pair told once, then every long clause. Assumes nothing.
use mathlib.Core.Path.{◌≡◌, refl, sym, ap, ◌∙◌, subst}
use mathlib.Core.Bool.{Bool, true, false, cond, not, ◌&&◌, true≢false}
use mathlib.Core.Logic.{◌⊎◌, inl, inr}
use mathlib.Core.List.{List, [], ◌∷◌, ◌++◌, append-nil}
use Prim.Native.Nat.{ℕ, suc, ◌+◌, ◌-◌, ◌≤◌, ◌<◌}
use native.Mathlib.Omega.{arith}
use native.Mathlib.Nat.{add-zero}
use lib.ListN.{length}
use lib.Dec.{ltb}
use borrow.Author.Tests.{ltb-false}
use Rattle.laws.specs.Fold.{fold_list, one}
use Rattle.laws.specs.Lists.{at, list_at}
use Rattle.kinds.specs.Clauses.{Clause, clause_at, pair, lits_at, deleted_at, longs, pairs_in, pairs, neg, var_of}
use Rattle.kinds.specs.Lines.{Line, line, of_kind, is_entry, is_strike}
use Rattle.kinds.specs.Held.{Held, with_clauses, is_open}
use Rattle.demands.specs.Runs.{all_held}
use Rattle.demands.specs.Demands.{AllReasoned, is_true}
use Rattle.calls.specs.Simplifying.{stays_in, row_cleaned, rows_cleaned, row_strikes, rows_strikes, binaries_cleaned, any_true, clause_done, simplified}
use Rattle.calls.specs.Refusing.{open_count, lacking}
use Rattle.account.specs.Open.{AllOpen, RowsOpen}
use Rattle.account.specs.Weights.{total, Blind, entry, entered, struck_in, Chained}
use Rattle.account.proofs.Lines.{entered_append, struck_append}
use Rattle.account.proofs.Moves.{Moves, all_split, quiet, moves_trans, reasoned_append}
use Rattle.account.proofs.Pairs.{row_cons, rows_cons}
use Rattle.account.proofs.Shortening.{Differ, AllDiffer}
use Rattle.account.proofs.Opening.{open_append, cleaned_open, pairs_open}
use Rattle.account.proofs.Settling.{seen, one_settled}

-- ---- the accounts of a row

module _ (w : Clause → ℕ) (a : List ℕ) where
  row_even : (r : ℕ) (row : List ℕ) → entered w (row_strikes a r row) + total w (pairs_in r row) ≡ total w (pairs_in r (row_cleaned a r row)) + struck_in w (row_strikes a r row)
  unfolding row_strikes row_cleaned
  row_even r [] = unfold of_kind total pairs_in in refl
  row_even r (b ∷ bs) = go (stays_in a r b) (row_even r bs)
    where
      goes : (t : Bool) → entered w (row_strikes a r bs) + total w (pairs_in r bs) ≡ total w (pairs_in r (row_cleaned a r bs)) + struck_in w (row_strikes a r bs)
          → entered w (cond t (line 5 (neg r ∷ b ∷ []) ∷ row_strikes a r bs) (row_strikes a r bs)) + (cond t (w (pair (neg r) b)) 0 + total w (pairs_in r bs))
          ≡ total w (pairs_in r (row_cleaned a r bs)) + struck_in w (cond t (line 5 (neg r ∷ b ∷ []) ∷ row_strikes a r bs) (row_strikes a r bs))
      goes true e = unfold of_kind total is_entry is_strike in omega arith
      goes false e = omega arith

      go : (t : Bool) → entered w (row_strikes a r bs) + total w (pairs_in r bs) ≡ total w (pairs_in r (row_cleaned a r bs)) + struck_in w (row_strikes a r bs)
          → entered w (cond (not t && ltb (neg r) b) (line 5 (neg r ∷ b ∷ []) ∷ row_strikes a r bs) (row_strikes a r bs)) + total w (pairs_in r (b ∷ bs))
          ≡ total w (pairs_in r (cond t (b ∷ row_cleaned a r bs) (row_cleaned a r bs))) + struck_in w (cond (not t && ltb (neg r) b) (line 5 (neg r ∷ b ∷ []) ∷ row_strikes a r bs) (row_strikes a r bs))
      go true e = rw (row_cons w r b bs, row_cons w r b (row_cleaned a r bs)) (omega arith)
      go false e = rw (row_cons w r b bs) (unfold entry in goes (ltb (neg r) b) e)

  rows_even : (r : ℕ) (rows : List (List ℕ)) → entered w (rows_strikes a r rows) + total w (pairs r rows) ≡ total w (pairs r (rows_cleaned a r rows)) + struck_in w (rows_strikes a r rows)
  unfolding rows_strikes rows_cleaned
  rows_even r [] = unfold of_kind total pairs in refl
  rows_even r (row ∷ rows) =
      let h = row_even r row in
      let k = rows_even (suc r) rows in
      rw (rows_cons w r row rows, rows_cons w r (row_cleaned a r row), entered_append, struck_append) (omega arith)

-- ---- why a pair may be struck: where it does not stay, one of its literals is true

abbrev pub PairFine : List ℕ → ℕ → ℕ → Type 0
PairFine a r b = (stays_in a r b ≡ true) ⊎ (any_true a (neg r ∷ b ∷ []) ≡ true)

abbrev pub RowFine : List ℕ → ℕ → List ℕ → Type 0
RowFine a r row = (k : ℕ) → k < length row → PairFine a r (at row k)

module _ (a : List ℕ) where
  row_reasoned : (r : ℕ) (row : List ℕ) → RowFine a r row → (q : Line) → AllReasoned a q (row_strikes a r row)
  unfolding AllReasoned row_strikes
  row_reasoned r [] h q = tt
  row_reasoned r (b ∷ bs) h q = go (stays_in a r b) refl (h 0 (omega arith)) (ltb (neg r) b) (row_reasoned r bs (λ k l. h (suc k) (omega arith)))
    where
      go : (t : Bool) → stays_in a r b ≡ t → PairFine a r b → (u : Bool) → ((q : Line) → AllReasoned a q (row_strikes a r bs)) → AllReasoned a q (cond (not t && u) (line 5 (neg r ∷ b ∷ []) ∷ row_strikes a r bs) (row_strikes a r bs))
      go true e k u f = f q
      go false e k false f = f q
      go false e (inl z) true f = absurd (true≢false (sym z ∙ e))
      go false e (inr z) true f = (is_true z, f _)

  rows_reasoned : (r : ℕ) (rows : List (List ℕ)) → ((c : ℕ) → c < length rows → RowFine a (r + c) (list_at rows c)) → (q : Line) → AllReasoned a q (rows_strikes a r rows)
  unfolding rows_strikes
  rows_reasoned r [] h q = unfold AllReasoned in tt
  rows_reasoned r (row ∷ rows) h q =
      reasoned_append a (row_strikes a r row) (rows_strikes a (suc r) rows)
      (row_reasoned r row (subst (λ (x : ℕ). RowFine a x row) (add-zero r) (h 0 (omega arith))))
      (rows_reasoned (suc r) rows (λ c l. subst (λ (x : ℕ). RowFine a x (list_at rows c)) (let e : r + suc c ≡ suc r + c = omega arith in e) (h (suc c) (omega arith)))) q

  rows_length : (r : ℕ) (rows : List (List ℕ)) → length (rows_cleaned a r rows) ≡ length rows
  unfolding rows_cleaned
  rows_length r [] = refl
  rows_length r (row ∷ rows) = ap suc (rows_length (suc r) rows)

  -- a pair that is not refused for 10
  pub pair_fine : (r b : ℕ) → lacking a (neg r ∷ b ∷ []) ≡ false → PairFine a r b
  unfolding lacking open_count
  pair_fine r b e = go (any_true a (neg r ∷ b ∷ [])) refl e
    where
      same : is_open a (neg r) ≡ is_open a r
      same = let v : var_of (neg r) ≡ var_of r = omega arith in rw v

      both : (x y : Bool) → 2 ≤ one x + (one y + 0) → x && y ≡ true
      both true true h = refl
      both true false h = absurd (omega arith)
      both false true h = absurd (omega arith)
      both false false h = absurd (omega arith)

      go : (t : Bool) → any_true a (neg r ∷ b ∷ []) ≡ t → (not t && ltb (one (is_open a (neg r)) + (one (is_open a b) + 0)) 2) ≡ false → PairFine a r b
      go true p q = inr p
      go false p q = inl (both (is_open a r) (is_open a b) (rw (← same) (ltb-false (one (is_open a (neg r)) + (one (is_open a b) + 0)) 2 q)))

-- ---- the long clauses, in list order

longs_differ : (n : ℕ) (ws : List ℕ) (o : ℕ) (os : List ℕ) → AllDiffer n (longs ws (o ∷ os)) → (deleted_at ws o ≡ false → Differ n (lits_at ws o)) × AllDiffer n (longs ws os)
unfolding longs
longs_differ n ws o os h = go (deleted_at ws o) h
  where
    go : (b : Bool) → AllDiffer n (cond b (longs ws os) (clause_at ws o ∷ longs ws os)) → (b ≡ false → Differ n (lits_at ws o)) × AllDiffer n (longs ws os)
    go true k = ((λ e. absurd (true≢false e)), k)
    go false k = ((λ e. k.0), k.1)

module _ (w : Clause → ℕ) (blind : Blind w) (a : List ℕ) where
  clauses_walk : (os : List ℕ) (s : Held) → Chained (seen os s) → s.host.values ≡ a → AllDiffer (length s.rows) (longs s.words os) → Moves w a [] (seen os s) (seen [] (fold_list clause_done s os))
  unfolding fold_list
  clauses_walk [] s c v ok = quiet w a [] (seen [] s) (seen [] s) c refl (unfold total in omega arith)
  clauses_walk (o ∷ os) s c v ok =
      let k = longs_differ (length s.rows) s.words o os ok in
      let m = one_settled w a o os s c blind v k.0 in
      moves_trans w a (seen (o ∷ os) s) (seen os (clause_done s o)) _ m.moves
      (clauses_walk os (clause_done s o) m.moves.chain (m.values ∙ v) (subst (λ (n : ℕ). AllDiffer n (longs (clause_done s o).words os)) (sym m.size) (subst (λ (cs : List Clause). AllDiffer (length s.rows) cs) (sym m.later) k.1)))

  -- what is kept has no assigned literal
  clauses_open : (os : List ℕ) (s : Held) → Chained (seen os s) → s.host.values ≡ a → AllDiffer (length s.rows) (longs s.words os) → AllOpen a (longs s.words s.clauses) → RowsOpen a s.rows
      → AllOpen a (longs (fold_list clause_done s os).words (fold_list clause_done s os).clauses) × RowsOpen a (fold_list clause_done s os).rows
  unfolding fold_list
  clauses_open [] s c v ok f g = (f, g)
  clauses_open (o ∷ os) s c v ok f g =
      let k = longs_differ (length s.rows) s.words o os ok in
      let m = one_settled w a o os s c blind v k.0 in
      clauses_open os (clause_done s o) m.moves.chain (m.values ∙ v) (subst (λ (n : ℕ). AllDiffer n (longs (clause_done s o).words os)) (sym m.size) (subst (λ (cs : List Clause). AllDiffer (length s.rows) cs) (sym m.later) k.1))
      (m.longs_open f) (m.rows_open g)

-- ---- the whole

module _ (w : Clause → ℕ) (blind : Blind w) (s : Held) (c : Chained s) where
  abbrev a : List ℕ
  a = s.host.values

  cleaned_moves : ((r : ℕ) → r < length s.rows → RowFine a r (list_at s.rows r)) → Moves w a [] s (binaries_cleaned s)
  unfolding binaries_cleaned total
  cleaned_moves h = record {
    said = rows_strikes a 0 s.rows;
    rec_is = refl;
    chain = record { chain = c.chain; room = c.room };
    reasoned = rows_reasoned a 0 s.rows (λ r l. subst (λ (x : ℕ). RowFine a x (list_at s.rows r)) (let e : r ≡ 0 + r = omega arith in e) (h r l));
    even = rw (all_split w s, all_split w (binaries_cleaned s)) (omega (arith, rows_even w a 0 s.rows));
  }

  pub simplify_moves : AllDiffer (length s.rows) (longs s.words s.clauses) → ((r : ℕ) → r < length s.rows → RowFine a r (list_at s.rows r)) → Moves w a [] s (simplified s)
  unfolding simplified
  simplify_moves ok h =
      let t : Held = binaries_cleaned s in
      let u : Held = with_clauses [] t in
      let v : Held = fold_list clause_done u s.clauses in
      let m : Moves w a [] s t = cleaned_moves h in
      let n : Moves w a [] t (with_clauses (v.clauses ++ []) v) = unfold binaries_cleaned in
      clauses_walk w blind a s.clauses u m.chain refl (subst (λ (n : ℕ). AllDiffer n (longs s.words s.clauses)) (sym (rows_length a 0 s.rows)) ok) in
      moves_trans w a s t v m (subst (λ (os : List ℕ). Moves w a [] t (with_clauses os v)) (append-nil v.clauses) n)

  -- every clause that is left has unassigned literals alone
  pub simplified_open : AllDiffer (length s.rows) (longs s.words s.clauses) → AllOpen a (all_held (simplified s))
  unfolding simplified all_held binaries_cleaned
  simplified_open ok =
      let u : Held = with_clauses [] (binaries_cleaned s) in
      let v : Held = fold_list clause_done u s.clauses in
      let f = clauses_open w blind a s.clauses u (record { chain = c.chain; room = c.room }) refl (subst (λ (n : ℕ). AllDiffer n (longs s.words s.clauses)) (sym (rows_length a 0 s.rows)) ok)
      (unfold longs in tt) (cleaned_open a s.rows) in
      open_append a (longs v.words v.clauses) (pairs 0 v.rows) f.0 (pairs_open a v.rows f.1)
