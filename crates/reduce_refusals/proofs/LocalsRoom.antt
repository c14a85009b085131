-- Room for the lines of the clauses that go: what reducing locals makes of the lists and the record. Assumes nothing.
use mathlib.Core.Path.{◌≡◌, refl, sym, ap, ap₂, ◌∙◌, subst}
use mathlib.Core.Bool.{Bool, true, false, cond, not, ◌&&◌, ◌||◌}
use mathlib.Core.Logic.{⊎_elim}
use mathlib.Core.List.{List, [], ◌∷◌}
use Prim.Native.Nat.{ℕ, ◌+◌, ◌-◌, ◌≤◌}
use native.Mathlib.Omega.{arith}
use lib.ListN.{length, length-append}
use lib.Dec.{eqb}
use borrow.Author.Tests.{eq-eqb}
use Rattle.laws.specs.Fold.{fold_list}
use Rattle.laws.specs.Lists.{at, list_at}
use Rattle.laws.proofs.Members.{In, Distinct}
use Rattle.laws.proofs.Entries.{elem_here, elem_later}
use Rattle.laws.proofs.Pushes.{at_other, pushed_here, pushed_other, length_push}
use Rattle.kinds.specs.Header.{with_deleted}
use Rattle.kinds.specs.Clauses.{head_at, len_at, first_at, end_at, tier_at, var_of}
use Rattle.kinds.specs.Held.{Side, list_in, is_true, asserting}
use Rattle.calls.specs.Adding.{removed, strike_noted, struck, deleted}
use Rattle.calls.specs.Reducing.{sort_key, Round, spared, local_done}
use Rattle.passing.proofs.Store.{Store, Live, Same, chain_apart}
use Rattle.asserting.specs.Reads.{asserting_in}
use Rattle.reduce_steps.proofs.Purging.{strike_line, line_length}
use Rattle.reduce_refusals.specs.Counted.{goer}
use Rattle.reduce_refusals.proofs.Lines.{lines, lines_stay, lines_go}

abbrev pub line_size : List ℕ → ℕ → ℕ
line_size w x = len_at w x + 2

-- ---- one entry after the other

pub record LocalsMade (r e : Round) (os : List ℕ) (n : ℕ) : Type 0 where
  pub used : e.held.used ≡ r.held.used
  pub clauses : e.held.clauses ≡ r.held.clauses
  pub irred : list_at e.held.tiers 0 ≡ list_at r.held.tiers 0
  pub core : list_at e.held.tiers 1 ≡ list_at r.held.tiers 1
  pub mid : list_at e.held.tiers 2 ≡ list_at r.held.tiers 2
  pub local : length (list_at e.held.tiers 3) ≤ length (list_at r.held.tiers 3) + length os
  pub record_long : length e.held.rec ≡ length r.held.rec + n

module _ {v : ℕ} {w : List ℕ} {used : ℕ} {l cs : List ℕ} {gb : ℕ} {ts : List (List ℕ)} (S : Store v w used l cs gb ts []) (side : Side) where
  abbrev g : ℕ → Bool
  g = goer w side.values side.kinds side.reasons

  abbrev gone : ℕ → List ℕ → ℕ
  gone = lines g (line_size w) (sort_key w)

  -- the test, at a time when the clause's own words are as they were
  module _ (r : Round) (o : ℕ) (a : Live w l o) (t : tier_at w o ≡ 3) (s : Same o (end_at w o) w r.held.words) (hs : r.held.host ≡ side) where
    long : 3 ≤ len_at w o
    long = (S.clause o a.0 a.1).three

    first_same : first_at r.held.words o ≡ first_at w o
    first_same = let z = long in s (o + 3) (omega arith) (omega arith)

    pub len_same : len_at r.held.words o ≡ len_at w o
    len_same = s (o + 2) (omega arith) (omega arith)

    asserts : asserting r.held o ≡ asserting_in w side.values side.kinds side.reasons o
    unfolding asserting asserting_in
    asserts = ap₂ (λ (x : Side) (f : ℕ). is_true x.values f && (eqb (at x.kinds (var_of f)) 3 && eqb (at x.reasons (var_of f)) o)) hs first_same

    may_go : g o ≡ not (asserting_in w side.values side.kinds side.reasons o)
    unfolding goer
    may_go = ap₂ (λ (d e : Bool). not d && (e && not (asserting_in w side.values side.kinds side.reasons o))) a.1 (eq-eqb (tier_at w o) 3 t)

    pub test_same : spared r o ≡ eqb r.left 0 || not (g o)
    unfolding spared
    test_same = ap (λ (b : Bool). eqb r.left 0 || b) (asserts ∙ sym (twice (asserting_in w side.values side.kinds side.reasons o)) ∙ ap not (sym may_go))
      where
        twice : (b : Bool) → not (not b) ≡ b
        twice true = refl
        twice false = refl

  made_stay : (r : Round) (o : ℕ) (os : List ℕ) → length r.held.tiers ≡ 4 → spared r o ≡ true → eqb r.left 0 || not (g o) ≡ true
      → LocalsMade (record { left = r.left; held = list_in 3 o r.held }) (fold_list local_done (record { left = r.left; held = list_in 3 o r.held }) os) os (gone r.left os)
      → LocalsMade r (fold_list local_done (local_done r o) os) (o ∷ os) (gone r.left (o ∷ os))
  unfolding local_done
  made_stay r o os f e b m =
      let sp : Round = record { left = r.left; held = list_in 3 o r.held } in
      let st : Round = record { left = r.left - 1; held = deleted o r.held } in
      let p = ap length (pushed_here r.held.tiers 3 o (omega arith)) in
      let a = length-append (list_at r.held.tiers 3) (o ∷ []) in
      subst (λ (x : Round). LocalsMade r (fold_list local_done x os) (o ∷ os) (gone r.left (o ∷ os))) (sym (ap (λ (c : Bool). cond c sp st) e))
      (record {
        used = m.used;
        clauses = m.clauses;
        irred = m.irred ∙ pushed_other r.held.tiers 3 o (omega arith) 0 (λ y. omega arith);
        core = m.core ∙ pushed_other r.held.tiers 3 o (omega arith) 1 (λ y. omega arith);
        mid = m.mid ∙ pushed_other r.held.tiers 3 o (omega arith) 2 (λ y. omega arith);
        local = omega arith;
        record_long = m.record_long ∙ ap (λ (x : ℕ). length r.held.rec + x) (sym (lines_stay g (line_size w) (sort_key w) r.left o os b));
      })

  made_strike : (r : Round) (o : ℕ) (os : List ℕ) → spared r o ≡ false → eqb r.left 0 || not (g o) ≡ false → len_at r.held.words o ≡ len_at w o
      → LocalsMade (record { left = r.left - 1; held = deleted o r.held }) (fold_list local_done (record { left = r.left - 1; held = deleted o r.held }) os) os (gone (r.left - 1) os)
      → LocalsMade r (fold_list local_done (local_done r o) os) (o ∷ os) (gone r.left (o ∷ os))
  unfolding local_done struck removed strike_noted
  made_strike r o os e b n m =
      let sp : Round = record { left = r.left; held = list_in 3 o r.held } in
      let st : Round = record { left = r.left - 1; held = deleted o r.held } in
      let c = length-append r.held.rec (strike_line r.held.words o) in
      let d = line_length r.held.words o in
      let f = lines_go g (line_size w) (sort_key w) r.left o os b in
      subst (λ (x : Round). LocalsMade r (fold_list local_done x os) (o ∷ os) (gone r.left (o ∷ os))) (sym (ap (λ (y : Bool). cond y sp st) e))
      (record {
        used = m.used;
        clauses = m.clauses;
        irred = m.irred;
        core = m.core;
        mid = m.mid;
        local = omega arith;
        record_long = omega arith;
      })

  pub locals_made : (os : List ℕ) (r : Round) → length r.held.tiers ≡ 4 → Distinct os → ((x : ℕ) → In x os → Live w l x × (tier_at w x ≡ 3)) → ((x : ℕ) → In x os → Same x (end_at w x) w r.held.words) → r.held.host ≡ side
      → LocalsMade r (fold_list local_done r os) os (gone r.left os)
  unfolding fold_list lines struck removed strike_noted
  locals_made [] r f d t s hs = record { used = refl; clauses = refl; irred = refl; core = refl; mid = refl; local = omega arith; record_long = omega arith }
  locals_made (o ∷ os) r f (n, d) t s hs =
      go (eqb r.left 0 || not (g o)) (test_same r o (t o (elem_here o os)).0 (t o (elem_here o os)).1 (s o (elem_here o os)) hs) refl (locals_made os (stays r)) (locals_made os (strikes r))
    where
      stays : Round → Round
      stays r = record { left = r.left; held = list_in 3 o r.held }

      strikes : Round → Round
      strikes r = record { left = r.left - 1; held = deleted o r.held }

      later : (x : ℕ) → In x os → Live w l x × (tier_at w x ≡ 3)
      later x m = t x (elem_later x o os m)

      go : (b : Bool) → spared r o ≡ eqb r.left 0 || not (g o) → eqb r.left 0 || not (g o) ≡ b
          → (length (stays r).held.tiers ≡ 4 → Distinct os → ((x : ℕ) → In x os → Live w l x × (tier_at w x ≡ 3)) → ((x : ℕ) → In x os → Same x (end_at w x) w (stays r).held.words) → (stays r).held.host ≡ side → LocalsMade (stays r) (fold_list local_done (stays r) os) os (gone (stays r).left os))
          → (length (strikes r).held.tiers ≡ 4 → Distinct os → ((x : ℕ) → In x os → Live w l x × (tier_at w x ≡ 3)) → ((x : ℕ) → In x os → Same x (end_at w x) w (strikes r).held.words) → (strikes r).held.host ≡ side → LocalsMade (strikes r) (fold_list local_done (strikes r) os) os (gone (strikes r).left os))
          → LocalsMade r (fold_list local_done (local_done r o) os) (o ∷ os) (gone r.left (o ∷ os))
      go true e b p q = made_stay r o os f (e ∙ b) b (p (length_push r.held.tiers 3 o ∙ f) d later (λ x m. s x (elem_later x o os m)) hs)
      go false e b p q = made_strike r o os (e ∙ b) b (len_same r o (t o (elem_here o os)).0 (t o (elem_here o os)).1 (s o (elem_here o os)) hs) (q f d later apart hs)
        where
          apart : (x : ℕ) → In x os → Same x (end_at w x) w (strikes r).held.words
          apart x m i a c =
              let ne : x ≡ o → ⊥ = λ z. n (subst (λ (y : ℕ). In y os) z m) in
              at_other r.held.words (o + 1) (with_deleted true (head_at r.held.words o)) i
              (λ z. ⊎_elim (λ y. omega arith) (λ y. omega arith) (chain_apart 0 used w l S.chain x o (later x m).0.0 (t o (elem_here o os)).0.0 ne))
              ∙ s x (elem_later x o os m) i a c
