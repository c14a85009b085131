-- Demand 3: "times added or recorded as shortened = times held now + times recorded as struck", for originals and redundant clauses apart; and no original struck without its reason. Assumes nothing.
use mathlib.Core.Path.{◌≡◌, refl, sym, ap, ◌∙◌}
use mathlib.Core.Bool.{Bool, true, false}
use mathlib.Core.List.{List, [], ◌++◌, append-nil}
use Prim.Native.Nat.{ℕ, ◌+◌}
use native.Mathlib.Omega.{arith}
use lib.Dec.{eqb}
use borrow.Author.Tests.{eqb-true}
use Rattle.laws.specs.Lists.{at}
use Rattle.kinds.specs.Clauses.{Clause}
use Rattle.kinds.specs.Lines.{line, flat, lines, of_kind, is_entry, is_strike}
use Rattle.kinds.specs.Lent.{Lent}
use Rattle.kinds.specs.Held.{Held}
use Rattle.kinds.specs.Layout.{view, side}
use Rattle.calls.specs.Call.{Command, empty_record}
use Rattle.calls.specs.Outcome.{number}
use Rattle.demands.specs.Sets.{ever}
use Rattle.demands.specs.Runs.{Past, Run, all_held, whole_record}
use Rattle.demands.specs.Demands.{Balanced, BalancedIn, AllReasoned, Written, Demand3, whole_passes}
use Rattle.account.specs.Weights.{total, Blind}
use Rattle.account.specs.Originals.{originals}
use Rattle.account.proofs.Lines.{lines_whole, entered_append, struck_append}
use Rattle.account.proofs.Counting.{originals_counted}
use Rattle.account.proofs.Stepping.{step_moves}
use Rattle.account.proofs.Running.{run_sound, view_stepped, kept_refused}
use Rattle.account.proofs.AsSets.{as_set, times_total, blind_set, as_original, originals_total, blind_original}

-- ---- under any weight, with the record read back
even_read : (w : Clause → ℕ) → Blind w → {k : Lent} {p : Past} → Run k p
    → total w p.added + total w (of_kind is_entry (lines (whole_record k p))) ≡ total w (all_held (view k)) + total w (of_kind is_strike (lines (whole_record k p)))
even_read w blind {k} {p} r =
    let s = run_sound w blind r in
    let e : lines (whole_record k p) ≡ s.past ++ s.now = unfold whole_record in lines_whole p.emptied (view k).rec s.past s.now s.emptied_is s.rec_is in
    rw (e, entered_append w, struck_append w) s.even

-- originals (b is true) and redundant clauses apart
pub balanced_apart : (b : Bool) {k : Lent} {p : Past} → Run k p → (c : List ℕ) → BalancedIn b c k p
unfolding BalancedIn
balanced_apart b {k} {p} r c = simp (times_total b c) (even_read (as_set b c) (blind_set b c) r)

pub balanced : {k : Lent} {p : Past} → Run k p → (c : List ℕ) → Balanced c k p
unfolding Balanced BalancedIn ever
balanced {k} {p} r c = omega (arith, balanced_apart true r c, balanced_apart false r c)

-- how many originals there are: none is lost, none invented
pub originals_exact : {k : Lent} {p : Past} → Run k p → originals p.added + originals (of_kind is_entry (lines (whole_record k p))) ≡ originals (all_held (view k)) + originals (of_kind is_strike (lines (whole_record k p)))
originals_exact {k} {p} r = simp originals_total (even_read as_original blind_original r)

-- and where the store passes, the state's counts of Irred and of binary clauses say it
pub counts_exact : {k : Lent} {p : Past} → Run k p → whole_passes k ≡ true
    → originals p.added + originals (of_kind is_entry (lines (whole_record k p))) ≡ at k.state.counts 0 + k.state.binary + originals (of_kind is_strike (lines (whole_record k p)))
counts_exact {k} {p} r w = omega (arith, originals_exact r, originals_counted k w)

-- what a command writes, refused or accepted
pub written : {k : Lent} {p : Past} → Run k p → (c : Command) → (c ≡ empty_record → ⊥) → Written c k
unfolding view side
written {k} {p} r c n = go (eqb (number c k) 0) refl
  where
    go : (b : Bool) → eqb (number c k) 0 ≡ b → Written c k
    go true e =
        let s = run_sound as_original blind_original r in
        let z = eqb-true (number c k) 0 e in
        let m = step_moves as_original blind_original k s.chain c n z in
        record { said = m.said; written = ap (λ (h : Held). h.rec) (view_stepped c k s.four z) ∙ m.rec_is; reasoned = m.reasoned (line 0 []) }
    go false e = record { said = []; written = rw (kept_refused c k e) (unfold flat in sym (append-nil (view k).rec)); reasoned = unfold AllReasoned in tt }

pub demand_3 : Demand3
demand_3 = record { balanced = balanced; written = written }
