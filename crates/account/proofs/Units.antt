-- `prove_units` writes lines of kind 1 alone, and holds the same clauses. Assumes nothing.
use mathlib.Core.Path.{refl}
use mathlib.Core.Bool.{Bool, true, false, cond}
use mathlib.Core.List.{List, [], ◌∷◌}
use Prim.Native.Nat.{ℕ}
use native.Mathlib.Omega.{arith}
use lib.Dec.{eqb}
use Rattle.laws.specs.Fold.{fold_list}
use Rattle.kinds.specs.Clauses.{Clause}
use Rattle.kinds.specs.Lines.{line, of_kind, is_entry, is_strike}
use Rattle.kinds.specs.Held.{Held, noted, kind_of}
use Rattle.demands.specs.Runs.{all_held}
use Rattle.demands.specs.Demands.{AllReasoned, none_struck}
use Rattle.calls.specs.Simplifying.{rest_of_reason, unit_noted, unit_removed, unit_done, trail_emptied, units_proved}
use Rattle.account.specs.Weights.{total, Chained}
use Rattle.account.proofs.Lines.{flat_one}
use Rattle.account.proofs.Moves.{Moves, moves_trans}
use Rattle.account.proofs.Heads.{alike_refl, Unmoved, unmoved_refl, unmoved_moves}

module _ (w : Clause → ℕ) (a : List ℕ) where
  unit_line : (s : Held) → Chained s → (ls : List ℕ) → Moves w a [] s (noted (line 1 ls) s)
  unfolding AllReasoned of_kind is_entry is_strike total all_held
  unit_line s c ls = record {
    said = line 1 ls ∷ [];
    rec_is = rw flat_one;
    chain = record { chain = c.chain; room = c.room };
    reasoned = λ q. (none_struck refl, tt);
    even = omega arith;
  }

  noted_moves : (s : Held) → Chained s → (l : ℕ) → Moves w a [] s (unit_noted s l)
  unfolding unit_noted
  noted_moves s c l = go (eqb (kind_of s.host l) 1)
    where
      go : (b : Bool) → Moves w a [] s (cond b s (noted (line 1 (l ∷ rest_of_reason s l)) s))
      go true = unmoved_moves w a s s c (unmoved_refl s)
      go false = unit_line s c (l ∷ rest_of_reason s l)

  -- the host's side alone
  removed_unmoved : (s : Held) (l : ℕ) → Unmoved s (unit_removed s l)
  unfolding unit_removed
  removed_unmoved s l = record { used = refl; clauses = refl; rows = refl; rec = refl; alike = alike_refl s.clauses s.words }

  emptied_unmoved : (s : Held) → Unmoved s (trail_emptied s)
  unfolding trail_emptied
  emptied_unmoved s = record { used = refl; clauses = refl; rows = refl; rec = refl; alike = alike_refl s.clauses s.words }

  unit_moves : (s : Held) → Chained s → (l : ℕ) → Moves w a [] s (unit_done s l)
  unfolding unit_done
  unit_moves s c l =
      let m = noted_moves s c l in
      moves_trans w a s (unit_noted s l) (unit_removed (unit_noted s l) l) m (unmoved_moves w a (unit_noted s l) (unit_removed (unit_noted s l) l) m.chain (removed_unmoved (unit_noted s l) l))

  units_walk : (ls : List ℕ) (s : Held) → Chained s → Moves w a [] s (fold_list unit_done s ls)
  unfolding fold_list
  units_walk [] s c = unmoved_moves w a s s c (unmoved_refl s)
  units_walk (l ∷ ls) s c = let m = unit_moves s c l in moves_trans w a s (unit_done s l) _ m (units_walk ls (unit_done s l) m.chain)

  pub units_moves : (s : Held) → Chained s → Moves w a [] s (units_proved s)
  unfolding units_proved
  units_moves s c = go (eqb s.host.level 0)
    where
      go : (b : Bool) → Moves w a [] s (cond b (trail_emptied (fold_list unit_done s s.host.trail)) s)
      go true =
          let t : Held = fold_list unit_done s s.host.trail in
          let m : Moves w a [] s t = units_walk s.host.trail s c in
          moves_trans w a s t (trail_emptied t) m (unmoved_moves w a t (trail_emptied t) m.chain (emptied_unmoved t))
      go false = unmoved_moves w a s s c (unmoved_refl s)
