-- The line of a trail literal, by its reason. Assumes nothing.
use mathlib.Core.Path.{◌≡◌, refl, sym, ap, ap₂, ◌∙◌, subst}
use mathlib.Core.Bool.{cond}
use mathlib.Core.List.{List, [], ◌∷◌}
use Prim.Native.Nat.{ℕ, zero, suc, ◌+◌, ◌-◌, ◌^◌, ◌≤◌}
use native.Mathlib.Omega.{arith}
use lib.ListN.{length, set, drop}
use lib.Seq.{sets}
use lib.Dec.{eqb}
use Rattle.laws.specs.Lists.{read_n}
use Rattle.laws.proofs.Reading.{length_read, sets_three}
use Rattle.kinds.specs.Clauses.{len_at, lits_at, end_at}
use Rattle.kinds.specs.Lines.{line, line_words}
use Rattle.kinds.specs.Numbers.{reason_of}
use Rattle.kinds.specs.declared.Reason.{Reason}
use Rattle.kinds.specs.declared.Reason.TheVariants.{None, Unit as UnitReason, Binary, Long, Removed}
use Rattle.kinds.specs.declared.ClauseRef.{ClauseRef}
use Rattle.prove_units.specs.Units.{reason_line, ReasonIn}

module _ (ws : List ℕ) (l : ℕ) where
  module _ (r : Reason) (c : ClauseRef) (e : r ≡ Long c) (i : ReasonIn ws r) where
    pub in_words : (end_at ws c.0 ≤ length ws) × (1 ≤ len_at ws c.0)
    in_words = subst (ReasonIn ws) e i

    rest_is : drop 1 (lits_at ws c.0) ≡ read_n ws (c.0 + 4) (len_at ws c.0 - 1)
    unfolding read_n
    rest_is = go (len_at ws c.0) refl
      where
        go : (n : ℕ) → len_at ws c.0 ≡ n → drop 1 (read_n ws (c.0 + 3) n) ≡ read_n ws (c.0 + 4) (n - 1)
        go zero q = absurd (omega (arith, in_words.1))
        go (suc n) q =
            let s : suc (c.0 + 3) ≡ c.0 + 4 = omega arith in
            let t : suc n - 1 ≡ n = omega arith in
            ap₂ (λ (o m : ℕ). read_n ws o m) s (sym t)

    pub line_long : reason_line ws r l ≡ 1 ∷ len_at ws c.0 ∷ l ∷ read_n ws (c.0 + 4) (len_at ws c.0 - 1)
    line_long =
        let n : suc (length (read_n ws (c.0 + 4) (len_at ws c.0 - 1))) ≡ len_at ws c.0 = omega (arith, length_read ws (c.0 + 4) (len_at ws c.0 - 1), in_words.1) in
        ap (λ (x : Reason). reason_line ws x l) e
        ∙ ap (λ (x : List ℕ). 1 ∷ suc (length x) ∷ l ∷ x) rest_is
        ∙ ap (λ (x : ℕ). 1 ∷ x ∷ l ∷ read_n ws (c.0 + 4) (len_at ws c.0 - 1)) n

    pub long_size : length (reason_line ws r l) ≡ len_at ws c.0 + 2
    long_size = ap length line_long ∙ omega (arith, length_read ws (c.0 + 4) (len_at ws c.0 - 1), in_words.1)

    pub long_said : (rec rec' : List ℕ) (used n : ℕ) → n ≡ len_at ws c.0 → rec' ≡ sets (set (set (set rec used 1) (used + 1) n) (used + 2) l) (used + 3) (read_n ws (c.0 + 4) (n - 1))
        → (used + (n + 2) ≡ used + length (reason_line ws r l)) × (rec' ≡ sets rec used (reason_line ws r l))
    long_said rec rec' used n q f = (
      omega (arith, long_size, q),
      sets_three rec rec' used 1 n l (read_n ws (c.0 + 4) (n - 1)) f ∙ ap (λ (m : ℕ). sets rec used (1 ∷ m ∷ l ∷ read_n ws (c.0 + 4) (m - 1))) q ∙ ap (sets rec used) (sym line_long),
    )

pub line_small : (ws : List ℕ) (r : Reason) (l : ℕ) → ReasonIn ws r → length ws ≤ 2 ^ 24 → length (reason_line ws r l) ≤ 2 ^ 25
line_small ws None l i h = omega arith
line_small ws UnitReason l i h = omega arith
line_small ws (Binary b) l i h = omega arith
line_small ws (Long c) l i h = omega (arith, long_size ws l (Long c) c refl i, i.0)
line_small ws Removed l i h = omega arith

-- ---- the reason of a kind byte from 1 to 3
pub line_of_kind : (ws : List ℕ) (l k x : ℕ) → 1 ≤ k → k ≤ 3 → reason_line ws (reason_of k x) l ≡ cond (eqb k 1) [] (line_words (line 1 (l ∷ cond (eqb k 2) (x ∷ []) (drop 1 (lits_at ws x)))))
line_of_kind ws l zero x p q = absurd (omega arith)
line_of_kind ws l (suc zero) x p q = refl
line_of_kind ws l (suc (suc zero)) x p q = refl
line_of_kind ws l (suc (suc (suc zero))) x p q = refl
line_of_kind ws l (suc (suc (suc (suc k)))) x p q = absurd (omega arith)

pub in_of_kind : (ws : List ℕ) (k x : ℕ) → 1 ≤ k → k ≤ 3 → (k ≡ 3 → (end_at ws x ≤ length ws) × (1 ≤ len_at ws x)) → ReasonIn ws (reason_of k x)
in_of_kind ws zero x p q f = absurd (omega arith)
in_of_kind ws (suc zero) x p q f = tt
in_of_kind ws (suc (suc zero)) x p q f = tt
in_of_kind ws (suc (suc (suc zero))) x p q f = f refl
in_of_kind ws (suc (suc (suc (suc k)))) x p q f = absurd (omega arith)
