-- The loop over the trail's literals. Assumes nothing.
use mathlib.Core.Path.{◌≡◌, refl, sym, ap, ap₂, ◌∙◌, subst}
use mathlib.Core.List.{List, ◌++◌}
use Prim.Native.Nat.{ℕ, zero, suc, ◌+◌, ◌-◌, ◌^◌, ◌≤◌, ◌<◌}
use native.Mathlib.Omega.{arith}
use native.Mathlib.Numerals.{add-one}
use lib.ListN.{length, set, length-set, length-append}
use lib.Seq.{sets, length-sets, get_or-set_other}
use Rattle.laws.specs.Lists.{at}
use Rattle.laws.proofs.Closing.{sets_append}
use Rattle.kinds.specs.Clauses.{var_of}
use Rattle.kinds.specs.Numbers.{reason_of}
use Rattle.kinds.specs.Held.{node_of}
use Rattle.kinds.specs.declared.Reason.{Reason}
use Rattle.kinds.specs.declared.Node.{Node}
use Rattle.prove_units.specs.Units.{reason_line, ReasonIn, trail_lines, trail_set, TrailReady}
use Rattle.prove_units.proofs.Reasons.{in_of_kind, line_small}

pub lines_next : (ws ks rs tr : List ℕ) (i : ℕ) → trail_lines ws ks rs tr (i + 1) ≡ trail_lines ws ks rs tr i ++ reason_line ws (reason_of (at ks (var_of (at tr i))) (at rs (var_of (at tr i)))) (at tr i)
unfolding trail_lines
lines_next ws ks rs tr i = rw add-one

pub set_next : (x : ℕ) (l tr : List ℕ) (i : ℕ) → trail_set x l tr (i + 1) ≡ set (trail_set x l tr i) (var_of (at tr i)) x
unfolding trail_set
set_next x l tr i = rw add-one

pub set_length : (x : ℕ) (l tr : List ℕ) (i : ℕ) → length (trail_set x l tr i) ≡ length l
unfolding trail_set
set_length x l tr zero = refl
set_length x l tr (suc i) = length-set (trail_set x l tr i) (var_of (at tr i)) x ∙ set_length x l tr i

-- a variable that is none of those before
pub set_before : (x : ℕ) (l tr : List ℕ) (i v : ℕ) → ((j : ℕ) → j < i → var_of (at tr j) ≡ v → ⊥) → at (trail_set x l tr i) v ≡ at l v
unfolding trail_set
set_before x l tr zero v f = refl
set_before x l tr (suc i) v f = get_or-set_other (trail_set x l tr i) (var_of (at tr i)) v x 0 (λ e. f i (omega arith) (sym e)) ∙ set_before x l tr i v (λ j h. f j (omega arith))

lines_mono : (ws ks rs tr : List ℕ) (i d : ℕ) → length (trail_lines ws ks rs tr i) ≤ length (trail_lines ws ks rs tr (d + i))
unfolding trail_lines
lines_mono ws ks rs tr i zero = let e : 0 + i ≡ i = omega arith in rw e (omega arith)
lines_mono ws ks rs tr i (suc d) =
    let e : suc d + i ≡ suc (d + i) = omega arith in
    rw e (omega (arith, lines_mono ws ks rs tr i d, length-append (trail_lines ws ks rs tr (d + i)) (reason_line ws (reason_of (at ks (var_of (at tr (d + i)))) (at rs (var_of (at tr (d + i))))) (at tr (d + i)))))

pub lines_le : (ws ks rs tr : List ℕ) (i n : ℕ) → i ≤ n → length (trail_lines ws ks rs tr i) ≤ length (trail_lines ws ks rs tr n)
lines_le ws ks rs tr i n h = let e : n - i + i ≡ n = omega arith in rw e at (lines_mono ws ks rs tr i (n - i))

-- what holds when i literals are done
pub record Proving (ws ks₀ rs₀ tr rec₀ : List ℕ) (recorded i used : ℕ) (rec ks rs : List ℕ) : Type 0 where
  pub used_is : used ≡ recorded + length (trail_lines ws ks₀ rs₀ tr i)
  pub rec_is : rec ≡ sets rec₀ recorded (trail_lines ws ks₀ rs₀ tr i)
  pub kinds_is : ks ≡ trail_set 4 ks₀ tr i
  pub reasons_is : rs ≡ trail_set 0 rs₀ tr i

module _ {ws ks₀ rs₀ ls tr : List ℕ} {n : ℕ} (R : TrailReady ws ks₀ rs₀ ls tr n) {i : ℕ} (h : i < n) where
  pub reason_in : ReasonIn ws (reason_of (at ks₀ (var_of (at tr i))) (at rs₀ (var_of (at tr i))))
  reason_in = in_of_kind ws _ _ (R.low i h) (R.high i h) (R.long i h)

  module _ {rec₀ rec ks rs : List ℕ} {recorded used : ℕ} (P : Proving ws ks₀ rs₀ tr rec₀ recorded i used rec ks rs) where
    reason_same : reason_of (at ks (var_of (at tr i))) (at rs (var_of (at tr i))) ≡ reason_of (at ks₀ (var_of (at tr i))) (at rs₀ (var_of (at tr i)))
    reason_same =
        ap₂ reason_of (ap (λ (l : List ℕ). at l (var_of (at tr i))) P.kinds_is ∙ set_before 4 ks₀ tr i (var_of (at tr i)) (λ j g e. R.apart j i g h e))
        (ap (λ (l : List ℕ). at l (var_of (at tr i))) P.reasons_is ∙ set_before 0 rs₀ tr i (var_of (at tr i)) (λ j g e. R.apart j i g h e))

    -- x is the literal as the code reads it
    pub unit_needs : {x : ℕ} → x ≡ at tr i → recorded + length (trail_lines ws ks₀ rs₀ tr n) ≤ length rec₀
        → (used + length (reason_line ws (reason_of (at ks (var_of x)) (at rs (var_of x))) x) ≤ length rec) × ReasonIn ws (reason_of (at ks (var_of x)) (at rs (var_of x)))
    unit_needs e g =
        rw e (subst (λ (r : Reason). (used + length (reason_line ws r (at tr i)) ≤ length rec) × ReasonIn ws r) (sym reason_same) (
          omega (
            arith,
            P.used_is,
            ap length (lines_next ws ks₀ rs₀ tr i),
            length-append (trail_lines ws ks₀ rs₀ tr i) (reason_line ws (reason_of (at ks₀ (var_of (at tr i))) (at rs₀ (var_of (at tr i)))) (at tr i)),
            lines_le ws ks₀ rs₀ tr (i + 1) n (omega arith),
            ap length P.rec_is,
            length-sets rec₀ recorded (trail_lines ws ks₀ rs₀ tr i),
          ),
          reason_in,
        ))

    pub proving_next : {x : ℕ} → x ≡ at tr i → {used' : ℕ} {rec' ks' rs' : List ℕ}
        → (used' ≡ used + length (reason_line ws (reason_of (at ks (var_of x)) (at rs (var_of x))) x))
        × (rec' ≡ sets rec used (reason_line ws (reason_of (at ks (var_of x)) (at rs (var_of x))) x))
        × (ks' ≡ set ks (var_of x) 4) × (rs' ≡ set rs (var_of x) 0)
        → Proving ws ks₀ rs₀ tr rec₀ recorded (i + 1) used' rec' ks' rs'
    proving_next e t =
        let p = rw e at t.0 in
        let q = rw e at t.1 in
        let r = rw e at t.2 in
        let s = rw e at t.3 in
        let line = reason_line ws (reason_of (at ks₀ (var_of (at tr i))) (at rs₀ (var_of (at tr i)))) (at tr i) in
        let said = ap (λ (x : Reason). reason_line ws x (at tr i)) reason_same in
        record {
          used_is = omega (arith, p, ap length said, P.used_is, ap length (lines_next ws ks₀ rs₀ tr i), length-append (trail_lines ws ks₀ rs₀ tr i) line);
          rec_is = q ∙ ap₂ (λ (x : List ℕ) (y : ℕ). sets x y (reason_line ws (reason_of (at ks (var_of (at tr i))) (at rs (var_of (at tr i)))) (at tr i))) P.rec_is P.used_is
              ∙ ap (sets (sets rec₀ recorded (trail_lines ws ks₀ rs₀ tr i)) (recorded + length (trail_lines ws ks₀ rs₀ tr i))) said
              ∙ sets_append rec₀ recorded (trail_lines ws ks₀ rs₀ tr i) line ∙ ap (sets rec₀ recorded) (sym (lines_next ws ks₀ rs₀ tr i));
          kinds_is = r ∙ ap (λ (x : List ℕ). set x (var_of (at tr i)) 4) P.kinds_is ∙ sym (set_next 4 ks₀ tr i);
          reasons_is = s ∙ ap (λ (x : List ℕ). set x (var_of (at tr i)) 0) P.reasons_is ∙ sym (set_next 0 rs₀ tr i);
        }

  -- only counting
  module _ {n' : Node} {x v : ℕ} (z : x ≡ at tr i) (e : v ≡ var_of x) (f : n' ≡ node_of ks₀ rs₀ ls v) where
    node_reason : n'.reason ≡ reason_of (at ks₀ (var_of (at tr i))) (at rs₀ (var_of (at tr i)))
    node_reason = ap (λ (y : Node). y.reason) f ∙ ap (λ (y : ℕ). reason_of (at ks₀ y) (at rs₀ y)) (e ∙ ap var_of z)

    pub node_in : ReasonIn ws n'.reason
    node_in = subst (ReasonIn ws) (sym node_reason) reason_in

    pub size_next : (recorded : ℕ) {used size : ℕ} → used ≡ recorded + length (trail_lines ws ks₀ rs₀ tr i) → size ≡ length (reason_line ws n'.reason x) → used + size ≡ recorded + length (trail_lines ws ks₀ rs₀ tr (i + 1))
    size_next recorded p q =
        omega (
          arith,
          p,
          rw z at q,
          ap (λ (r : Reason). length (reason_line ws r (at tr i))) node_reason,
          ap length (lines_next ws ks₀ rs₀ tr i),
          length-append (trail_lines ws ks₀ rs₀ tr i) (reason_line ws (reason_of (at ks₀ (var_of (at tr i))) (at rs₀ (var_of (at tr i)))) (at tr i)),
        )

    pub size_small : {size : ℕ} → size ≡ length (reason_line ws n'.reason x) → size ≤ 2 ^ 25
    size_small q = omega (arith, q, line_small ws n'.reason x node_in R.most)
