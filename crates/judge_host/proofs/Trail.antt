-- Marking the variables of the trail, and what the marks decide. Assumes nothing.
use mathlib.Core.Path.{◌≡◌, refl, sym, ap, ap₂, ◌∙◌, subst}
use mathlib.Core.Bool.{Bool, true, false, not, ◌&&◌, ◌||◌, true≢false}
use mathlib.Core.List.{List}
use Prim.Native.Nat.{ℕ, ◌+◌, ◌*◌, ◌/◌, ◌≤◌, ◌<◌}
use native.Mathlib.Omega.{arith}
use native.Mathlib.Decide.{ℕ_discrete}
use native.Mathlib.Nat.{le_antisymm, zero-add}
use lib.ListN.{length, get_or, set, length-set, replicate, length-replicate, get_or-replicate}
use lib.Seq.{get_or-set_same, get_or-set_other}
use lib.Dec.{eqb, ltb}
use borrow.Author.Tests.{eq-eqb, ne_eqb, lt-ltb, le-ltb, ltb-true}
use Rattle.laws.specs.Fold.{all_below, any_below}
use Rattle.laws.specs.Lists.{at}
use Rattle.laws.proofs.Folds.{all_end, and_left, and_both, and_fails_left, and_fails_right, all_at, all_fails, all_same, any_same, any_more, any_none, or_right}
use Rattle.laws.proofs.Loops.{all_not_any}
use Rattle.laws.proofs.Tests.{or_false}
use Rattle.kinds.specs.Clauses.{var_of}
use Rattle.kinds.specs.Held.{Side}
use Rattle.calls.specs.StorePasses.{apart, lit_ok, lits_ok}
use Rattle.calls.specs.HostPasses.{variable_at, on_trail, off_trail_ok, removed_ok}
use Rattle.judge_host.specs.Sides.{Coded, meets, Seen, Once, seen_ok}

-- nothing is met at first
pub seen_none : (trail : List ℕ) → Seen trail 0 (replicate 65536 false)
seen_none trail = record { long = length-replicate {A = Bool} 65536 false; mark = λ x h. get_or-replicate {A = Bool} 65536 x false false h ∙ sym (any_none (meets trail x)) }

-- the first test of literal j, by the marks of those before it
module _ (v : ℕ) (trail : List ℕ) (j : ℕ) where
  apart_is : all_below (apart trail 0 j) j ≡ not (any_below (meets trail (var_of (at trail j))) j)
  unfolding apart meets
  apart_is = all_not_any (apart trail 0 j) (meets trail (var_of (at trail j))) j (λ k h. rw (zero-add k, zero-add j))

  lit_is : lit_ok trail v 0 j ≡ ltb (at trail j) (2 * v) && not (any_below (meets trail (var_of (at trail j))) j)
  unfolding lit_ok
  lit_is = ap₂ (λ (a b : Bool). a && b) (ap (λ (k : ℕ). ltb (at trail k) (2 * v)) (zero-add j)) apart_is

  module _ (seen : List Bool) (s : Seen trail j seen) (code : ℕ) (e : code ≡ at trail j) where
    pub out_of_range : 2 * v ≤ code → lit_ok trail v 0 j ≡ false
    out_of_range h = lit_is ∙ and_fails_left _ _ (le-ltb (at trail j) (2 * v) (omega arith))

    met : code / 2 < 65536 → get_or seen (code / 2) false ≡ any_below (meets trail (var_of (at trail j))) j
    met h = s.mark (code / 2) h ∙ ap (λ (x : ℕ). any_below (meets trail (var_of x)) j) e

    pub met_again : code / 2 < 65536 → get_or seen (code / 2) false ≡ true → lit_ok trail v 0 j ≡ false
    met_again h n = lit_is ∙ and_fails_right (ltb (at trail j) (2 * v)) _ (ap not (sym (met h) ∙ n))

    pub met_first : code < 2 * v → code / 2 < 65536 → get_or seen (code / 2) false ≡ false → lit_ok trail v 0 j ≡ true
    met_first l h z = lit_is ∙ and_both _ _ (lt-ltb (at trail j) (2 * v) (omega arith)) (ap not (sym (met h) ∙ z))

    pub seen_more : code / 2 < 65536 → Seen trail (j + 1) (set seen (code / 2) true)
    unfolding meets
    seen_more h = record { long = length-set seen (code / 2) true ∙ s.long; mark = λ x l. go x l (ℕ_discrete x (code / 2)) }
      where
        go : (x : ℕ) → x < 65536 → Dec (x ≡ code / 2) → get_or (set seen (code / 2) true) x false ≡ any_below (meets trail x) (j + 1)
        go x l (yes q) =
            let here : meets trail x j ≡ true = eq-eqb (var_of (at trail j)) x (ap (λ (y : ℕ). y / 2) (sym e) ∙ sym q) in
            ap (λ (k : ℕ). get_or (set seen (code / 2) true) k false) q ∙ get_or-set_same seen (code / 2) true false (omega (arith, s.long)) ∙ sym (any_more (meets trail x) j ∙ or_right (any_below (meets trail x) j) _ here)
        go x l (no q) =
            let here : meets trail x j ≡ false = ne_eqb (var_of (at trail j)) x (λ z. q (sym z ∙ ap (λ (y : ℕ). y / 2) (sym e))) in
            get_or-set_other seen (code / 2) x true false q ∙ s.mark x l ∙ sym (any_more (meets trail x) j ∙ ap (λ (b : Bool). any_below (meets trail x) j || b) here ∙ or_false (any_below (meets trail x) j))

-- ---- each way out of `trail_once`

pub once_no : (v : ℕ) (trail : List ℕ) (j : ℕ) (seen : List Bool) → j < length trail → lit_ok trail v 0 j ≡ false → Once v trail false seen
unfolding lits_ok
once_no v trail j seen h e = record { answer = sym (all_fails (lit_ok trail v 0) j (length trail) h e); marks = λ q. absurd (true≢false (sym q)) }

pub once_yes : (v : ℕ) (trail : List ℕ) (j : ℕ) (seen : List Bool) → j ≤ length trail → length trail ≤ j → all_below (lit_ok trail v 0) j ≡ true → Seen trail j seen → Once v trail true seen
unfolding lits_ok
once_yes v trail j seen h g e s =
    let q = le_antisymm h g in
    record { answer = all_end (lit_ok trail v 0) j (length trail) e h g; marks = λ z. subst (λ (n : ℕ). Seen trail n seen) q s }

-- ---- what the judged trail gives the later tests

pub coded : (v : ℕ) (trail : List ℕ) → lits_ok trail v 0 (length trail) ≡ true → Coded v trail
unfolding lits_ok lit_ok
coded v trail e = record { below = λ j h. subst (λ (k : ℕ). at trail k < 2 * v) (zero-add j) (ltb-true (at trail (0 + j)) (2 * v) (and_left _ _ (all_at (lit_ok trail v 0) (length trail) e j h))) }

pub coded_once : (v : ℕ) (trail : List ℕ) (seen : List Bool) {r : Bool} → Once v trail r seen → r ≡ true → Coded v trail
coded_once v trail seen o t = coded v trail (sym o.answer ∙ t)

-- "an assigned variable off the trail has reason 4", by the marks
pub removed_is : (v : ℕ) (s : Side) (seen : List Bool) → v ≤ 65536 → Seen s.trail (length s.trail) seen → all_below (seen_ok seen s.values s.kinds) v ≡ removed_ok v s
unfolding removed_ok seen_ok off_trail_ok on_trail meets variable_at
removed_is v s seen h t = all_same (seen_ok seen s.values s.kinds) (off_trail_ok s) v (λ x l. ap (λ (b : Bool). eqb (at s.values x) 2 || (b || eqb (at s.kinds x) 4)) (t.mark x (omega arith) ∙ any_same (meets s.trail x) (variable_at s x) (length s.trail) (λ k g. refl)))
