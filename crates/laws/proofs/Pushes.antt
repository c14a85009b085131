-- One entry more behind one of some lists; one more or less at one place. Assumes nothing.
use mathlib.Core.Path.{◌≡◌, sym, subst}
use mathlib.Core.Logic.{⊎_elim, ◌⊎◌, inl, inr}
use mathlib.Core.List.{List, [], ◌∷◌}
use Prim.Native.Nat.{ℕ, ◌+◌, ◌-◌, ◌<◌}
use native.Mathlib.Decide.{ℕ_discrete}
use lib.ListN.{length, set, length-set}
use lib.Seq.{get_or-set_same, get_or-set_other}
use Rattle.laws.specs.Lists.{at, list_at, snoc, push, more, less}
use Rattle.laws.proofs.Members.{In, in_left, in_last, in_snoc}

pub at_other : (w : List ℕ) (k x i : ℕ) → (i ≡ k → ⊥) → at (set w k x) i ≡ at w i
at_other w k x i n = get_or-set_other w k i x 0 n

pub at_same : (w : List ℕ) (k x : ℕ) → k < length w → at (set w k x) k ≡ x
at_same w k x h = get_or-set_same w k x 0 h

module _ (ts : List (List ℕ)) (t o : ℕ) (h : t < length ts) where
  pub pushed_here : list_at (push t o ts) t ≡ snoc (list_at ts t) o
  pushed_here = get_or-set_same ts t (snoc (list_at ts t) o) [] h

  pub pushed_other : (k : ℕ) → (k ≡ t → ⊥) → list_at (push t o ts) k ≡ list_at ts k
  pushed_other k n = get_or-set_other ts t k (snoc (list_at ts t) o) [] n

  pub in_pushed : In o (list_at (push t o ts) t)
  in_pushed = subst (λ (l : List ℕ). In o l) (sym pushed_here) (in_last o (list_at ts t))

  pub in_push : (k x : ℕ) → In x (list_at ts k) → In x (list_at (push t o ts) k)
  in_push k x m = go (ℕ_discrete k t)
    where
      go : Dec (k ≡ t) → In x (list_at (push t o ts) k)
      go (yes e) = subst (λ (z : ℕ). In x (list_at (push t o ts) z)) (sym e) (subst (λ (l : List ℕ). In x l) (sym pushed_here) (in_left x (list_at ts t) (o ∷ []) (subst (λ (z : ℕ). In x (list_at ts z)) e m)))
      go (no n) = subst (λ (l : List ℕ). In x l) (sym (pushed_other k n)) m

  pub push_cases : (k x : ℕ) → In x (list_at (push t o ts) k) → In x (list_at ts k) ⊎ (x ≡ o)
  push_cases k x m = go (ℕ_discrete k t)
    where
      go : Dec (k ≡ t) → In x (list_at ts k) ⊎ (x ≡ o)
      go (yes e) = subst (λ (z : ℕ). In x (list_at ts z) ⊎ (x ≡ o)) (sym e) (in_snoc x o (list_at ts t) (subst (λ (l : List ℕ). In x l) pushed_here (subst (λ (z : ℕ). In x (list_at (push t o ts) z)) e m)))
      go (no n) = inl (subst (λ (l : List ℕ). In x l) (pushed_other k n) m)

  pub pushed_cases : (k x : ℕ) → In x (list_at (push t o ts) k) → In x (list_at ts k) ⊎ ((x ≡ o) × (k ≡ t))
  pushed_cases k x m = go (ℕ_discrete k t)
    where
      go : Dec (k ≡ t) → In x (list_at ts k) ⊎ ((x ≡ o) × (k ≡ t))
      go (yes e) = ⊎_elim (λ n. inl n) (λ q. inr (q, e)) (push_cases k x m)
      go (no n) = inl (subst (λ (l : List ℕ). In x l) (pushed_other k n) m)

pub length_push : (ts : List (List ℕ)) (t o : ℕ) → length (push t o ts) ≡ length ts
length_push ts t o = length-set ts t (snoc (list_at ts t) o)

pub more_here : (cs : List ℕ) (t : ℕ) → t < length cs → at (more t cs) t ≡ at cs t + 1
more_here cs t h = at_same cs t (at cs t + 1) h

pub more_other : (cs : List ℕ) (t k : ℕ) → (k ≡ t → ⊥) → at (more t cs) k ≡ at cs k
more_other cs t k n = at_other cs t (at cs t + 1) k n

pub less_here : (cs : List ℕ) (t : ℕ) → t < length cs → at (less t cs) t ≡ at cs t - 1
less_here cs t h = at_same cs t (at cs t - 1) h

pub less_other : (cs : List ℕ) (t k : ℕ) → (k ≡ t → ⊥) → at (less t cs) k ≡ at cs k
less_other cs t k n = at_other cs t (at cs t - 1) k n

pub length_more : (cs : List ℕ) (t : ℕ) → length (more t cs) ≡ length cs
length_more cs t = length-set cs t (at cs t + 1)

pub length_less : (cs : List ℕ) (t : ℕ) → length (less t cs) ≡ length cs
length_less cs t = length-set cs t (at cs t - 1)
