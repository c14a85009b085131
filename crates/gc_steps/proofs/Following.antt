-- "long reasons on the trail follow": what the walk by clauses comes to is what the definition says by trail literals. Assumes nothing.
use mathlib.Core.Path.{◌≡◌, refl, sym, ap, ◌∙◌, subst}
use mathlib.Core.Bool.{Bool, true, false, cond, true≢false, not}
use mathlib.Core.Logic.{⊎_elim, ◌⊎◌, inl, inr}
use mathlib.Core.List.{List, [], ◌∷◌}
use Prim.Native.Nat.{ℕ, ◌+◌, ◌*◌, ◌%◌, ◌≤◌, ◌<◌}
use native.Mathlib.Decide.{ℕ_discrete}
use native.Mathlib.Omega.{arith}
use lib.ListN.{length, set, length-set}
use lib.Seq.{ext_get_or}
use lib.Dec.{eqb}
use borrow.Author.Tests.{eqb-true, eq-eqb, ne_eqb}
use Rattle.laws.specs.Fold.{fold_list}
use Rattle.laws.specs.Lists.{at, elem}
use Rattle.laws.proofs.Members.{In}
use Rattle.laws.proofs.Entries.{elem_none, elem_here, elem_later, elem_cases, elem_index, elem_place}
use Rattle.laws.proofs.Folds.{and_left, and_right, any_find, any_at}
use Rattle.laws.proofs.Choices.{get_d_any}
use Rattle.laws.proofs.Pushes.{at_other, at_same}
use Rattle.kinds.specs.Clauses.{first_at, size_at, end_at, deleted_at, is_live, undeleted, var_of}
use Rattle.kinds.specs.Held.{Held, Side, is_true, byte_of, kind_of, reason_word}
use Rattle.calls.specs.HostPasses.{on_trail, variable_at, long_reasons_ok}
use Rattle.calls.specs.Collecting.{old_places, new_places, new_place, followed}
use Rattle.calls.proofs.Readings.{HostSide, reason_read}
use Rattle.close_up.specs.Reasons.{asserted_by, redirected, redirected_all}
use Rattle.close_up.proofs.Laying.{Laid, offsets, offsets_live, offsets_deleted}
use Rattle.close_up.proofs.Redirecting.{length_redirected, all_live, all_deleted, all_none}

-- a listed clause begins at lo or later
pub laid_in : (ws : List ℕ) (used lo : ℕ) (os : List ℕ) → Laid ws used lo os → (o : ℕ) → In o os → lo ≤ o
unfolding Laid
laid_in ws used lo [] l o m = absurd (elem_none o m)
laid_in ws used lo (x ∷ os) l o m = ⊎_elim (λ e. let z = l.0 in omega arith) (λ q. let y = laid_in ws used (end_at ws x) os l.1 o q in omega arith) (elem_cases o x os m)

-- ---- by clauses

module _ (w values kinds : List ℕ) where
  record Asserted (rs : List ℕ) (l o : ℕ) : Type 0 where
    is_true : is_true values l ≡ true
    kind : at kinds (var_of l) ≡ 3
    reason : at rs (var_of l) ≡ o

  asserted_read : (rs : List ℕ) (l o : ℕ) → asserted_by values kinds rs l o ≡ true → Asserted rs l o
  asserted_read rs l o e =
      let r = and_right (is_true values l) _ e in
      record {
        is_true = and_left _ _ e;
        kind = eqb-true (at kinds (var_of l)) 3 (and_left _ _ r);
        reason = eqb-true (at rs (var_of l)) o (and_right (eqb (at kinds (var_of l)) 3) _ r);
      }

  redirected_off : (rs : List ℕ) (l o p x : ℕ) → (Asserted rs l o → var_of l ≡ x → ⊥) → at (redirected values kinds rs l o p) x ≡ at rs x
  unfolding redirected
  redirected_off rs l o p x h = go (asserted_by values kinds rs l o) refl
    where
      go : (b : Bool) → asserted_by values kinds rs l o ≡ b → at (cond b (set rs (var_of l) p) rs) x ≡ at rs x
      go true e = at_other rs (var_of l) p x (λ q. h (asserted_read rs l o e) (sym q))
      go false e = refl

  redirected_on : (rs : List ℕ) (l o p : ℕ) → is_true values l ≡ true → at kinds (var_of l) ≡ 3 → at rs (var_of l) ≡ o → var_of l < length rs → at (redirected values kinds rs l o p) (var_of l) ≡ p
  unfolding redirected
  redirected_on rs l o p a b c h = rw (a, eq-eqb (at kinds (var_of l)) 3 b, eq-eqb (at rs (var_of l)) o c) (at_same rs (var_of l) p h)

  all_length : (p : ℕ) (os rs : List ℕ) → length (redirected_all w values kinds p os rs) ≡ length rs
  all_length p [] rs = ap length (all_none w values kinds p rs)
  all_length p (o ∷ os) rs = go (deleted_at w o) refl (all_length p os rs) (all_length (p + size_at w o) os (redirected values kinds rs (first_at w o) o p))
    where
      go : (b : Bool) → deleted_at w o ≡ b → length (redirected_all w values kinds p os rs) ≡ length rs
          → length (redirected_all w values kinds (p + size_at w o) os (redirected values kinds rs (first_at w o) o p)) ≡ length (redirected values kinds rs (first_at w o) o p)
          → length (redirected_all w values kinds p (o ∷ os) rs) ≡ length rs
      go true e i j = ap length (all_deleted w values kinds p o os rs e) ∙ i
      go false e i j = ap length (all_live w values kinds p o os rs e) ∙ j ∙ length_redirected values kinds rs (first_at w o) o p

  -- no clause of os is x's reason
  abbrev Foreign : ℕ → List ℕ → List ℕ → Type 0
  Foreign x os rs = (o : ℕ) → In o os → var_of (first_at w o) ≡ x → is_true values (first_at w o) ≡ true → at kinds x ≡ 3 → at rs x ≡ o → ⊥

  all_off : (x p : ℕ) (os rs : List ℕ) → Foreign x os rs → at (redirected_all w values kinds p os rs) x ≡ at rs x
  all_off x p [] rs h = ap (λ (l : List ℕ). at l x) (all_none w values kinds p rs)
  all_off x p (o ∷ os) rs h = go (deleted_at w o) refl (all_off x p os rs (λ y m. h y (elem_later y o os m))) (all_off x (p + size_at w o) os (redirected values kinds rs (first_at w o) o p))
    where
      same : at (redirected values kinds rs (first_at w o) o p) x ≡ at rs x
      same = redirected_off rs (first_at w o) o p x
          (λ a e. h o (elem_here o os) e a.is_true (ap (at kinds) (sym e) ∙ a.kind) (ap (at rs) (sym e) ∙ a.reason))

      go : (b : Bool) → deleted_at w o ≡ b → at (redirected_all w values kinds p os rs) x ≡ at rs x
          → (Foreign x os (redirected values kinds rs (first_at w o) o p) → at (redirected_all w values kinds (p + size_at w o) os (redirected values kinds rs (first_at w o) o p)) x ≡ at (redirected values kinds rs (first_at w o) o p) x)
          → at (redirected_all w values kinds p (o ∷ os) rs) x ≡ at rs x
      go true e i j = ap (λ (l : List ℕ). at l x) (all_deleted w values kinds p o os rs e) ∙ i
      go false e i j = ap (λ (l : List ℕ). at l x) (all_live w values kinds p o os rs e) ∙ j (λ y m a b c d. h y (elem_later y o os m) a b c (sym same ∙ d)) ∙ same

  undeleted_one : (o : ℕ) (os : List ℕ) → deleted_at w o ≡ false → undeleted w (o ∷ os) ≡ o ∷ undeleted w os
  unfolding undeleted
  undeleted_one o os e = ap (λ (b : Bool). cond b (undeleted w os) (o ∷ undeleted w os)) e

  undeleted_skip : (o : ℕ) (os : List ℕ) → deleted_at w o ≡ true → undeleted w (o ∷ os) ≡ undeleted w os
  unfolding undeleted
  undeleted_skip o os e = ap (λ (b : Bool). cond b (undeleted w os) (o ∷ undeleted w os)) e

  -- the new place of r among os, from p on
  abbrev place_in : ℕ → List ℕ → ℕ → ℕ
  place_in p os r = new_place (undeleted w os) (offsets w p os) r

  place_here : (p o : ℕ) (os : List ℕ) → deleted_at w o ≡ false → place_in p (o ∷ os) o ≡ p
  unfolding new_place
  place_here p o os e =
      (λ j. new_place (undeleted_one o os e j) (offsets_live w o os p e j) o)
      ∙ ap (λ (b : Bool). cond b p (new_place (undeleted w os) (offsets w (p + size_at w o) os) o)) (eq-eqb o o refl)

  place_later : (p o : ℕ) (os : List ℕ) (r : ℕ) → deleted_at w o ≡ false → (o ≡ r → ⊥) → place_in p (o ∷ os) r ≡ place_in (p + size_at w o) os r
  unfolding new_place
  place_later p o os r e n =
      (λ j. new_place (undeleted_one o os e j) (offsets_live w o os p e j) r)
      ∙ ap (λ (b : Bool). cond b p (new_place (undeleted w os) (offsets w (p + size_at w o) os) r)) (ne_eqb o r n)

  place_skip : (p o : ℕ) (os : List ℕ) (r : ℕ) → deleted_at w o ≡ true → place_in p (o ∷ os) r ≡ place_in p os r
  place_skip p o os r e = λ j. new_place (undeleted_skip o os e j) (offsets_deleted w o os p e j) r

  -- the clause at r, whose first literal is true, is the reason of its variable
  module _ (used r : ℕ) (live : deleted_at w r ≡ false) (yes_true : is_true values (first_at w r) ≡ true) (long : at kinds (var_of (first_at w r)) ≡ 3) where
    abbrev x : ℕ
    x = var_of (first_at w r)

    all_on : (lo p : ℕ) (os rs : List ℕ) → Laid w used lo os → p ≤ lo → In r os → at rs x ≡ r → x < length rs → at (redirected_all w values kinds p os rs) x ≡ place_in p os r
    unfolding Laid
    all_on lo p [] rs l h m e k = absurd (elem_none r m)
    all_on lo p (o ∷ os) rs l h m e k =
        go (ℕ_discrete o r) (deleted_at w o) refl
        (λ i. all_on (end_at w o) p os rs l.1 (let v = l.0 in omega arith) i e k)
        (λ i f. all_on (end_at w o) (p + size_at w o) os (redirected values kinds rs (first_at w o) o p) l.1 (omega arith) i f (let y = length_redirected values kinds rs (first_at w o) o p in omega arith))
      where
        first : at (redirected values kinds rs (first_at w r) r p) x ≡ p
        first = redirected_on rs (first_at w r) r p yes_true long e k

        here : at (redirected_all w values kinds p (r ∷ os) rs) x ≡ p → o ≡ r → at (redirected_all w values kinds p (o ∷ os) rs) x ≡ place_in p (o ∷ os) r
        here q z = subst (λ (y : ℕ). at (redirected_all w values kinds p (y ∷ os) rs) x ≡ place_in p (y ∷ os) r) (sym z) (q ∙ sym (place_here p r os live))

        later : (o ≡ r → ⊥) → In r os
        later n = ⊎_elim (λ z. absurd (n (sym z))) (λ q. q) (elem_cases r o os m)

        kept : (o ≡ r → ⊥) → at (redirected values kinds rs (first_at w o) o p) x ≡ at rs x
        kept n = redirected_off rs (first_at w o) o p x (λ a z. n (sym a.reason ∙ ap (at rs) z ∙ e))

        go : Dec (o ≡ r) → (b : Bool) → deleted_at w o ≡ b
            → (In r os → at (redirected_all w values kinds p os rs) x ≡ place_in p os r)
            → (In r os → at (redirected values kinds rs (first_at w o) o p) x ≡ r → at (redirected_all w values kinds (p + size_at w o) os (redirected values kinds rs (first_at w o) o p)) x ≡ place_in (p + size_at w o) os r)
            → at (redirected_all w values kinds p (o ∷ os) rs) x ≡ place_in p (o ∷ os) r
        go (yes z) b q i j = here
            (ap (λ (t : List ℕ). at t x) (all_live w values kinds p r os rs live)
            ∙ all_off x (p + size_at w r) os (redirected values kinds rs (first_at w r) r p)
            (λ y u a c d f. let g = laid_in w used (end_at w o) os l.1 y u in let j : p ≡ y = sym first ∙ f in omega arith)
            ∙ first) z
        go (no n) true q i j = ap (λ (t : List ℕ). at t x) (all_deleted w values kinds p o os rs q) ∙ i (later n) ∙ sym (place_skip p o os r q)
        go (no n) false q i j = ap (λ (t : List ℕ). at t x) (all_live w values kinds p o os rs q) ∙ j (later n) (kept n ∙ e) ∙ sym (place_later p o os r q n)

-- ---- by trail literals

module _ (s : Side) (old new : List ℕ) where
  pub follow_length : (ls rs : List ℕ) → length (fold_list (followed s old new) rs ls) ≡ length rs
  unfolding fold_list followed
  follow_length [] rs = refl
  follow_length (l ∷ ls) rs = follow_length ls (followed s old new rs l) ∙ go (eqb (kind_of s l) 3)
    where
      go : (b : Bool) → length (cond b (set rs (var_of l) (new_place old new (reason_word s l))) rs) ≡ length rs
      go true = length-set rs (var_of l) (new_place old new (reason_word s l))
      go false = refl

  -- a variable that is not on the trail with a long reason
  follow_off : (ls rs : List ℕ) (x : ℕ) → ((l : ℕ) → In l ls → var_of l ≡ x → at s.kinds x ≡ 3 → ⊥) → at (fold_list (followed s old new) rs ls) x ≡ at rs x
  unfolding fold_list followed
  follow_off [] rs x n = refl
  follow_off (l ∷ ls) rs x n = follow_off ls (followed s old new rs l) x (λ y m. n y (elem_later y l ls m)) ∙ go (eqb (kind_of s l) 3) refl
    where
      go : (b : Bool) → eqb (kind_of s l) 3 ≡ b → at (cond b (set rs (var_of l) (new_place old new (reason_word s l))) rs) x ≡ at rs x
      go true e = at_other rs (var_of l) (new_place old new (reason_word s l)) x (λ q. n l (elem_here l ls) (sym q) (ap (at s.kinds) q ∙ eqb-true (kind_of s l) 3 e))
      go false e = refl

  abbrev goal : ℕ → ℕ
  goal x = new_place old new (at s.reasons x)

  -- what has followed stays
  follow_stays : (ls rs : List ℕ) (x : ℕ) → x < length rs → at rs x ≡ goal x → at (fold_list (followed s old new) rs ls) x ≡ goal x
  unfolding fold_list followed
  follow_stays [] rs x h e = e
  follow_stays (l ∷ ls) rs x h e = follow_stays ls (followed s old new rs l) x (long (eqb (kind_of s l) 3)) (go (eqb (kind_of s l) 3) (ℕ_discrete x (var_of l)))
    where
      long : (b : Bool) → x < length (cond b (set rs (var_of l) (new_place old new (reason_word s l))) rs)
      long true = let q = length-set rs (var_of l) (new_place old new (reason_word s l)) in omega arith
      long false = h

      go : (b : Bool) → Dec (x ≡ var_of l) → at (cond b (set rs (var_of l) (new_place old new (reason_word s l))) rs) x ≡ goal x
      go true (yes q) = subst (λ (z : ℕ). at (set rs z (new_place old new (at s.reasons z))) x ≡ goal x) q (at_same rs x (goal x) h)
      go true (no q) = at_other rs (var_of l) (new_place old new (reason_word s l)) x q ∙ e
      go false q = e

  follow_in : (ls rs : List ℕ) (l : ℕ) → In l ls → kind_of s l ≡ 3 → var_of l < length rs → at (fold_list (followed s old new) rs ls) (var_of l) ≡ goal (var_of l)
  unfolding fold_list followed
  follow_in [] rs l m k h = absurd (elem_none l m)
  follow_in (y ∷ ls) rs l m k h = go (follow_in ls (followed s old new rs y) l) (elem_cases l y ls m)
    where
      long : (b : Bool) → var_of l < length (cond b (set rs (var_of y) (new_place old new (reason_word s y))) rs)
      long true = let q = length-set rs (var_of y) (new_place old new (reason_word s y)) in omega arith
      long false = h

      here : (b : Bool) → b ≡ true → l ≡ y → at (cond b (set rs (var_of y) (new_place old new (reason_word s y))) rs) (var_of l) ≡ goal (var_of l)
      here true f e = subst (λ (z : ℕ). at (set rs (var_of z) (new_place old new (reason_word s z))) (var_of l) ≡ goal (var_of l)) e (at_same rs (var_of l) (goal (var_of l)) h)
      here false f e = absurd (true≢false (sym f))

      go : (In l ls → kind_of s l ≡ 3 → var_of l < length (followed s old new rs y) → at (fold_list (followed s old new) (followed s old new rs y) ls) (var_of l) ≡ goal (var_of l)) → (l ≡ y) ⊎ In l ls
          → at (fold_list (followed s old new) (followed s old new rs y) ls) (var_of l) ≡ goal (var_of l)
      go ih (inl e) = follow_stays ls (followed s old new rs y) (var_of l) (long (eqb (kind_of s y) 3)) (here (eqb (kind_of s y) 3) (eq-eqb (kind_of s y) 3 (ap (kind_of s) (sym e) ∙ k)) e)
      go ih (inr q) = ih q k (long (eqb (kind_of s y) 3))

-- ---- both are the same

module _ (h : Held) (laid : Laid h.words h.used 0 h.clauses) (side : HostSide h.vars h.host) (reasons : long_reasons_ok h ≡ true)
    (values-long : length h.host.values ≡ h.vars) (reasons-long : length h.host.reasons ≡ h.vars) where
  abbrev s : Side
  s = h.host

  -- a true literal's variable is assigned
  assigned : (l : ℕ) → var_of l < h.vars → is_true s.values l ≡ true → at s.values (var_of l) ≡ 2 → ⊥
  assigned l k t e =
      let q : byte_of s.values l + l % 2 ≡ 1 = eqb-true (byte_of s.values l + l % 2) 1 t in
      let d : byte_of s.values l ≡ 2 = get_d_any s.values (var_of l) 2 0 (omega arith) ∙ e in
      omega arith

  on_trail_lem : (l : ℕ) → In l s.trail → on_trail s (var_of l) ≡ true
  unfolding on_trail variable_at
  on_trail_lem l m = let p = elem_place l s.trail m in any_at (variable_at s (var_of l)) (length s.trail) p.0 p.1 (eq-eqb (var_of (at s.trail p.0)) (var_of l) (ap var_of p.2))

  abbrev walked : List ℕ
  walked = redirected_all h.words s.values s.kinds 0 h.clauses s.reasons

  abbrev defined : List ℕ
  defined = fold_list (followed s (old_places h) (new_places h)) s.reasons s.trail

  off_both : (x : ℕ) → ((l : ℕ) → var_of l ≡ x → is_true s.values l ≡ true → at s.kinds x ≡ 3 → ⊥) → ((l : ℕ) → In l s.trail → var_of l ≡ x → at s.kinds x ≡ 3 → ⊥) → at walked x ≡ at defined x
  off_both x a b =
      all_off h.words s.values s.kinds x 0 h.clauses s.reasons (λ o m p q r z. a (first_at h.words o) p q r)
      ∙ sym (follow_off s (old_places h) (new_places h) s.trail s.reasons x b)

  on_both : (j : ℕ) → j < length s.trail → kind_of s (at s.trail j) ≡ 3 → at walked (var_of (at s.trail j)) ≡ at defined (var_of (at s.trail j))
  unfolding is_live
  on_both j k q =
      let l = at s.trail j in
      let r = reason_word s l in
      let c = reason_read h reasons j k q in
      let f : first_at h.words r ≡ l = c.first in
      let low : at s.trail (0 + j) < 2 * h.vars = side.trail.below j k in
      let z : 0 + j ≡ j = omega arith in
      let below : l < 2 * h.vars = subst (λ (i : ℕ). at s.trail i < 2 * h.vars) z low in
      let inside : var_of l < length s.reasons = omega arith in
      let dead : deleted_at h.words r ≡ false = undead (deleted_at h.words r) (and_right (elem r h.clauses) _ c.live) in
      let first_true : is_true s.values (first_at h.words r) ≡ true = subst (λ (y : ℕ). is_true s.values y ≡ true) (sym f) (side.lits j k).true_there in
      let long : at s.kinds (var_of (first_at h.words r)) ≡ 3 = subst (λ (y : ℕ). at s.kinds (var_of y) ≡ 3) (sym f) q in
      let walk : at walked (var_of (first_at h.words r)) ≡ new_place (old_places h) (new_places h) r =
      all_on h.words s.values s.kinds h.used r dead first_true long 0 0 h.clauses s.reasons laid (omega arith) (and_left _ _ c.live) (ap (λ (y : ℕ). at s.reasons (var_of y)) f) (subst (λ (y : ℕ). var_of y < length s.reasons) (sym f) inside) in
      subst (λ (y : ℕ). at walked (var_of y) ≡ new_place (old_places h) (new_places h) r) f walk
      ∙ sym (follow_in s (old_places h) (new_places h) s.trail s.reasons l (elem_index s.trail j k) q inside)
    where
      undead : (b : Bool) → not b ≡ true → b ≡ false
      undead true e = absurd (true≢false (sym e))
      undead false e = refl

  same_at : (x : ℕ) → x < h.vars → at walked x ≡ at defined x
  unfolding on_trail variable_at
  same_at x k = go (ℕ_discrete (at s.kinds x) 3) (on_trail s x) refl
    where
      go : Dec (at s.kinds x ≡ 3) → (b : Bool) → on_trail s x ≡ b → at walked x ≡ at defined x
      go (no n) b e = off_both x (λ l p q r. n r) (λ l m p r. n r)
      go (yes y) true e =
          let p = any_find (variable_at s x) (length s.trail) e in
          let v : var_of (at s.trail p.0) ≡ x = eqb-true (var_of (at s.trail p.0)) x p.2 in
          subst (λ (z : ℕ). at walked z ≡ at defined z) v (on_both p.0 p.1 (ap (at s.kinds) v ∙ y))
      go (yes y) false e = off_both x
          (λ l p q r.
          ⊎_elim (λ two. assigned l (omega arith) q (ap (at s.values) p ∙ two)) (λ t. ⊎_elim (λ on. true≢false (sym on ∙ e)) (λ four. omega arith) t) (side.removed x k))
          (λ l m p r. true≢false (sym (ap (on_trail s) (sym p) ∙ on_trail_lem l m) ∙ e))

  pub reasons_follow : walked ≡ defined
  reasons_follow =
      let a = all_length h.words s.values s.kinds 0 h.clauses s.reasons in
      let b = follow_length s (old_places h) (new_places h) s.trail s.reasons in
      ext_get_or 0 walked defined (a ∙ sym b) (λ x k. same_at x (omega arith))
