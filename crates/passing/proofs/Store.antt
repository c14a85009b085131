-- The rules of words, clause list, counts and tier lists, by the entries of the lists, and what a change inside one clause's words leaves of them. Assumes nothing.
use mathlib.Core.Path.{◌≡◌, refl, sym, ap, ◌∙◌, subst}
use mathlib.Core.Bool.{Bool, true, false, not, ◌&&◌, true≢false}
use mathlib.Core.Logic.{⊎_elim, ◌⊎◌, inl, inr}
use mathlib.Core.List.{List, [], ◌∷◌, ◌++◌}
use Prim.Native.Nat.{ℕ, ◌+◌, ◌*◌, ◌≤◌, ◌<◌}
use native.Mathlib.Decide.{ℕ_discrete, dec_le}
use native.Mathlib.Omega.{arith}
use lib.ListN.{length}
use lib.Dec.{eqb}
use Rattle.laws.specs.Fold.{one}
use Rattle.laws.specs.Lists.{at, list_at}
use Rattle.laws.proofs.Members.{In, Distinct, sum_list, sum_change}
use Rattle.laws.proofs.Entries.{elem_none, elem_cases}
use Rattle.kinds.specs.Header.{mark_of, glue_of, spare_of}
use Rattle.kinds.specs.Clauses.{head_at, len_at, size_at, end_at, tier_at, deleted_at, var_of}
use Rattle.calls.proofs.Readings.{Lits}

-- ---- one clause

-- what a live clause is, but for its activity
pub record Sound (w : List ℕ) (v o : ℕ) : Type 0 where
  pub three : 3 ≤ len_at w o
  pub most : len_at w o ≤ v
  pub lits : Lits w v (o + 3) (len_at w o)
  pub mark : mark_of (head_at w o) ≡ 0
  pub spare : spare_of (head_at w o) ≡ 0
  pub glue : tier_at w o ≡ 0 → glue_of (head_at w o) ≡ 0

-- 1 for a live clause of tier t
unfoldable pub in_tier_lem : List ℕ → ℕ → ℕ → ℕ
in_tier_lem w t o = one (not (deleted_at w o) && eqb (tier_at w o) t)

-- the words of a live clause
unfoldable pub live_words : List ℕ → ℕ → ℕ
live_words w o = one (not (deleted_at w o)) * size_at w o

-- ---- the clauses of a list, one behind the other from lo to hi

abbrev pub Chain : ℕ → ℕ → List ℕ → List ℕ → Type 0
Chain lo hi w [] = lo ≤ hi
Chain lo hi w (o ∷ l) = (lo ≤ o) × Chain (end_at w o) hi w l

-- a stale entry of a tier's list
pub record Stale (w : List ℕ) (used : ℕ) (l : List ℕ) (e : ℕ) : Type 0 where
  pub within : e + 3 ≤ used
  pub deleted : deleted_at w e ≡ true
  pub outside : (x : ℕ) → In x l → deleted_at w x ≡ false → x ≤ e + 1 → e + 1 < end_at w x → ⊥

abbrev pub Live : List ℕ → List ℕ → ℕ → Type 0
Live w l o = In o l × (deleted_at w o ≡ false)

-- p holds clauses that are still to be entered into their tier's list
pub record Store (v : ℕ) (w : List ℕ) (used : ℕ) (l cs : List ℕ) (g : ℕ) (ts : List (List ℕ)) (p : List ℕ) : Type 0 where
  pub chain : Chain 0 used w l
  pub clause : (o : ℕ) → In o l → deleted_at w o ≡ false → Sound w v o
  pub counts : (t : ℕ) → t < 4 → at cs t ≡ sum_list (in_tier_lem w t) l
  pub garbage : g + sum_list (live_words w) l ≤ used
  pub covered : (o : ℕ) → In o l → deleted_at w o ≡ false → In o (list_at ts (tier_at w o)) ⊎ In o p
  pub entry : (t e : ℕ) → t < 4 → In e (list_at ts t) → Live w l e ⊎ Stale w used l e
  pub four_counts : length cs ≡ 4
  pub four_lists_lem : length ts ≡ 4
  pub room : used ≤ length w

-- ---- the same words from a up to b

abbrev pub Same : ℕ → ℕ → List ℕ → List ℕ → Type 0
Same a b w u = (i : ℕ) → a ≤ i → i < b → at u i ≡ at w i

module _ (w u : List ℕ) (o : ℕ) (s : Same o (end_at w o) w u) where
  pub head_same : head_at u o ≡ head_at w o
  head_same = s (o + 1) (omega arith) (omega arith)

  pub len_same : len_at u o ≡ len_at w o
  len_same = s (o + 2) (omega arith) (omega arith)

  pub end_same : end_at u o ≡ end_at w o
  end_same = ap (λ (n : ℕ). o + (n + 3)) len_same

  pub deleted_same : deleted_at u o ≡ deleted_at w o
  deleted_same = rw head_same

  pub tier_same : tier_at u o ≡ tier_at w o
  tier_same = rw head_same

  pub in_tier_same : (t : ℕ) → in_tier_lem u t o ≡ in_tier_lem w t o
  unfolding in_tier_lem
  in_tier_same t = rw head_same

  pub live_words_same : live_words u o ≡ live_words w o
  unfolding live_words
  live_words_same = rw (head_same, len_same)

  lits_same : (v : ℕ) → Lits w v (o + 3) (len_at w o) → Lits u v (o + 3) (len_at u o)
  lits_same v c =
      let e : (j : ℕ) → j < len_at u o → at u (o + 3 + j) ≡ at w (o + 3 + j) = λ j h. s (o + 3 + j) (omega arith) (let q = len_same in omega arith) in
      record {
        below = λ j h. let q = len_same in let z = c.below j (omega arith) in rw (e j h) z;
        apart = λ j k h f q.
            let n = len_same in
            c.apart j k (omega arith) f (sym (ap var_of (e k (omega arith))) ∙ q ∙ ap var_of (e j h));
      }

  pub sound_same : (v : ℕ) → Sound w v o → Sound u v o
  sound_same v c = record {
    three = let q = len_same in let z = c.three in omega arith;
    most = let q = len_same in let z = c.most in omega arith;
    lits = lits_same v c.lits;
    mark = rw head_same c.mark;
    spare = rw head_same c.spare;
    glue = rw head_same c.glue;
  }

-- ---- chains

pub chain_le : (lo hi : ℕ) (w l : List ℕ) → Chain lo hi w l → lo ≤ hi
chain_le lo hi w [] h = h
chain_le lo hi w (o ∷ l) (h, k) = let q = chain_le (end_at w o) hi w l k in omega arith

pub chain_in : (lo hi : ℕ) (w l : List ℕ) → Chain lo hi w l → (x : ℕ) → In x l → (lo ≤ x) × (end_at w x ≤ hi)
chain_in lo hi w [] h x m = absurd (elem_none x m)
chain_in lo hi w (o ∷ l) (h, k) x m = go (chain_in (end_at w o) hi w l k x) (elem_cases x o l m)
  where
    go : (In x l → (end_at w o ≤ x) × (end_at w x ≤ hi)) → (x ≡ o) ⊎ In x l → (lo ≤ x) × (end_at w x ≤ hi)
    go ih (inl e) = subst (λ (z : ℕ). (lo ≤ z) × (end_at w z ≤ hi)) (sym e) (h, chain_le (end_at w o) hi w l k)
    go ih (inr n) = let r = ih n in let a = r.0 in (omega arith, r.1)

pub chain_distinct : (lo hi : ℕ) (w l : List ℕ) → Chain lo hi w l → Distinct l
chain_distinct lo hi w [] h = tt
chain_distinct lo hi w (o ∷ l) (h, k) = ((λ m. let r = (chain_in (end_at w o) hi w l k o m).0 in absurd (omega arith)), chain_distinct (end_at w o) hi w l k)

pub chain_apart : (lo hi : ℕ) (w l : List ℕ) → Chain lo hi w l → (x y : ℕ) → In x l → In y l → (x ≡ y → ⊥) → (end_at w x ≤ y) ⊎ (end_at w y ≤ x)
chain_apart lo hi w [] h x y m n d = absurd (elem_none x m)
chain_apart lo hi w (o ∷ l) (h, k) x y m n d = go (chain_apart (end_at w o) hi w l k x y) (elem_cases x o l m) (elem_cases y o l n)
  where
    go : (In x l → In y l → (x ≡ y → ⊥) → (end_at w x ≤ y) ⊎ (end_at w y ≤ x)) → (x ≡ o) ⊎ In x l → (y ≡ o) ⊎ In y l → (end_at w x ≤ y) ⊎ (end_at w y ≤ x)
    go ih (inl e) (inl f) = absurd (d (e ∙ sym f))
    go ih (inl e) (inr f) = inl (subst (λ (z : ℕ). end_at w z ≤ y) (sym e) (chain_in (end_at w o) hi w l k y f).0)
    go ih (inr e) (inl f) = inr (subst (λ (z : ℕ). end_at w z ≤ x) (sym f) (chain_in (end_at w o) hi w l k x e).0)
    go ih (inr e) (inr f) = ih e f d

pub chain_lower : (lo' lo hi : ℕ) (w l : List ℕ) → lo' ≤ lo → Chain lo hi w l → Chain lo' hi w l
chain_lower lo' lo hi w [] e h = omega arith
chain_lower lo' lo hi w (o ∷ l) e (h, k) = (omega arith, k)

pub chain_higher : (lo hi hi' : ℕ) (w l : List ℕ) → hi ≤ hi' → Chain lo hi w l → Chain lo hi' w l
chain_higher lo hi hi' w [] e h = omega arith
chain_higher lo hi hi' w (o ∷ l) e (h, k) = (h, chain_higher (end_at w o) hi hi' w l e k)

-- a chain depends on the words between its ends only
pub chain_same : (lo hi : ℕ) (w u l : List ℕ) → Same lo hi w u → Chain lo hi w l → Chain lo hi u l
chain_same lo hi w u [] s h = h
chain_same lo hi w u (o ∷ l) s (h, k) =
    let top = chain_le (end_at w o) hi w l k in
    let e = end_same w u o (λ i a b. s i (omega arith) (omega arith)) in
    (h, subst (λ (n : ℕ). Chain n hi u l) (sym e) (chain_same (end_at w o) hi w u l (λ i a b. s i (omega arith) b) k))

pub chain_append : (lo mid hi : ℕ) (w a b : List ℕ) → Chain lo mid w a → Chain mid hi w b → Chain lo hi w (a ++ b)
chain_append lo mid hi w [] b h k = chain_lower lo mid hi w b h k
chain_append lo mid hi w (o ∷ a) b (h, f) k = (h, chain_append (end_at w o) mid hi w a b f k)

-- an entry taken out
pub chain_drop : (lo hi : ℕ) (w a : List ℕ) (o : ℕ) (b : List ℕ) → Chain lo hi w (a ++ (o ∷ b)) → Chain lo hi w (a ++ b)
chain_drop lo hi w [] o b (h, k) = chain_lower lo (end_at w o) hi w b (omega arith) k
chain_drop lo hi w (x ∷ a) o b (h, k) = (h, chain_drop (end_at w x) hi w a o b k)

-- ---- a change inside the words of the clause at o, which may become shorter

pub record Edit (w u : List ℕ) (o : ℕ) : Type 0 where
  pub before : (i : ℕ) → i < o → at u i ≡ at w i
  pub behind : (i : ℕ) → end_at w o ≤ i → at u i ≡ at w i
  pub shorter : len_at u o ≤ len_at w o

pub chain_edit : (lo hi : ℕ) (w u : List ℕ) (o : ℕ) → Edit w u o → (l : List ℕ) → Chain lo hi w l → In o l → Chain lo hi u l
chain_edit lo hi w u o e [] h m = h
chain_edit lo hi w u o e (x ∷ l) (h, k) m = go (chain_edit (end_at w x) hi w u o e l k) (ℕ_discrete o x)
  where
    go : (In o l → Chain (end_at w x) hi u l) → Dec (o ≡ x) → (lo ≤ x) × Chain (end_at u x) hi u l
    go ih (yes q) = (
      h,
      subst (λ (y : ℕ). Chain (end_at u y) hi u l) q
          (let z = e.shorter in chain_lower (end_at u o) (end_at w o) hi u l (omega arith)
          (chain_same (end_at w o) hi w u l (λ i a b. e.behind i a) (subst (λ (y : ℕ). Chain (end_at w y) hi w l) (sym q) k))),
    )
    go ih (no q) =
        let n : In o l = ⊎_elim (λ z. absurd (q z)) (λ z. z) (elem_cases o x l m) in
        let a = (chain_in (end_at w x) hi w l k o n).0 in
        let s = end_same w u x (λ i f b. e.before i (omega arith)) in
        (h, subst (λ (y : ℕ). Chain y hi u l) (sym s) (ih n))

-- another clause's words are as they were
pub apart_same : (lo used : ℕ) (w u l : List ℕ) (o : ℕ) → Chain lo used w l → In o l → Edit w u o → (x : ℕ) → In x l → (x ≡ o → ⊥) → Same x (end_at w x) w u
apart_same lo used w u l o c m e x n d i a b = ⊎_elim (λ z. e.before i (omega arith)) (λ z. e.behind i (omega arith)) (chain_apart lo used w l c x o n m d)

-- what else changes with it
pub record Change (v : ℕ) (w u : List ℕ) (cs cs' : List ℕ) (g g' : ℕ) (ts ts' : List (List ℕ)) (p p' : List ℕ) (o : ℕ) : Type 0 where
  pub edit : Edit w u o
  pub sound : deleted_at u o ≡ false → Sound u v o
  pub counts : (t : ℕ) → t < 4 → at cs' t + in_tier_lem w t o ≡ at cs t + in_tier_lem u t o
  pub garbage : g' + live_words u o ≤ g + live_words w o
  -- the clause stands in its list, or is still to be entered
  pub mine : deleted_at u o ≡ false → In o (list_at ts' (tier_at u o)) ⊎ In o p'
  pub others : (t x : ℕ) → t < 4 → In x (list_at ts t) → In x (list_at ts' t)
  pub still : (x : ℕ) → (x ≡ o → ⊥) → In x p → In x p'
  pub entries : (t x : ℕ) → t < 4 → In x (list_at ts' t) → In x (list_at ts t) ⊎ (x ≡ o)
  pub four_counts : length cs' ≡ length cs
  pub four_lists_lem : length ts' ≡ length ts
  pub long : length u ≡ length w

tier_small : (w : List ℕ) (o : ℕ) → tier_at w o < 4
tier_small w o = omega arith

module _ {v : ℕ} {w u : List ℕ} {used : ℕ} {l cs cs' : List ℕ} {g g' : ℕ} {ts ts' : List (List ℕ)} {p p' : List ℕ} {o : ℕ}
    (S : Store v w used l cs g ts p) (m : In o l) (live : deleted_at w o ≡ false) (C : Change v w u cs cs' g g' ts ts' p p' o) where
  other_same : (x : ℕ) → In x l → (x ≡ o → ⊥) → Same x (end_at w x) w u
  other_same x n d = apart_same 0 used w u l o S.chain m C.edit x n d

  clause_kept : (x : ℕ) → In x l → deleted_at u x ≡ false → Sound u v x
  clause_kept x n d = go (ℕ_discrete x o)
    where
      go : Dec (x ≡ o) → Sound u v x
      go (yes e) = subst (λ (z : ℕ). Sound u v z) (sym e) (C.sound (subst (λ (z : ℕ). deleted_at u z ≡ false) e d))
      go (no e) = let s = other_same x n e in sound_same w u x s v (S.clause x n (sym (deleted_same w u x s) ∙ d))

  covered_kept : (x : ℕ) → In x l → deleted_at u x ≡ false → In x (list_at ts' (tier_at u x)) ⊎ In x p'
  covered_kept x n d = go (ℕ_discrete x o)
    where
      go : Dec (x ≡ o) → In x (list_at ts' (tier_at u x)) ⊎ In x p'
      go (yes e) = subst (λ (z : ℕ). In z (list_at ts' (tier_at u z)) ⊎ In z p') (sym e) (C.mine (subst (λ (z : ℕ). deleted_at u z ≡ false) e d))
      go (no e) =
          let s = other_same x n e in
          ⊎_elim
          (λ q. inl (subst (λ (t : ℕ). In x (list_at ts' t)) (sym (tier_same w u x s)) (C.others (tier_at w x) x (tier_small w x) q)))
          (λ q. inr (C.still x e q))
          (S.covered x n (sym (deleted_same w u x s) ∙ d))

  own_entry : Live u l o ⊎ Stale u used l o
  own_entry = go (deleted_at u o) refl
    where
      go : (b : Bool) → deleted_at u o ≡ b → Live u l o ⊎ Stale u used l o
      go false e = inl (m, e)
      go true e = inr (record {
        within = let z = (chain_in 0 used w l S.chain o m).1 in omega arith;
        deleted = e;
        outside = λ x n d a b. apart x n d a b (ℕ_discrete x o);
      })
        where
          apart : (x : ℕ) → In x l → deleted_at u x ≡ false → x ≤ o + 1 → o + 1 < end_at u x → Dec (x ≡ o) → ⊥
          apart x n d a b (yes q) = true≢false (sym e ∙ subst (λ (z : ℕ). deleted_at u z ≡ false) q d)
          apart x n d a b (no q) =
              let z = end_same w u x (other_same x n q) in
              ⊎_elim (λ r. absurd (omega arith)) (λ r. absurd (omega arith)) (chain_apart 0 used w l S.chain x o n m q)

  stale_kept : (e : ℕ) → Stale w used l e → Stale u used l e
  stale_kept e s = record {
    within = s.within;
    deleted = rw (word (dec_le o (e + 1))) s.deleted;
    outside = λ x n d a b. out x n d a b (ℕ_discrete x o);
  }
    where
      word : Dec (o ≤ e + 1) → at u (e + 1) ≡ at w (e + 1)
      word (yes a) = go (dec_le (end_at w o) (e + 1))
        where
          go : Dec (end_at w o ≤ e + 1) → at u (e + 1) ≡ at w (e + 1)
          go (yes b) = C.edit.behind (e + 1) b
          go (no b) = absurd (s.outside o m live a (omega arith))
      word (no a) = C.edit.before (e + 1) (omega arith)

      out : (x : ℕ) → In x l → deleted_at u x ≡ false → x ≤ e + 1 → e + 1 < end_at u x → Dec (x ≡ o) → ⊥
      out x n d a b (yes q) =
          let z = C.edit.shorter in
          s.outside o m live (subst (λ (y : ℕ). y ≤ e + 1) q a) (let c : e + 1 < end_at u o = subst (λ (y : ℕ). e + 1 < end_at u y) q b in omega arith)
      out x n d a b (no q) =
          let f = other_same x n q in
          let z = end_same w u x f in
          s.outside x n (sym (deleted_same w u x f) ∙ d) a (omega arith)

  entry_kept : (t e : ℕ) → t < 4 → In e (list_at ts' t) → Live u l e ⊎ Stale u used l e
  entry_kept t e h n = ⊎_elim (λ q. old (S.entry t e h q)) (λ q. own q) (C.entries t e h n)
    where
      own : e ≡ o → Live u l e ⊎ Stale u used l e
      own q = subst (λ (z : ℕ). Live u l z ⊎ Stale u used l z) (sym q) own_entry

      kept : Live w l e → Dec (e ≡ o) → Live u l e ⊎ Stale u used l e
      kept a (yes q) = own q
      kept a (no q) = inl (a.0, deleted_same w u e (other_same e a.0 q) ∙ a.1)

      old : Live w l e ⊎ Stale w used l e → Live u l e ⊎ Stale u used l e
      old (inl a) = kept a (ℕ_discrete e o)
      old (inr a) = inr (stale_kept e a)

  -- THE FRAME LEMMA
  pub changed : Store v u used l cs' g' ts' p'
  changed =
      let d = chain_distinct 0 used w l S.chain in
      record {
        chain = chain_edit 0 used w u o C.edit l S.chain m;
        clause = clause_kept;
        counts = λ t h.
            let a = sum_change (in_tier_lem w t) (in_tier_lem u t) o l d m (λ x n q. in_tier_same w u x (other_same x n q) t) in
            let b = C.counts t h in
            let c = S.counts t h in
            omega arith;
        garbage =
            let a = sum_change (live_words w) (live_words u) o l d m (λ x n q. live_words_same w u x (other_same x n q)) in
            let b = C.garbage in
            let c = S.garbage in
            omega arith;
        covered = covered_kept;
        entry = entry_kept;
        four_counts = C.four_counts ∙ S.four_counts;
        four_lists_lem = C.four_lists_lem ∙ S.four_lists_lem;
        room = let z = C.long in let y = S.room in omega arith;
      }
