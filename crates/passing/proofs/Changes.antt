-- Changes of one live clause: its tier, its deleted bit, its glue, its flag, its activity. Each keeps the store's rules. Assumes nothing.
use mathlib.Core.Path.{◌≡◌, refl, sym, ap, ap₂, ◌∙◌, subst}
use mathlib.Core.Bool.{Bool, true, false, not, ◌&&◌, true≢false}
use mathlib.Core.Logic.{◌⊎◌, inl}
use mathlib.Core.List.{List}
use Prim.Native.Nat.{ℕ, ◌+◌, ◌*◌, ◌≤◌, ◌<◌}
use native.Mathlib.Decide.{ℕ_discrete}
use native.Mathlib.Omega.{arith}
use lib.ListN.{length, set, length-set}
use lib.Dec.{eqb}
use borrow.Author.Tests.{eq-eqb, ne_eqb}
use Rattle.laws.specs.Fold.{one}
use Rattle.laws.specs.Lists.{at, list_at, push, more, less}
use Rattle.laws.proofs.Members.{In, sum_part}
use Rattle.laws.proofs.Pushes.{at_other, at_same, in_pushed, in_push, push_cases, length_push, more_here, more_other, less_here, less_other, length_more, length_less}
use Rattle.kinds.specs.Header.{tier_of, deleted_of, glue_of, with_tier, with_deleted}
use Rattle.kinds.specs.Clauses.{head_at, len_at, size_at, tier_at, deleted_at, var_of, change_head}
use Rattle.kinds.specs.Floats.{limit_bits}
use Rattle.kinds.specs.Held.{Side, kind_of, reason_word}
use Rattle.calls.proofs.Readings.{Lits}
use Rattle.passing.proofs.Store.{Sound, in_tier_lem, live_words, chain_in, Store, Edit, Change, apart_same, deleted_same, len_same, changed}
use Rattle.passing.proofs.Good.{Quiet, ReasonIn, Reasons}
use Rattle.passing.proofs.Heads.{Plain, tier_put, tier_plain, tier_deleted, tier_glue, deleted_put}

-- ---- what a clause counts for

pub in_tier_yes : (w : List ℕ) (o : ℕ) → deleted_at w o ≡ false → in_tier_lem w (tier_at w o) o ≡ 1
unfolding in_tier_lem
in_tier_yes w o d = ap₂ (λ (a b : Bool). one (not a && b)) d (eq-eqb (tier_at w o) (tier_at w o) refl)

pub in_tier_no : (w : List ℕ) (t o : ℕ) → deleted_at w o ≡ false → (tier_at w o ≡ t → ⊥) → in_tier_lem w t o ≡ 0
unfolding in_tier_lem
in_tier_no w t o d n = ap₂ (λ (a b : Bool). one (not a && b)) d (ne_eqb (tier_at w o) t n)

pub in_tier_gone : (w : List ℕ) (t o : ℕ) → deleted_at w o ≡ true → in_tier_lem w t o ≡ 0
unfolding in_tier_lem
in_tier_gone w t o d = ap (λ (a : Bool). one (not a && eqb (tier_at w o) t)) d

pub words_live : (w : List ℕ) (o : ℕ) → deleted_at w o ≡ false → live_words w o ≡ size_at w o
unfolding live_words
words_live w o d = ap (λ (a : Bool). one (not a) * size_at w o) d ∙ omega arith

pub words_gone : (w : List ℕ) (o : ℕ) → deleted_at w o ≡ true → live_words w o ≡ 0
unfolding live_words
words_gone w o d = ap (λ (a : Bool). one (not a) * size_at w o) d ∙ omega arith

-- ---- one word of the header is set: word 0 or 1

pub set_edit : (w : List ℕ) (o d x : ℕ) → o ≤ d → d < o + 2 → Edit w (set w d x) o
set_edit w o d x a h = record {
  before = λ i k. at_other w d x i (λ e. omega arith);
  behind = λ i k. at_other w d x i (λ e. omega arith);
  shorter = let e = at_other w d x (o + 2) (λ q. omega arith) in omega arith;
}

-- the literals, and with them a reason, stay
lits_set : (w : List ℕ) (v o d x : ℕ) → o ≤ d → d < o + 2 → Lits w v (o + 3) (len_at w o) → Lits (set w d x) v (o + 3) (len_at (set w d x) o)
lits_set w v o d x a h c =
    let u = set w d x in
    let n : len_at u o ≡ len_at w o = at_other w d x (o + 2) (λ q. omega arith) in
    let e : (j : ℕ) → at u (o + 3 + j) ≡ at w (o + 3 + j) = λ j. at_other w d x (o + 3 + j) (λ q. omega arith) in
    record {
      below = λ j k. let z = c.below j (omega arith) in rw (e j) z;
      apart = λ j k p f q. c.apart j k (omega arith) f (sym (ap var_of (e k)) ∙ q ∙ ap var_of (e j));
    }

-- ---- word 1 is changed by f

module _ (w : List ℕ) (o : ℕ) (f : ℕ → ℕ) (h : o + 1 < length w) where
  pub head_put : head_at (change_head f o w) o ≡ f (head_at w o)
  head_put = at_same w (o + 1) (f (head_at w o)) h

  pub head_len : len_at (change_head f o w) o ≡ len_at w o
  head_len = at_other w (o + 1) (f (head_at w o)) (o + 2) (λ q. omega arith)

  pub head_sound : (v : ℕ) → Sound w v o → Plain (head_at w o) (f (head_at w o)) → (tier_of (f (head_at w o)) ≡ 0 → glue_of (f (head_at w o)) ≡ 0) → Sound (change_head f o w) v o
  head_sound v c p z = record {
    three = let e = head_len in let q = c.three in omega arith;
    most = let e = head_len in let q = c.most in omega arith;
    lits = lits_set w v o (o + 1) (f (head_at w o)) (omega arith) (omega arith) c.lits;
    mark = rw head_put (p.mark ∙ c.mark);
    spare = rw head_put (p.spare ∙ c.spare);
    glue = rw head_put z;
  }

-- ---- the others' activities and reasons

module _ {v : ℕ} {w u : List ℕ} {used : ℕ} {l cs : List ℕ} {g : ℕ} {ts : List (List ℕ)} {p : List ℕ} {o : ℕ} (S : Store v w used l cs g ts p) (m : In o l) (E : Edit w u o) where
  pub quiet_frame : (deleted_at u o ≡ false → at u o ≤ limit_bits) → Quiet w l → Quiet u l
  quiet_frame mine q x n d = go (ℕ_discrete x o)
    where
      go : Dec (x ≡ o) → at u x ≤ limit_bits
      go (yes e) = subst (λ (z : ℕ). at u z ≤ limit_bits) (sym e) (mine (subst (λ (z : ℕ). deleted_at u z ≡ false) e d))
      go (no e) =
          let s = apart_same 0 used w u l o S.chain m E x n e in
          let a = q x n (sym (deleted_same w u x s) ∙ d) in
          rw (s x (omega arith) (omega arith)) a

  pub reasons_frame : (s : Side) → ((j : ℕ) → j < length s.trail → kind_of s (at s.trail j) ≡ 3 → reason_word s (at s.trail j) ≡ o → ReasonIn u l s.values (at s.trail j) (reason_word s (at s.trail j)))
      → Reasons w l s → Reasons u l s
  reasons_frame s mine r j k q = go (ℕ_discrete (reason_word s (at s.trail j)) o)
    where
      go : Dec (reason_word s (at s.trail j) ≡ o) → ReasonIn u l s.values (at s.trail j) (reason_word s (at s.trail j))
      go (yes e) = mine j k q e
      go (no e) =
          let x = reason_word s (at s.trail j) in
          let c = r j k q in
          let n = c.live.0 in
          let a = apart_same 0 used w u l o S.chain m E x n e in
          let three = (S.clause x n c.live.1).three in
          let len = len_same w u x a in
          record {
            live = (n, deleted_same w u x a ∙ c.live.1);
            first = a (x + 3) (omega arith) (omega arith) ∙ c.first;
            others = λ i f. rw (a (x + 4 + i) (omega arith) (omega arith)) (c.others i (omega arith));
          }

-- a word of the header is set, and the clause stays live: its reason stays
pub reason_set : (w l values : List ℕ) (o d x y : ℕ) → o ≤ d → d < o + 2 → deleted_at (set w d x) o ≡ false → ReasonIn w l values y o → ReasonIn (set w d x) l values y o
reason_set w l values o d x y a h live c =
    let n : len_at (set w d x) o ≡ len_at w o = at_other w d x (o + 2) (λ q. omega arith) in
    record {
      live = (c.live.0, live);
      first = at_other w d x (o + 3) (λ q. omega arith) ∙ c.first;
      others = λ i f. rw (at_other w d x (o + 4 + i) (λ q. omega arith)) (c.others i (omega arith));
    }

-- ---- at a live clause

module _ {v : ℕ} {w : List ℕ} {used : ℕ} {l cs : List ℕ} {g : ℕ} {ts : List (List ℕ)} {p : List ℕ} (S : Store v w used l cs g ts p) (o : ℕ) (m : In o l) (live : deleted_at w o ≡ false) where
  pub head_room : o + 1 < length w
  head_room = let a = (chain_in 0 used w l S.chain o m).1 in let b = S.room in omega arith

  tier_four : tier_at w o < 4
  tier_four = omega arith

  counted : 1 ≤ at cs (tier_at w o)
  counted =
      let a = S.counts (tier_at w o) tier_four in
      let b = sum_part (in_tier_lem w (tier_at w o)) o l m in
      let c = in_tier_yes w o live in
      omega arith

  -- one less of its tier
  less_counts : (u : List ℕ) → deleted_at u o ≡ true → (t : ℕ) → t < 4 → at (less (tier_at w o) cs) t + in_tier_lem w t o ≡ at cs t + in_tier_lem u t o
  less_counts u d t h = go (ℕ_discrete t (tier_at w o))
    where
      go : Dec (t ≡ tier_at w o) → at (less (tier_at w o) cs) t + in_tier_lem w t o ≡ at cs t + in_tier_lem u t o
      go (yes e) = subst (λ (z : ℕ). at (less (tier_at w o) cs) z + in_tier_lem w z o ≡ at cs z + in_tier_lem u z o) (sym e)
          (let a = less_here cs (tier_at w o) (let f = S.four_counts in omega arith) in
          let b = in_tier_yes w o live in
          let c = in_tier_gone u (tier_at w o) o d in
          let k = counted in
          omega arith)
      go (no e) =
          let a = less_other cs (tier_at w o) t e in
          let b = in_tier_no w t o live (λ q. e (sym q)) in
          let c = in_tier_gone u t o d in
          omega arith

  -- "Deleting adds length + 3 to garbage": the deleted bit, one less of its tier
  module _ (p' : List ℕ) (still : (x : ℕ) → (x ≡ o → ⊥) → In x p → In x p') where
    pub deleted_there : deleted_at (change_head (with_deleted true) o w) o ≡ true
    deleted_there = eq-eqb _ 1 (ap deleted_of (head_put w o (with_deleted true) head_room) ∙ deleted_put (head_at w o))

    removed_change : Change v w (change_head (with_deleted true) o w) cs (less (tier_at w o) cs) g (g + size_at w o) ts ts p p' o
    removed_change =
        let u = change_head (with_deleted true) o w in
        record {
          edit = set_edit w o (o + 1) (with_deleted true (head_at w o)) (omega arith) (omega arith);
          sound = λ d. absurd (true≢false (sym deleted_there ∙ d));
          counts = less_counts u deleted_there;
          garbage = let a = words_live w o live in let b = words_gone u o deleted_there in omega arith;
          mine = λ d. absurd (true≢false (sym deleted_there ∙ d));
          others = λ t x h n. n;
          still = still;
          entries = λ t x h n. inl n;
          four_counts = length_less cs (tier_at w o);
          four_lists_lem = refl;
          long = length-set w (o + 1) (with_deleted true (head_at w o));
        }

    pub removed_store : Store v (change_head (with_deleted true) o w) used l (less (tier_at w o) cs) (g + size_at w o) ts p'
    removed_store = changed S m live removed_change

    pub removed_quiet : Quiet w l → Quiet (change_head (with_deleted true) o w) l
    removed_quiet = quiet_frame S m removed_change.edit (λ d. absurd (true≢false (sym deleted_there ∙ d)))

    -- where the clause is no reason
    pub removed_reasons : (s : Side) → ((j : ℕ) → j < length s.trail → kind_of s (at s.trail j) ≡ 3 → reason_word s (at s.trail j) ≡ o → ⊥) → Reasons w l s → Reasons (change_head (with_deleted true) o w) l s
    removed_reasons s none = reasons_frame S m removed_change.edit s (λ j k q e. absurd (none j k q e))

  -- word 1 is changed and the clause stays live, with its tier
  module _ (f : ℕ → ℕ) (plain : Plain (head_at w o) (f (head_at w o))) (same : deleted_of (f (head_at w o)) ≡ deleted_of (head_at w o)) where
    abbrev u : List ℕ
    u = change_head f o w

    pub still_live : deleted_at u o ≡ false
    still_live = ap (λ (n : ℕ). eqb (deleted_of n) 1) (head_put w o f head_room) ∙ ap (λ (n : ℕ). eqb n 1) same ∙ live

    pub head_quiet : Quiet w l → Quiet u l
    head_quiet q = quiet_frame S m (set_edit w o (o + 1) (f (head_at w o)) (omega arith) (omega arith)) (λ d. rw (at_other w (o + 1) (f (head_at w o)) o (λ z. omega arith)) (q o m live)) q

    pub head_reasons : (s : Side) → Reasons w l s → Reasons u l s
    head_reasons s r = reasons_frame S m (set_edit w o (o + 1) (f (head_at w o)) (omega arith) (omega arith)) s (λ j k q e.
        subst (λ (z : ℕ). ReasonIn u l s.values (at s.trail j) z) (sym e)
        (reason_set w l s.values o (o + 1) (f (head_at w o)) (at s.trail j) (omega arith) (omega arith) still_live (subst (λ (z : ℕ). ReasonIn w l s.values (at s.trail j) z) e (r j k q)))) r

    live_size_lem : live_words u o ≡ live_words w o
    live_size_lem = words_live u o still_live ∙ ap (λ (n : ℕ). n + 3) (head_len w o f head_room) ∙ sym (words_live w o live)

    -- the tier stays
    module _ (tier : tier_of (f (head_at w o)) ≡ tier_of (head_at w o)) (glue : tier_at w o ≡ 0 → glue_of (f (head_at w o)) ≡ 0) where
      pub same_tier : tier_at u o ≡ tier_at w o
      same_tier = ap tier_of (head_put w o f head_room) ∙ tier

      same_count : (t : ℕ) → in_tier_lem u t o ≡ in_tier_lem w t o
      unfolding in_tier_lem
      same_count t = ap₂ (λ (a : Bool) (b : ℕ). one (not a && eqb b t)) (still_live ∙ sym live) same_tier

      pub head_store : Store v u used l cs g ts p
      head_store = changed S m live (record {
        edit = set_edit w o (o + 1) (f (head_at w o)) (omega arith) (omega arith);
        sound = λ d. head_sound w o f head_room v (S.clause o m live) plain (λ z. glue (sym tier ∙ z));
        counts = λ t h. let e = same_count t in omega arith;
        garbage = let e = live_size_lem in omega arith;
        mine = λ d. subst (λ (t : ℕ). In o (list_at ts t) ⊎ In o p) (sym same_tier) (S.covered o m live);
        others = λ t x h n. n;
        still = λ x e n. n;
        entries = λ t x h n. inl n;
        four_counts = refl;
        four_lists_lem = refl;
        long = length-set w (o + 1) (f (head_at w o));
      })

  -- the tier becomes t
  module _ (t : ℕ) (h : t < 4) (other : tier_at w o ≡ t → ⊥) (glue : t ≡ 0 → glue_of (head_at w o) ≡ 0) (p' : List ℕ) (still : (x : ℕ) → (x ≡ o → ⊥) → In x p → In x p') where
    abbrev moved : List ℕ
    moved = change_head (with_tier t) o w

    moved_live : deleted_at moved o ≡ false
    moved_live = still_live (with_tier t) (tier_plain (head_at w o) t h) (tier_deleted (head_at w o) t h)

    moved_tier : tier_at moved o ≡ t
    moved_tier = ap tier_of (head_put w o (with_tier t) head_room) ∙ tier_put (head_at w o) t h

    moved_counts : (k : ℕ) → k < 4 → at (more t (less (tier_at w o) cs)) k + in_tier_lem w k o ≡ at cs k + in_tier_lem moved k o
    moved_counts k b = go (ℕ_discrete k t) (ℕ_discrete k (tier_at w o))
      where
        go : Dec (k ≡ t) → Dec (k ≡ tier_at w o) → at (more t (less (tier_at w o) cs)) k + in_tier_lem w k o ≡ at cs k + in_tier_lem moved k o
        go (yes e) (yes f) = absurd (other (sym f ∙ e))
        go (yes e) (no f) = subst (λ (z : ℕ). at (more t (less (tier_at w o) cs)) z + in_tier_lem w z o ≡ at cs z + in_tier_lem moved z o) (sym e)
            (let a = more_here (less (tier_at w o) cs) t (let q = length_less cs (tier_at w o) in let r = S.four_counts in omega arith) in
            let c = less_other cs (tier_at w o) t (λ q. other (sym q)) in
            let d = in_tier_no w t o live other in
            let n : in_tier_lem moved t o ≡ 1 = subst (λ (z : ℕ). in_tier_lem moved z o ≡ 1) moved_tier (in_tier_yes moved o moved_live) in
            omega arith)
        go (no e) (yes f) = subst (λ (z : ℕ). at (more t (less (tier_at w o) cs)) z + in_tier_lem w z o ≡ at cs z + in_tier_lem moved z o) (sym f)
            (let a = more_other (less (tier_at w o) cs) t (tier_at w o) other in
            let c = less_here cs (tier_at w o) (let q = S.four_counts in omega arith) in
            let d = in_tier_yes w o live in
            let n = in_tier_no moved (tier_at w o) o moved_live (λ q. other (sym q ∙ moved_tier)) in
            let z = counted in
            omega arith)
        go (no e) (no f) =
            let a = more_other (less (tier_at w o) cs) t k e in
            let c = less_other cs (tier_at w o) k f in
            let d = in_tier_no w k o live (λ q. f (sym q)) in
            let n = in_tier_no moved k o moved_live (λ q. e (sym q ∙ moved_tier)) in
            omega arith

    pub moved_store : Store v moved used l (more t (less (tier_at w o) cs)) g (push t o ts) p'
    moved_store =
        let room : t < length ts = let q = S.four_lists_lem in omega arith in
        changed S m live (record {
          edit = set_edit w o (o + 1) (with_tier t (head_at w o)) (omega arith) (omega arith);
          sound = λ d. head_sound w o (with_tier t) head_room v (S.clause o m live) (tier_plain (head_at w o) t h) (λ z. tier_glue (head_at w o) t h ∙ glue (sym (tier_put (head_at w o) t h) ∙ z));
          counts = moved_counts;
          garbage = let e = live_size_lem (with_tier t) (tier_plain (head_at w o) t h) (tier_deleted (head_at w o) t h) in omega arith;
          mine = λ d. inl (subst (λ (z : ℕ). In o (list_at (push t o ts) z)) (sym moved_tier) (in_pushed ts t o room));
          others = λ k x b n. in_push ts t o room k x n;
          still = still;
          entries = λ k x b n. push_cases ts t o room k x n;
          four_counts = length_more (less (tier_at w o) cs) t ∙ length_less cs (tier_at w o);
          four_lists_lem = length_push ts t o;
          long = length-set w (o + 1) (with_tier t (head_at w o));
        })

  -- the activity becomes x
  module _ (x : ℕ) where
    abbrev raised : List ℕ
    raised = set w o x

    raised_head : head_at raised o ≡ head_at w o
    raised_head = at_other w o x (o + 1) (λ q. omega arith)

    raised_len : len_at raised o ≡ len_at w o
    raised_len = at_other w o x (o + 2) (λ q. omega arith)

    pub raised_live : deleted_at raised o ≡ false
    raised_live = rw raised_head live

    raised_sound : Sound w v o → Sound raised v o
    raised_sound c = record {
      three = let e = raised_len in let q = c.three in omega arith;
      most = let e = raised_len in let q = c.most in omega arith;
      lits = lits_set w v o o x (omega arith) (omega arith) c.lits;
      mark = rw raised_head c.mark;
      spare = rw raised_head c.spare;
      glue = rw raised_head c.glue;
    }

    raised_count : (t : ℕ) → in_tier_lem raised t o ≡ in_tier_lem w t o
    unfolding in_tier_lem
    raised_count t = rw raised_head

    raised_size : live_words raised o ≡ live_words w o
    unfolding live_words
    raised_size = rw (raised_head, raised_len)

    pub raised_store : Store v raised used l cs g ts p
    raised_store = changed S m live (record {
      edit = set_edit w o o x (omega arith) (omega arith);
      sound = λ d. raised_sound (S.clause o m live);
      counts = λ t h. let e = raised_count t in omega arith;
      garbage = let e = raised_size in omega arith;
      mine = λ d. rw raised_head (S.covered o m live);
      others = λ t y h n. n;
      still = λ y e n. n;
      entries = λ t y h n. inl n;
      four_counts = refl;
      four_lists_lem = refl;
      long = length-set w o x;
    })

    pub raised_reasons : (s : Side) → Reasons w l s → Reasons raised l s
    raised_reasons s r = reasons_frame S m (set_edit w o o x (omega arith) (omega arith)) s (λ j k q e.
        subst (λ (z : ℕ). ReasonIn raised l s.values (at s.trail j) z) (sym e)
        (reason_set w l s.values o o x (at s.trail j) (omega arith) (omega arith) raised_live (subst (λ (z : ℕ). ReasonIn w l s.values (at s.trail j) z) e (r j k q)))) r
