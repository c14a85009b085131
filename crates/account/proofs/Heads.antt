-- Changes of headers alone (activity, active, glue, tiers): the same clauses are held. Assumes nothing.
use mathlib.Core.Path.{◌≡◌, refl, sym, ◌∙◌, subst}
use mathlib.Core.Bool.{true}
use mathlib.Core.Logic.{⊎_elim, ◌⊎◌, inl, inr}
use mathlib.Core.List.{List, [], ◌∷◌}
use Prim.Native.Nat.{ℕ, ◌+◌, ◌≤◌, ◌<◌}
use native.Mathlib.Omega.{arith}
use native.Mathlib.Decide.{ℕ_discrete}
use lib.ListN.{length, length-set}
use lib.Dec.{eqb}
use lib.Seq.{get_or-set_same, get_or-set_other}
use Rattle.laws.specs.Lists.{at, elem}
use Rattle.laws.proofs.Writing.{read_n_same}
use Rattle.laws.proofs.Entries.{elem_none, elem_here, elem_later, elem_cases}
use Rattle.kinds.specs.Header.{tier_of, deleted_of}
use Rattle.kinds.specs.Clauses.{Clause, head_at, len_at, lits_at, end_at, deleted_at, original_at, change_head, longs}
use Rattle.kinds.specs.Held.{Held}
use Rattle.demands.specs.Runs.{all_held}
use Rattle.account.specs.Weights.{total, Chain, Chained}
use Rattle.account.proofs.Chains.{chain_le}
use Rattle.account.proofs.Moves.{Moves, quiet}

-- ---- listed clauses are apart

pub chain_above : (lo hi : ℕ) (ws os : List ℕ) → Chain lo hi ws os → (o : ℕ) → elem o os ≡ true → (lo ≤ o) × (end_at ws o ≤ hi)
chain_above lo hi ws [] c o e = absurd (elem_none o e)
chain_above lo hi ws (x ∷ os) (h, k) o e =
    ⊎_elim
    (λ q. let l = chain_le _ hi ws os k in (omega arith, subst (λ (y : ℕ). end_at ws y ≤ hi) (sym q) l))
    (λ q. let r = chain_above (end_at ws x) hi ws os k o q in (omega (arith, r.0), r.1))
    (elem_cases o x os e)

pub chain_apart : (lo hi : ℕ) (ws os : List ℕ) → Chain lo hi ws os → (o p : ℕ) → elem o os ≡ true → elem p os ≡ true → (o ≡ p) ⊎ ((end_at ws o ≤ p) ⊎ (end_at ws p ≤ o))
chain_apart lo hi ws [] c o p e f = absurd (elem_none o e)
chain_apart lo hi ws (x ∷ os) (h, k) o p e f =
    ⊎_elim
    (λ q. ⊎_elim
    (λ r. inl (q ∙ sym r))
    (λ r. inr (inl (subst (λ (y : ℕ). end_at ws y ≤ p) (sym q) (chain_above _ hi ws os k p r).0)))
    (elem_cases p x os f))
    (λ q. ⊎_elim
    (λ r. inr (inr (subst (λ (y : ℕ). end_at ws y ≤ o) (sym r) (chain_above _ hi ws os k o q).0)))
    (λ r. chain_apart (end_at ws x) hi ws os k o p q r)
    (elem_cases p x os f))
    (elem_cases o x os e)

-- ---- words that hold the same clauses at os: the literals' words, the deleted bit and the class are the same
pub record Alike (os ws vs : List ℕ) : Type 0 where
  pub size : length vs ≡ length ws
  pub bodies : (o : ℕ) → elem o os ≡ true → (j : ℕ) → o + 2 ≤ j → j < end_at ws o → at ws j ≡ at vs j
  pub deleted : (o : ℕ) → elem o os ≡ true → deleted_at vs o ≡ deleted_at ws o
  pub original : (o : ℕ) → elem o os ≡ true → original_at vs o ≡ original_at ws o

pub alike_refl : (os ws : List ℕ) → Alike os ws ws
alike_refl os ws = record { size = refl; bodies = λ o e j h k. refl; deleted = λ o e. refl; original = λ o e. refl }

module _ (os ws vs : List ℕ) (a : Alike os ws vs) where
  pub alike_len : (o : ℕ) → elem o os ≡ true → len_at vs o ≡ len_at ws o
  alike_len o e = sym (a.bodies o e (o + 2) (omega arith) (omega arith))

  pub alike_lits : (o : ℕ) → elem o os ≡ true → lits_at vs o ≡ lits_at ws o
  alike_lits o e = rw (alike_len o e) (sym (read_n_same ws vs (o + 3) (len_at ws o) (λ i h k. a.bodies o e i (omega arith) (omega arith))))

pub alike_trans : (os ws vs us : List ℕ) → Alike os ws vs → Alike os vs us → Alike os ws us
alike_trans os ws vs us a b = record {
  size = b.size ∙ a.size;
  bodies = λ o e j h k. a.bodies o e j h k ∙ b.bodies o e j h (let l = alike_len os ws vs a o e in omega arith);
  deleted = λ o e. b.deleted o e ∙ a.deleted o e;
  original = λ o e. b.original o e ∙ a.original o e;
}

pub alike_later : (o : ℕ) (os ws vs : List ℕ) → Alike (o ∷ os) ws vs → Alike os ws vs
alike_later o os ws vs a = record {
  size = a.size;
  bodies = λ x e. a.bodies x (elem_later x o os e);
  deleted = λ x e. a.deleted x (elem_later x o os e);
  original = λ x e. a.original x (elem_later x o os e);
}

pub alike_longs : (os ws vs : List ℕ) → Alike os ws vs → longs vs os ≡ longs ws os
unfolding longs
alike_longs [] ws vs a = refl
alike_longs (o ∷ os) ws vs a =
    let e = elem_here o os in
    rw (a.deleted o e, a.original o e, alike_lits (o ∷ os) ws vs a o e, alike_longs os ws vs (alike_later o os ws vs a))

pub alike_chain : (lo hi : ℕ) (os ws vs : List ℕ) → Alike os ws vs → Chain lo hi ws os → Chain lo hi vs os
alike_chain lo hi [] ws vs a c = c
alike_chain lo hi (o ∷ os) ws vs a (h, k) = (h, rw (alike_len (o ∷ os) ws vs a o (elem_here o os)) (alike_chain (end_at ws o) hi os ws vs (alike_later o os ws vs a) k))

-- ---- a new word 1 with the same deleted bit and class
module _ (hi : ℕ) (os ws : List ℕ) (c : Chain 0 hi ws os) (room : hi ≤ length ws) (p : ℕ) (listed : elem p os ≡ true) where
  inside : p + 3 ≤ length ws
  inside = let h = chain_above 0 hi ws os c p listed in omega (arith, h.1)

  -- listed clauses do not meet the words 0 and 1 of p's
  away : (o : ℕ) → elem o os ≡ true → (o ≡ p → ⊥) → (j : ℕ) → o ≤ j → j < end_at ws o → (j ≡ p → ⊥) × (j ≡ p + 1 → ⊥)
  away o e n j h k =
      ⊎_elim
      (λ q. absurd (n q))
      (λ q. ⊎_elim
      (λ r. ((λ z. omega arith), (λ z. omega arith)))
      (λ r. ((λ z. omega arith), (λ z. omega arith)))
      q)
      (chain_apart 0 hi ws os c o p e listed)

  module _ (f : ℕ → ℕ) (bit : eqb (deleted_of (f (head_at ws p))) 1 ≡ deleted_at ws p) (class : eqb (tier_of (f (head_at ws p))) 0 ≡ original_at ws p) where
    abbrev changed : List ℕ
    changed = change_head f p ws

    changed_head : head_at changed p ≡ f (head_at ws p)
    changed_head = get_or-set_same ws (p + 1) (f (head_at ws p)) 0 (omega (arith, inside))

    other_head : (o : ℕ) → (o ≡ p → ⊥) → head_at changed o ≡ head_at ws o
    other_head o n = get_or-set_other ws (p + 1) (o + 1) (f (head_at ws p)) 0 (λ z. n (omega arith))

    pub head_alike : Alike os ws changed
    head_alike = record {
      size = length-set ws (p + 1) (f (head_at ws p));
      bodies = λ o e j h k. sym (get_or-set_other ws (p + 1) j (f (head_at ws p)) 0 (go o e j h k (ℕ_discrete o p)));
      deleted = λ o e. bits o (ℕ_discrete o p);
      original = λ o e. classes o (ℕ_discrete o p);
    }
      where
        go : (o : ℕ) → elem o os ≡ true → (j : ℕ) → o + 2 ≤ j → j < end_at ws o → Dec (o ≡ p) → j ≡ p + 1 → ⊥
        go o e j h k (yes q) = λ z. omega arith
        go o e j h k (no n) = (away o e n j (omega arith) k).1

        bits : (o : ℕ) → Dec (o ≡ p) → deleted_at changed o ≡ deleted_at ws o
        bits o (yes q) = rw (q, changed_head) bit
        bits o (no n) = rw (other_head o n)

        classes : (o : ℕ) → Dec (o ≡ p) → original_at changed o ≡ original_at ws o
        classes o (yes q) = rw (q, changed_head) class
        classes o (no n) = rw (other_head o n)

-- ---- steps that change neither the clauses held nor the record

pub record Unmoved (s t : Held) : Type 0 where
  pub used : t.used ≡ s.used
  pub clauses : t.clauses ≡ s.clauses
  pub rows : t.rows ≡ s.rows
  pub rec : t.rec ≡ s.rec
  pub alike : Alike s.clauses s.words t.words

pub unmoved_refl : (s : Held) → Unmoved s s
unmoved_refl s = record { used = refl; clauses = refl; rows = refl; rec = refl; alike = alike_refl s.clauses s.words }

pub unmoved_trans : (s t u : Held) → Unmoved s t → Unmoved t u → Unmoved s u
unmoved_trans s t u a b = record {
  used = b.used ∙ a.used;
  clauses = b.clauses ∙ a.clauses;
  rows = b.rows ∙ a.rows;
  rec = b.rec ∙ a.rec;
  alike = alike_trans s.clauses s.words t.words u.words a.alike (subst (λ (os : List ℕ). Alike os t.words u.words) a.clauses b.alike);
}

pub unmoved_chained : (s t : Held) → Chained s → Unmoved s t → Chained t
unmoved_chained s t c u = record {
  chain = rw (u.used, u.clauses) (alike_chain 0 s.used s.clauses s.words t.words u.alike c.chain);
  room = rw (u.used, u.alike.size) c.room;
}

pub unmoved_held : (s t : Held) → Unmoved s t → all_held t ≡ all_held s
unfolding all_held
unmoved_held s t u = rw (u.clauses, u.rows, alike_longs s.clauses s.words t.words u.alike)

pub unmoved_moves : (w : Clause → ℕ) (a : List ℕ) (s t : Held) → Chained s → Unmoved s t → Moves w a [] s t
unmoved_moves w a s t c u = quiet w a [] s t (unmoved_chained s t c u) u.rec (rw (unmoved_held s t u) (unfold total in omega arith))
