-- Marking the first of each entry, and taking the marks away again. Assumes nothing.
use mathlib.Core.Path.{◌≡◌, refl, sym, ap, ap₂, ◌∙◌, subst}
use mathlib.Core.Bool.{Bool, true, false, cond, not, ◌||◌}
use mathlib.Core.List.{List, [], ◌∷◌, ◌++◌}
use Prim.Native.Nat.{ℕ, zero, suc, ◌+◌, ◌*◌, ◌-◌, ◌/◌, ◌%◌, ◌≤◌, ◌<◌}
use native.Mathlib.Decide.{ℕ_discrete}
use native.Mathlib.Numerals.{add-one}
use native.Mathlib.Omega.{arith}
use lib.Dec.{eqb}
use lib.ListN.{length, get_or, set, take, drop, length-set, drop_of_length-le}
use lib.Seq.{drop-cons, get_or-set_same, get_or-set_other, take-suc-set, drop-set-lt, ext_get_or}
use borrow.Author.Tests.{eq-eqb, ne_eqb, eqb-true, eqb-false}
use Rattle.laws.specs.Fold.{fold_list}
use Rattle.laws.specs.Lists.{elem, snoc}
use Rattle.laws.specs.Counts.{count, is}
use Rattle.laws.proofs.Sorting.{count_nil, count_cons, count_append, count_at, is_same, is_other}
use Rattle.laws.proofs.Folds.{or_left, or_right, or_neither}
use Rattle.laws.proofs.Entries.{elem_counted}
use Rattle.laws.proofs.Tables.{count_in}
use Rattle.laws.proofs.Walks.{drop_more, at_more, walk_next, walk_none, count_split}
use Rattle.kinds.specs.Header.{deleted_of, with_mark}
use Rattle.kinds.specs.Clauses.{head_at, tier_at, deleted_at}
use Rattle.calls.specs.Reducing.{stale, kept_first}
use Rattle.dedup.specs.Marks.{Entry, Entries, Marked, Unmarkable}

count_snoc : (v r : ℕ) (l : List ℕ) → count v (l ++ r ∷ []) ≡ count v l + is r v
count_snoc v r l = omega (arith, count_append v l (r ∷ []), count_cons v r [], count_nil v)

-- a store at the word 1 of r, read at the word 1 of v
set_same : (ws : List ℕ) (r x v : ℕ) → r + 1 < length ws → v ≡ r → get_or (set ws (r + 1) x) (v + 1) 0 ≡ x
set_same ws r x v h e = rw e (get_or-set_same ws (r + 1) x 0 h)

set_other : (ws : List ℕ) (r x v : ℕ) → (v ≡ r → ⊥) → get_or (set ws (r + 1) x) (v + 1) 0 ≡ get_or ws (v + 1) 0
set_other ws r x v n = get_or-set_other ws (r + 1) (v + 1) x 0 (λ e. n (omega arith))

set_first : (ws : List ℕ) (r x : ℕ) → get_or (set ws (r + 1) x) 0 0 ≡ get_or ws 0 0
set_first ws r x = get_or-set_other ws (r + 1) 0 x 0 (λ e. omega arith)

mark_more : (l ws₀ ws : List ℕ) (r : ℕ) → Marked l ws₀ ws → r + 1 < length ws → Marked (l ++ r ∷ []) ws₀ (set ws (r + 1) (get_or ws (r + 1) 0 + 8))
mark_more l ws₀ ws r M h = record {
  first = set_first ws r (get_or ws (r + 1) 0 + 8) ∙ M.first;
  rest = λ v. go v (ℕ_discrete v r);
}
  where
    go : (v : ℕ) → Dec (v ≡ r) → get_or (set ws (r + 1) (get_or ws (r + 1) 0 + 8)) (v + 1) 0 ≡ get_or ws₀ (v + 1) 0 + 8 * count v (l ++ r ∷ [])
    go v (yes e) = omega (arith, set_same ws r (get_or ws (r + 1) 0 + 8) v h e, M.rest v, count_snoc v r l, is_same r v (sym e), ap (λ (x : ℕ). get_or ws (x + 1) 0) e)
    go v (no n) = omega (arith, set_other ws r (get_or ws (r + 1) 0 + 8) v n, M.rest v, count_snoc v r l, is_other r v (λ q. n (sym q)))

-- bits 0 to 2 of word 1 say whether an entry is stale
stale_low : (ws : List ℕ) (t r : ℕ) → t < 4 → get_or ws (r + 1) 0 % 8 ≡ t → stale ws t r ≡ false
stale_low ws t r s e = ap₂ (λ (a b : Bool). a || not b) (ne_eqb (deleted_of (head_at ws r)) 1 (λ q. omega arith)) (eq-eqb (tier_at ws r) t (omega arith))

stale_high : (ws : List ℕ) (t r : ℕ) → t < 4 → (get_or ws (r + 1) 0 % 8 ≡ t → ⊥) → stale ws t r ≡ true
stale_high ws t r s n = go (ℕ_discrete (deleted_of (head_at ws r)) 1) (ℕ_discrete (tier_at ws r) t)
  where
    go : Dec (deleted_of (head_at ws r) ≡ 1) → Dec (tier_at ws r ≡ t) → stale ws t r ≡ true
    go (yes d) e = or_left _ _ (eq-eqb (deleted_of (head_at ws r)) 1 d)
    go (no d) (yes e) = absurd (n (omega arith))
    go (no d) (no e) = or_right (deleted_at ws r) _ (ap not (ne_eqb (tier_at ws r) t e))

not_seen : (r : ℕ) (l : List ℕ) → count r l ≡ 0 → elem r l ≡ false
not_seen r l e = go (elem r l) refl
  where
    go : (b : Bool) → elem r l ≡ b → b ≡ false
    go true q = absurd (let z = elem_counted r l q in omega arith)
    go false q = refl

is_seen : (r : ℕ) (l : List ℕ) → (count r l ≡ 0 → ⊥) → elem r l ≡ true
is_seen r l n = count_in r l (positive (count r l) n)
  where
    positive : (m : ℕ) → (m ≡ 0 → ⊥) → 0 < m
    positive zero p = absurd (p refl)
    positive (suc m) p = omega arith

keeps : (ws : List ℕ) (t : ℕ) (seen : List ℕ) (r : ℕ) → t < 4 → get_or ws (r + 1) 0 % 8 ≡ t → count r seen ≡ 0 → kept_first ws t seen r ≡ seen ++ r ∷ []
unfolding kept_first
keeps ws t seen r s p q = ap (λ (b : Bool). cond b seen (snoc seen r)) (or_neither (stale ws t r) (elem r seen) (stale_low ws t r s p) (not_seen r seen q))

drops : (ws : List ℕ) (t : ℕ) (seen : List ℕ) (r : ℕ) → t < 4 → (get_or ws (r + 1) 0 % 8 ≡ t → count r seen ≡ 0 → ⊥) → kept_first ws t seen r ≡ seen
unfolding kept_first
drops ws t seen r s f = ap (λ (b : Bool). cond b seen (snoc seen r)) (go (ℕ_discrete (get_or ws (r + 1) 0 % 8) t) (ℕ_discrete (count r seen) 0))
  where
    go : Dec (get_or ws (r + 1) 0 % 8 ≡ t) → Dec (count r seen ≡ 0) → stale ws t r || elem r seen ≡ true
    go (yes p) (yes q) = absurd (f p q)
    go (yes p) (no q) = or_right (stale ws t r) _ (is_seen r seen q)
    go (no p) q = or_left _ _ (stale_high ws t r s p)

-- the mark set where it was not, and taken away where it was
marks : (w t : ℕ) → t < 4 → w % 16 ≡ t → with_mark true w ≡ w + 8
marks w t h e = omega arith

pub unmarks : (w : ℕ) → w / 8 % 2 ≡ 1 → with_mark false w ≡ w - 8
unmarks w e = omega arith

pub record Marking (t : ℕ) (ws₀ l₀ ws l : List ℕ) (i k : ℕ) : Type 0 where
  pub k_le : k ≤ i
  pub w_len : length ws ≡ length ws₀
  pub l_len : length l ≡ length l₀
  pub l_rest : drop i l ≡ drop i l₀
  pub done : fold_list (kept_first ws₀ t) (take k l) (drop i l₀) ≡ fold_list (kept_first ws₀ t) [] l₀
  pub marked : Marked (take k l) ws₀ ws
  pub once : (r : ℕ) → count r (take k l) ≤ 1
  pub within : (r : ℕ) → 0 < count r (take k l) → r + 1 < length ws₀
  pub bit : (r : ℕ) → 0 < count r (take k l) → get_or ws (r + 1) 0 / 8 % 2 ≡ 1

pub mark_start : (t : ℕ) (ws l : List ℕ) → Marking t ws l ws l 0 0
mark_start t ws l = record {
  k_le = omega arith;
  w_len = refl;
  l_len = refl;
  l_rest = refl;
  done = refl;
  marked = record { first = refl; rest = λ r. omega (arith, count_nil r) };
  once = λ r. omega (arith, count_nil r);
  within = λ r p. absurd (omega (arith, count_nil r));
  bit = λ r p. absurd (omega (arith, count_nil r));
}

module _ (t : ℕ) (ws₀ l₀ ws l : List ℕ) (i k : ℕ) (small : t < 4) (E : Entries ws₀ t l₀) (I : Marking t ws₀ l₀ ws l i k) (lt : i < length l₀) where
  abbrev r : ℕ
  r = get_or l i 0

  same : get_or l₀ i 0 ≡ r
  same = sym (at_more i i l l₀ (omega arith) I.l_rest)

  next : drop i l₀ ≡ r ∷ drop (i + 1) l₀
  next = rw (add-one, ← same, drop-cons l₀ i 0 lt)

  entry : Entry ws₀ t r
  entry = subst (Entry ws₀ t) same (E i lt)

  pub in_words : r + 1 < length ws
  in_words = omega (arith, entry.within, I.w_len)

  done_with : (kept : List ℕ) → kept ≡ kept_first ws₀ t (take k l) r → fold_list (kept_first ws₀ t) kept (drop (i + 1) l₀) ≡ fold_list (kept_first ws₀ t) [] l₀
  done_with kept e =
      ap (λ (x : List ℕ). fold_list (kept_first ws₀ t) x (drop (i + 1) l₀)) e
      ∙ sym (ap (fold_list (kept_first ws₀ t) (take k l)) next ∙ walk_next (kept_first ws₀ t) (take k l) r (drop (i + 1) l₀))
      ∙ I.done

  module _ (kept : eqb (get_or ws (r + 1) 0 % 16) t ≡ true) where
    low : get_or ws (r + 1) 0 % 16 ≡ t
    low = eqb-true _ t kept

    in_tier : get_or ws₀ (r + 1) 0 % 8 ≡ t
    in_tier = omega (arith, I.marked.rest r, low)

    new : count r (take k l) ≡ 0
    new = omega (arith, low, I.marked.rest r, I.once r, entry.plain in_tier)

    longer : take (k + 1) (set l k r) ≡ take k l ++ r ∷ []
    longer = ap (λ (m : ℕ). take m (set l k r)) (add-one k) ∙ take-suc-set l k r (omega (arith, I.k_le, I.l_len))

    once_more : (v : ℕ) → Dec (r ≡ v) → count v (take k l ++ r ∷ []) ≤ 1
    once_more v (yes e) = omega (arith, count_snoc v r (take k l), is_same r v e, new, ap (λ (x : ℕ). count x (take k l)) e)
    once_more v (no d) = omega (arith, count_snoc v r (take k l), is_other r v d, I.once v)

    within_more : (v : ℕ) → Dec (r ≡ v) → 0 < count v (take k l ++ r ∷ []) → v + 1 < length ws₀
    within_more v (yes e) p = omega (arith, entry.within)
    within_more v (no d) p = I.within v (omega (arith, count_snoc v r (take k l), is_other r v d))

    bit_more : (v : ℕ) → Dec (r ≡ v) → 0 < count v (take k l ++ r ∷ []) → get_or (set ws (r + 1) (get_or ws (r + 1) 0 + 8)) (v + 1) 0 / 8 % 2 ≡ 1
    bit_more v (yes e) p = let z = set_same ws r (get_or ws (r + 1) 0 + 8) v (omega (arith, entry.within, I.w_len)) (sym e) in omega (arith, low)
    bit_more v (no d) p = let z = set_other ws r (get_or ws (r + 1) 0 + 8) v (λ q. d (sym q)) in let y = I.bit v (omega (arith, count_snoc v r (take k l), is_other r v d)) in omega arith

    pub mark_keep : (w : ℕ) → w ≡ with_mark true (get_or ws (r + 1) 0) → Marking t ws₀ l₀ (set ws (r + 1) w) (set l k r) (i + 1) (k + 1)
    mark_keep w e = rw (e, marks (get_or ws (r + 1) 0) t small low) (record {
      k_le = omega (arith, I.k_le);
      w_len = length-set ws (r + 1) (get_or ws (r + 1) 0 + 8) ∙ I.w_len;
      l_len = length-set l k r ∙ I.l_len;
      l_rest = drop-set-lt (i + 1) l k r (omega (arith, I.k_le)) ∙ drop_more i (i + 1) l l₀ (omega arith) I.l_rest;
      done = done_with _ (longer ∙ sym (keeps ws₀ t (take k l) r small in_tier new));
      marked = rw longer (mark_more (take k l) ws₀ ws r I.marked (omega (arith, entry.within, I.w_len)));
      once = λ v. rw longer (once_more v (ℕ_discrete r v));
      within = λ v p. within_more v (ℕ_discrete r v) (rw longer at p);
      bit = λ v p. bit_more v (ℕ_discrete r v) (rw longer at p);
    })

  pub mark_skip : eqb (get_or ws (r + 1) 0 % 16) t ≡ false → Marking t ws₀ l₀ ws l (i + 1) k
  mark_skip high = record {
    k_le = omega (arith, I.k_le);
    w_len = I.w_len;
    l_len = I.l_len;
    l_rest = drop_more i (i + 1) l l₀ (omega arith) I.l_rest;
    done = done_with _ (sym (drops ws₀ t (take k l) r small (λ p q. eqb-false _ t high (omega (arith, I.marked.rest r, entry.plain p)))));
    marked = I.marked;
    once = I.once;
    within = I.within;
    bit = I.bit;
  }

pub mark_end : (t : ℕ) (ws₀ l₀ ws l : List ℕ) (i k : ℕ) → Marking t ws₀ l₀ ws l i k → length l₀ ≤ i → take k l ≡ fold_list (kept_first ws₀ t) [] l₀
mark_end t ws₀ l₀ ws l i k I end = sym (ap (fold_list (kept_first ws₀ t) (take k l)) (drop_of_length-le l₀ {i = i} end) ∙ walk_none (kept_first ws₀ t) (take k l)) ∙ I.done

pub mark_after : (t : ℕ) (ws₀ l₀ ws l : List ℕ) (i k : ℕ) → Marking t ws₀ l₀ ws l i k → Unmarkable (take k l) ws
mark_after t ws₀ l₀ ws l i k I = record {
  within = λ j h. omega (arith, I.within (get_or (take k l) j 0) (count_at (take k l) j h), I.w_len);
  set = λ r p. I.bit r p;
  once = I.once;
}

-- taking the marks away
pub record Unmarking (l W ws : List ℕ) (i : ℕ) : Type 0 where
  pub len : length ws ≡ length W
  pub first : get_or ws 0 0 ≡ get_or W 0 0
  pub rest : (r : ℕ) → get_or ws (r + 1) 0 + 8 * count r l ≡ get_or W (r + 1) 0 + 8 * count r (drop i l)

module _ (l W ws : List ℕ) (i : ℕ) (U : Unmarkable l W) (I : Unmarking l W ws i) (lt : i < length l) where
  abbrev at : ℕ
  at = get_or l i 0

  left : (v : ℕ) → count v (drop i l) ≡ is at v + count v (drop (i + 1) l)
  left v = rw (add-one, drop-cons l i 0 lt) (count_cons v at (drop (suc i) l))

  pub at_within : at + 1 < length ws
  at_within = omega (arith, U.within i lt, I.len)

  -- its mark is still there
  pub at_marked : get_or ws (at + 1) 0 / 8 % 2 ≡ 1
  at_marked =
      let one : 0 < count at l = omega (arith, count_split at i l, left at, is_same at at refl) in
      let bit = U.set at one in
      let same : get_or ws (at + 1) 0 ≡ get_or W (at + 1) 0 = omega (arith, I.rest at, U.once at, count_split at i l, left at, is_same at at refl) in
      omega arith

  pub unmark_step : (w : ℕ) → w ≡ with_mark false (get_or ws (at + 1) 0) → Unmarking l W (set ws (at + 1) w) (i + 1)
  unmark_step w e = rw (e, unmarks (get_or ws (at + 1) 0) at_marked) (record {
    len = length-set ws (at + 1) (get_or ws (at + 1) 0 - 8) ∙ I.len;
    first = set_first ws at (get_or ws (at + 1) 0 - 8) ∙ I.first;
    rest = λ v. go v (ℕ_discrete v at);
  })
    where
      go : (v : ℕ) → Dec (v ≡ at) → get_or (set ws (at + 1) (get_or ws (at + 1) 0 - 8)) (v + 1) 0 + 8 * count v l ≡ get_or W (v + 1) 0 + 8 * count v (drop (i + 1) l)
      go v (yes e) = omega (arith, set_same ws at (get_or ws (at + 1) 0 - 8) v at_within e, I.rest v, left v, is_same at v (sym e), at_marked, ap (λ (x : ℕ). get_or ws (x + 1) 0) e)
      go v (no n) = omega (arith, set_other ws at (get_or ws (at + 1) 0 - 8) v n, I.rest v, left v, is_other at v (λ q. n (sym q)))

pub unmark_end : (l W ws : List ℕ) (i : ℕ) → Unmarking l W ws i → length l ≤ i → Marked l ws W
unmark_end l W ws i I end = record {
  first = sym I.first;
  rest = λ r. omega (arith, I.rest r, ap (count r) (drop_of_length-le l {i = i} end), count_nil r);
}

-- two lists that give one by the same marks are equal
pub same_unmarked : (l a b m : List ℕ) → length a ≡ length b → Marked l a m → Marked l b m → a ≡ b
same_unmarked l a b m e A B = ext_get_or 0 a b e (λ j h. go j)
  where
    go : (j : ℕ) → get_or a j 0 ≡ get_or b j 0
    go zero = sym A.first ∙ B.first
    go (suc r) = rw (← add-one r) (omega (arith, A.rest r, B.rest r))
