-- What holds while the live clauses close up. Assumes nothing.
use mathlib.Core.Path.{◌≡◌, refl, sym, ap, ◌∙◌}
use mathlib.Core.Bool.{true, false}
use mathlib.Core.List.{List, [], ◌∷◌, ◌++◌, append_assoc, append-nil}
use Prim.Native.Nat.{ℕ, ◌+◌, ◌-◌, ◌≤◌, ◌<◌}
use native.Mathlib.Numerals.{add-one}
use native.Mathlib.Omega.{arith}
use lib.ListN.{length, set, take, drop, replicate, length-set, drop_of_length-le}
use lib.Seq.{length-take-le, take-suc-set, drop-set-lt, sets, length-sets}
use Rattle.laws.specs.Lists.{at, read_n, fill}
use Rattle.laws.proofs.Reading.{length_read, read_same}
use Rattle.kinds.specs.Clauses.{len_at, size_at, end_at, words_at, deleted_at}
use Rattle.laws.proofs.Tails.{drop_more, at_more, drop_next, take_sets, drop_sets, filled}
use Rattle.close_up.proofs.Laying.{Laid, laid_le, kept, offsets, kept_live, kept_deleted, offsets_live, offsets_deleted, kept_none, offsets_none}

pub record Closing (used n : ℕ) (ws₀ cs₀ ws cs : List ℕ) (i to k : ℕ) : Type 0 where
  -- where the clause list has got to in the words
  pub p : ℕ
  pub to_le : to ≤ p
  pub k_le : k ≤ i
  pub w_len : length ws ≡ length ws₀
  pub c_len : length cs ≡ length cs₀
  pub w_rest : drop p ws ≡ drop p ws₀
  pub c_rest : drop i cs ≡ drop i cs₀
  pub laid : Laid ws₀ used p (drop i (take n cs₀))
  pub w_done : take to ws ++ kept ws₀ (drop i (take n cs₀)) ≡ kept ws₀ (take n cs₀)
  pub c_done : take k cs ++ offsets ws₀ to (drop i (take n cs₀)) ≡ offsets ws₀ 0 (take n cs₀)

-- what a turn knows of the clause at o
pub record Turn (used : ℕ) (ws₀ ws : List ℕ) (to o : ℕ) : Type 0 where
  pub low : to ≤ o
  pub end : end_at ws₀ o ≤ used
  pub same_len : len_at ws o ≡ len_at ws₀ o
  pub same_deleted : deleted_at ws o ≡ deleted_at ws₀ o

-- what is known at the end
pub record Done (used n : ℕ) (ws₀ cs₀ ws cs : List ℕ) (to k : ℕ) : Type 0 where
  pub words : sets ws to (replicate (used - to) 0) ≡ fill ws₀ used (kept ws₀ (take n cs₀))
  pub list : sets cs k (replicate (n - k) 0) ≡ fill cs₀ n (offsets ws₀ 0 (take n cs₀))
  pub count_words : to ≡ length (kept ws₀ (take n cs₀))
  pub count_list : k ≡ length (offsets ws₀ 0 (take n cs₀))

pub close_start : (used n : ℕ) (ws cs : List ℕ) → Laid ws used 0 (take n cs) → Closing used n ws cs ws cs 0 0 0
close_start used n ws cs l = record {
  p = 0;
  to_le = omega arith;
  k_le = omega arith;
  w_len = refl;
  c_len = refl;
  w_rest = refl;
  c_rest = refl;
  laid = l;
  w_done = refl;
  c_done = refl;
}

module _ {used n : ℕ} {ws₀ cs₀ ws cs : List ℕ} {i to k : ℕ} (fit-w : used ≤ length ws₀) (fit-c : n ≤ length cs₀) (I : Closing used n ws₀ cs₀ ws cs i to k) where
  pub place_le : I.p ≤ used
  place_le = laid_le ws₀ used I.p (drop i (take n cs₀)) I.laid

  -- the clause at o is read
  module _ (lt : i < n) where
    abbrev o : ℕ
    o = at cs i

    abbrev rest : List ℕ
    rest = drop (i + 1) (take n cs₀)

    todo : drop i (take n cs₀) ≡ o ∷ rest
    todo = drop_next cs₀ n i fit-c lt ∙ ap (λ (x : ℕ). x ∷ rest) (sym (at_more i i cs cs₀ (omega arith) I.c_rest))

    laid_next : (I.p ≤ o) × Laid ws₀ used (end_at ws₀ o) rest
    unfolding Laid
    laid_next = rw todo at I.laid

    pub turn : Turn used ws₀ ws to o
    turn =
        let low = laid_next.0 in
        let t = I.to_le in
        let h : at ws (o + 1) ≡ at ws₀ (o + 1) = at_more I.p (o + 1) ws ws₀ (omega arith) I.w_rest in
        record {
          low = omega arith;
          end = laid_le ws₀ used (end_at ws₀ o) rest laid_next.1;
          same_len = at_more I.p (o + 2) ws ws₀ (omega arith) I.w_rest;
          same_deleted = rw h;
        }

    pub close_deleted : deleted_at ws o ≡ true → Closing used n ws₀ cs₀ ws cs (i + 1) to k
    close_deleted f =
        let d = sym turn.same_deleted ∙ f in
        let low = laid_next.0 in
        let t = I.to_le in
        let s = I.k_le in
        record {
          p = end_at ws₀ o;
          to_le = omega arith;
          k_le = omega arith;
          w_len = I.w_len;
          c_len = I.c_len;
          w_rest = drop_more I.p (end_at ws₀ o) ws ws₀ (omega arith) I.w_rest;
          c_rest = drop_more i (i + 1) cs cs₀ (omega arith) I.c_rest;
          laid = laid_next.1;
          w_done = ap (λ (l : List ℕ). take to ws ++ l) (sym (ap (kept ws₀) todo ∙ kept_deleted ws₀ o rest d)) ∙ I.w_done;
          c_done = ap (λ (l : List ℕ). take k cs ++ l) (sym (ap (offsets ws₀ to) todo ∙ offsets_deleted ws₀ o rest to d)) ∙ I.c_done;
        }

    block_same : read_n ws o (size_at ws₀ o) ≡ words_at ws₀ o
    block_same = let low = laid_next.0 in read_same ws ws₀ o o (size_at ws₀ o) (λ j h. at_more I.p (o + j) ws ws₀ (omega arith) I.w_rest)

    moved : deleted_at ws₀ o ≡ false → Closing used n ws₀ cs₀ (sets ws to (words_at ws₀ o)) (set cs k to) (i + 1) (to + size_at ws₀ o) (k + 1)
    moved d =
        let low = laid_next.0 in
        let t = I.to_le in
        let s = I.k_le in
        let e = turn.end in
        let wl = I.w_len in
        let cl = I.c_len in
        let size = length_read ws₀ o (size_at ws₀ o) in
        let fits : to + length (words_at ws₀ o) ≤ length ws = omega arith in
        let same : to + length (words_at ws₀ o) ≡ to + size_at ws₀ o = omega arith in
        record {
          p = end_at ws₀ o;
          to_le = omega arith;
          k_le = omega arith;
          w_len = length-sets ws to (words_at ws₀ o) ∙ wl;
          c_len = length-set cs k to ∙ cl;
          w_rest =
              drop_more (to + length (words_at ws₀ o)) (end_at ws₀ o) (sets ws to (words_at ws₀ o)) ws (omega arith) (drop_sets ws (words_at ws₀ o) to fits)
              ∙ drop_more I.p (end_at ws₀ o) ws ws₀ (omega arith) I.w_rest;
          c_rest = drop-set-lt (i + 1) cs k to (omega arith) ∙ drop_more i (i + 1) cs cs₀ (omega arith) I.c_rest;
          laid = laid_next.1;
          w_done =
              ap (λ (l : List ℕ). l ++ kept ws₀ rest) (ap (λ (m : ℕ). take m (sets ws to (words_at ws₀ o))) (sym same) ∙ take_sets ws (words_at ws₀ o) to fits)
              ∙ append_assoc (take to ws) (words_at ws₀ o) (kept ws₀ rest)
              ∙ ap (λ (l : List ℕ). take to ws ++ l) (sym (ap (kept ws₀) todo ∙ kept_live ws₀ o rest d)) ∙ I.w_done;
          c_done =
              ap (λ (l : List ℕ). l ++ offsets ws₀ (to + size_at ws₀ o) rest) (ap (λ (m : ℕ). take m (set cs k to)) (add-one k) ∙ take-suc-set cs k to (omega arith))
              ∙ append_assoc (take k cs) (to ∷ []) (offsets ws₀ (to + size_at ws₀ o) rest)
              ∙ ap (λ (l : List ℕ). take k cs ++ l) (sym (ap (offsets ws₀ to) todo ∙ offsets_live ws₀ o rest to d)) ∙ I.c_done;
        }

    pub close_live : deleted_at ws o ≡ false → Closing used n ws₀ cs₀ (sets ws to (read_n ws o (size_at ws o))) (set cs k to) (i + 1) (to + size_at ws o) (k + 1)
    close_live f =
        let z : size_at ws o ≡ size_at ws₀ o = ap (λ (x : ℕ). x + 3) turn.same_len in
        rw (z, block_same) (moved (sym turn.same_deleted ∙ f))

  module _ (i_le : i ≤ n) (end : n ≤ i) where
    none : drop i (take n cs₀) ≡ []
    none = drop_of_length-le (take n cs₀) {i = i} (omega (arith, length-take-le n cs₀ fit-c))

    w_all : take to ws ≡ kept ws₀ (take n cs₀)
    w_all = sym (append-nil (take to ws)) ∙ ap (λ (l : List ℕ). take to ws ++ l) (sym (ap (kept ws₀) none ∙ kept_none ws₀)) ∙ I.w_done

    c_all : take k cs ≡ offsets ws₀ 0 (take n cs₀)
    c_all = sym (append-nil (take k cs)) ∙ ap (λ (l : List ℕ). take k cs ++ l) (sym (ap (offsets ws₀ to) none ∙ offsets_none ws₀ to)) ∙ I.c_done

    w_count : to ≡ length (kept ws₀ (take n cs₀))
    w_count = sym (length-take-le to ws (omega (arith, I.to_le, place_le, I.w_len))) ∙ ap length w_all

    c_count : k ≡ length (offsets ws₀ 0 (take n cs₀))
    c_count = sym (length-take-le k cs (omega (arith, I.k_le, i_le, I.c_len))) ∙ ap length c_all

    pub close_end : Done used n ws₀ cs₀ ws cs to k
    close_end =
        let q = place_le in
        let t = I.to_le in
        let wl = I.w_len in
        let cl = I.c_len in
        let kl = I.k_le in
        record {
          words = filled ws₀ ws used to (kept ws₀ (take n cs₀)) w_all w_count (omega arith) (omega arith) (drop_more I.p used ws ws₀ q I.w_rest);
          list = filled cs₀ cs n k (offsets ws₀ 0 (take n cs₀)) c_all c_count (omega arith) (omega arith) (drop_more i n cs cs₀ i_le I.c_rest);
          count_words = w_count;
          count_list = c_count;
        }
