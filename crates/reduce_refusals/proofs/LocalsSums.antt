-- The clauses that go, over the clause list and over the sorted locals. Assumes nothing.
use mathlib.Core.Path.{◌≡◌, refl, sym, ap, ◌∙◌, subst}
use mathlib.Core.Bool.{Bool, true, false, cond, not, ◌&&◌, true≢false}
use mathlib.Core.List.{List, [], ◌∷◌}
use Prim.Native.Nat.{ℕ, ◌+◌, ◌*◌, ◌^◌, ◌≤◌, ◌<◌}
use native.Mathlib.Decide.{ℕ_discrete}
use native.Mathlib.Omega.{arith}
use lib.ListN.{length}
use lib.Dec.{eqb, ltb}
use borrow.Author.Tests.{ne_eqb, lt-ltb, le-ltb, ltb-true, ltb-false}
use Rattle.laws.specs.Fold.{fold_list, one, count_below, sum_below}
use Rattle.laws.specs.Lists.{at, list_at, elem, sort_by}
use Rattle.laws.proofs.Sums.{count_sum}
use Rattle.laws.proofs.Members.{In, Distinct, sum_list, sum_each, sum_places}
use Rattle.laws.proofs.Entries.{elem_here, elem_later}
use Rattle.laws.proofs.Subsets.{within, sum_within}
use Rattle.laws.proofs.Distinct.{sort_in, in_sort, distinct_sort}
use Rattle.kinds.specs.Clauses.{tier_at, deleted_at}
use Rattle.kinds.specs.Held.{Side}
use Rattle.calls.specs.Reducing.{kept_first, sort_key}
use Rattle.passing.proofs.Store.{Store, Live, in_tier_lem, chain_distinct}
use Rattle.passing.proofs.Changes.{in_tier_yes, in_tier_no, in_tier_gone}
use Rattle.asserting.specs.Reads.{asserting_in}
use Rattle.reduce_steps.proofs.Cleaned.{kept_ready, kept_distinct, kept_covers, live_ends}
use Rattle.reduce_refusals.specs.Counted.{goer, goes, goes_at, line_at}
use Rattle.reduce_refusals.proofs.LocalsRoom.{line_size}

-- ---- keys are different

key_of : (w : List ℕ) (x y : ℕ) → x < 2 ^ 32 → y < 2 ^ 32 → sort_key w x ≡ sort_key w y → x ≡ y
unfolding sort_key
key_of w x y p q e = omega arith

module _ (w : List ℕ) (g : ℕ → Bool) where
  abbrev under : ℕ → ℕ → ℕ
  under b x = one (g x && ltb (sort_key w x) b)

  -- an entry whose key is not b counts the same below b and below b + 1
  same_under : (b x : ℕ) → (sort_key w x ≡ b → ⊥) → under (b + 1) x ≡ under b x
  same_under b x n = ap (λ (c : Bool). one (g x && c)) (go (ltb (sort_key w x) b) refl)
    where
      go : (c : Bool) → ltb (sort_key w x) b ≡ c → ltb (sort_key w x) (b + 1) ≡ c
      go true e = let z = ltb-true (sort_key w x) b e in lt-ltb (sort_key w x) (b + 1) (omega arith)
      go false e = let z = ltb-false (sort_key w x) b e in le-ltb (sort_key w x) (b + 1) (above (sort_key w x) b z n)
        where
          above : (m b : ℕ) → b ≤ m → (m ≡ b → ⊥) → b + 1 ≤ m
          above m b p q = omega (arith, q)

  small : (b x : ℕ) → under b x ≤ 1
  small b x = bit (g x && ltb (sort_key w x) b)
    where
      bit : (c : Bool) → one c ≤ 1
      bit true = omega arith
      bit false = omega arith

  pub rises : (os : List ℕ) → Distinct os → ((x : ℕ) → In x os → x < 2 ^ 32) → (b : ℕ) → sum_list (under (b + 1)) os ≤ sum_list (under b) os + 1
  rises [] d h b = omega arith
  rises (o ∷ os) (n, d) h b = go (ℕ_discrete (sort_key w o) b) (rises os d (λ x m. h x (elem_later x o os m)) b)
    where
      go : Dec (sort_key w o ≡ b) → sum_list (under (b + 1)) os ≤ sum_list (under b) os + 1 → under (b + 1) o + sum_list (under (b + 1)) os ≤ under b o + sum_list (under b) os + 1
      go (yes e) r =
          let s = sum_each (under (b + 1)) (under b) os (λ x m. same_under b x (λ q. n (subst (λ (y : ℕ). In y os) (key_of w x o (h x (elem_later x o os m)) (h o (elem_here o os)) (q ∙ sym e)) m))) in
          let z = small (b + 1) o in
          omega arith
      go (no e) r = let z = same_under b o e in omega arith

-- ---- over the clause list

module _ {v : ℕ} {w : List ℕ} {used : ℕ} {l cs : List ℕ} {gb : ℕ} {ts : List (List ℕ)} (S : Store v w used l cs gb ts []) (most : length w ≤ 2 ^ 24) where
  abbrev pub os : List ℕ
  os = sort_by (sort_key w) (fold_list (kept_first w 3) [] (list_at ts 3))

  pub os_ready : (x : ℕ) → In x os → Live w l x × (tier_at w x ≡ 3)
  os_ready x m = kept_ready S 3 (omega arith) x (sort_in (sort_key w) x (fold_list (kept_first w 3) [] (list_at ts 3)) m)

  pub os_distinct : Distinct os
  os_distinct = distinct_sort (sort_key w) (fold_list (kept_first w 3) [] (list_at ts 3)) (kept_distinct S 3 (omega arith))

  os_covers : (x : ℕ) → Live w l x → tier_at w x ≡ 3 → In x os
  os_covers x a e = in_sort (sort_key w) x (fold_list (kept_first w 3) [] (list_at ts 3)) (kept_covers S 3 (omega arith) x a e)

  -- a sum that the others have no part in
  over_list : (f : ℕ → ℕ) → ((x : ℕ) → In x l → elem x os ≡ false → f x ≡ 0) → sum_list f os ≡ sum_list f l
  over_list f h =
      sym (sum_within f os l os_distinct (chain_distinct 0 used w l S.chain) (λ x m. (os_ready x m).0.0))
      ∙ sum_each (within f os) f l (λ x m. go x m (elem x os) refl)
    where
      go : (x : ℕ) → In x l → (b : Bool) → elem x os ≡ b → cond (elem x os) (f x) 0 ≡ f x
      go x m true e = ap (λ (b : Bool). cond b (f x) 0) e
      go x m false e = ap (λ (b : Bool). cond b (f x) 0) e ∙ sym (h x m e)

  -- ---- how many there are
  ones : (xs : List ℕ) → ((x : ℕ) → In x xs → in_tier_lem w 3 x ≡ 1) → sum_list (in_tier_lem w 3) xs ≡ length xs
  ones [] h = refl
  ones (x ∷ xs) h = let a = h x (elem_here x xs) in let b = ones xs (λ y m. h y (elem_later y x xs m)) in omega arith

  pub all_locals : length os ≡ at cs 3
  all_locals =
      sym (ones os (λ x m. let r = os_ready x m in subst (λ (t : ℕ). in_tier_lem w t x ≡ 1) r.1 (in_tier_yes w x r.0.1)))
      ∙ over_list (in_tier_lem w 3) (λ x m e. go x m e (deleted_at w x) refl (ℕ_discrete (tier_at w x) 3))
      ∙ sym (S.counts 3 (omega arith))
    where
      go : (x : ℕ) → In x l → elem x os ≡ false → (d : Bool) → deleted_at w x ≡ d → Dec (tier_at w x ≡ 3) → in_tier_lem w 3 x ≡ 0
      go x m e true q t = in_tier_gone w 3 x q
      go x m e false q (yes t) = absurd (true≢false (sym (os_covers x (m, q) t) ∙ e))
      go x m e false q (no t) = in_tier_no w 3 x q t

  module _ (side : Side) where
    abbrev g : ℕ → Bool
    g = goer w side.values side.kinds side.reasons

    not_goer : (x : ℕ) → In x l → elem x os ≡ false → g x ≡ false
    unfolding goer
    not_goer x m e = go (deleted_at w x) refl (ℕ_discrete (tier_at w x) 3)
      where
        go : (d : Bool) → deleted_at w x ≡ d → Dec (tier_at w x ≡ 3) → not (deleted_at w x) && (eqb (tier_at w x) 3 && not (asserting_in w side.values side.kinds side.reasons x)) ≡ false
        go true q t = rw q
        go false q (yes t) = absurd (true≢false (sym (os_covers x (m, q) t) ∙ e))
        go false q (no t) = rw (q, ne_eqb (tier_at w x) 3 t)

    pub counted : (b : ℕ) → sum_list (λ (x : ℕ). one (g x && ltb (sort_key w x) b)) os ≡ count_below (goes_at w side.values side.kinds side.reasons b l) (length l)
    unfolding goes_at goes
    counted b =
        over_list (λ (x : ℕ). one (g x && ltb (sort_key w x) b)) (λ x m e. ap (λ (c : Bool). one (c && ltb (sort_key w x) b)) (not_goer x m e))
        ∙ sym (sum_places (λ (x : ℕ). one (g x && ltb (sort_key w x) b)) l)
        ∙ sym (count_sum (λ (i : ℕ). g (at l i) && ltb (sort_key w (at l i)) b) (length l))

    pub measured : (b : ℕ) → sum_list (λ (x : ℕ). one (g x && ltb (sort_key w x) b) * line_size w x) os ≡ sum_below (line_at w side.values side.kinds side.reasons b l) (length l)
    unfolding line_at goes
    measured b =
        over_list (λ (x : ℕ). one (g x && ltb (sort_key w x) b) * line_size w x) (λ x m e. ap (λ (c : Bool). one (c && ltb (sort_key w x) b) * line_size w x) (not_goer x m e) ∙ zeros (line_size w x))
        ∙ sym (sum_places (λ (x : ℕ). one (g x && ltb (sort_key w x) b) * line_size w x) l)
      where
        zeros : (x : ℕ) → 0 * x ≡ 0
        zeros x = omega arith

    pub rising : (b : ℕ) → count_below (goes_at w side.values side.kinds side.reasons (b + 1) l) (length l) ≤ count_below (goes_at w side.values side.kinds side.reasons b l) (length l) + 1
    rising b =
        let a = counted (b + 1) in
        let c = counted b in
        let r = rises w g os os_distinct (λ x m. let e = live_ends S x (os_ready x m).0 in omega arith) b in
        omega arith
