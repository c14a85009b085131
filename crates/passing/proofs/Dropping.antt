-- Deleted entries may leave the clause list: what passing says stays. Assumes nothing.
use mathlib.Core.Path.{◌≡◌, refl, sym, ◌∙◌, subst}
use mathlib.Core.Bool.{Bool, true, false, cond, true≢false}
use mathlib.Core.Logic.{⊎_elim, ◌⊎◌, inl, inr}
use mathlib.Core.List.{List, [], ◌∷◌, ◌++◌, append_assoc}
use Prim.Native.Nat.{ℕ}
use native.Mathlib.Omega.{arith}
use Rattle.laws.specs.Lists.{snoc}
use Rattle.laws.proofs.Members.{In, in_left, in_right, in_append, sum_list, sum_append}
use Rattle.laws.proofs.Entries.{elem_none, elem_here, elem_later, elem_cases}
use Rattle.kinds.specs.Clauses.{deleted_at, undeleted}
use Rattle.kinds.specs.Held.{Side}
use Rattle.passing.proofs.Store.{in_tier_lem, live_words, chain_drop, Stale, Live, Store}
use Rattle.passing.proofs.Good.{Quiet, Reasons}
use Rattle.passing.proofs.Changes.{in_tier_gone, words_gone}

module _ (w a : List ℕ) (o : ℕ) (b : List ℕ) where
  pub in_more : (x : ℕ) → In x (a ++ b) → In x (a ++ (o ∷ b))
  in_more x m = ⊎_elim (λ q. in_left x a (o ∷ b) q) (λ q. in_right x a (o ∷ b) (elem_later x o b q)) (in_append x a b m)

  pub in_less : (x : ℕ) → In x (a ++ (o ∷ b)) → (x ≡ o → ⊥) → In x (a ++ b)
  in_less x m n = ⊎_elim (λ q. in_left x a b q) (λ q. ⊎_elim (λ e. absurd (n e)) (λ r. in_right x a b r) (elem_cases x o b q)) (in_append x a (o ∷ b) m)

  module _ (gone : deleted_at w o ≡ true) where
    live_less : (x : ℕ) → Live w (a ++ (o ∷ b)) x → Live w (a ++ b) x
    live_less x (m, d) = (in_less x m (λ e. true≢false (sym gone ∙ subst (λ (z : ℕ). deleted_at w z ≡ false) e d)), d)

    stale_less : (used e : ℕ) → Stale w used (a ++ (o ∷ b)) e → Stale w used (a ++ b) e
    stale_less used e s = record { within = s.within; deleted = s.deleted; outside = λ x m. s.outside x (in_more x m) }

    sum_less : (f : ℕ → ℕ) → f o ≡ 0 → sum_list f (a ++ (o ∷ b)) ≡ sum_list f (a ++ b)
    sum_less f e = let p = sum_append f a (o ∷ b) in let q = sum_append f a b in omega arith

    pub drop_store : {v used : ℕ} {cs : List ℕ} {g : ℕ} {ts : List (List ℕ)} {p : List ℕ} → Store v w used (a ++ (o ∷ b)) cs g ts p → Store v w used (a ++ b) cs g ts p
    drop_store {v} {used} {cs} {g} {ts} {p} S = record {
      chain = chain_drop 0 used w a o b S.chain;
      clause = λ x m. S.clause x (in_more x m);
      counts = λ t h. S.counts t h ∙ sum_less (in_tier_lem w t) (in_tier_gone w t o gone);
      garbage = let e = sum_less (live_words w) (words_gone w o gone) in let z = S.garbage in omega arith;
      covered = λ x m. S.covered x (in_more x m);
      entry = λ t e h m. ⊎_elim (λ q. inl (live_less e q)) (λ q. inr (stale_less used e q)) (S.entry t e h m);
      four_counts = S.four_counts;
      four_lists_lem = S.four_lists_lem;
      room = S.room;
    }

    pub drop_quiet : Quiet w (a ++ (o ∷ b)) → Quiet w (a ++ b)
    drop_quiet q x m = q x (in_more x m)

    pub drop_reasons : (s : Side) → Reasons w (a ++ (o ∷ b)) s → Reasons w (a ++ b) s
    drop_reasons s r j k q = let c = r j k q in record { live = live_less _ c.live; first = c.first; others = c.others }

-- an entry moves from the front of what lies ahead to the end of what is done
pub passed_on : (a : List ℕ) (o : ℕ) (b : List ℕ) → snoc a o ++ b ≡ a ++ (o ∷ b)
passed_on a o b = append_assoc a (o ∷ []) b

module _ (w : List ℕ) (P : List ℕ → Type 0) (drop : (a : List ℕ) (o : ℕ) (b : List ℕ) → deleted_at w o ≡ true → P (a ++ (o ∷ b)) → P (a ++ b)) where
  all_dropped_from : (a b : List ℕ) → P (a ++ b) → P (a ++ undeleted w b)
  unfolding undeleted
  all_dropped_from a [] h = h
  all_dropped_from a (o ∷ b) h = go (deleted_at w o) refl (all_dropped_from a b) (all_dropped_from (snoc a o) b)
    where
      go : (t : Bool) → deleted_at w o ≡ t → (P (a ++ b) → P (a ++ undeleted w b)) → (P (snoc a o ++ b) → P (snoc a o ++ undeleted w b)) → P (a ++ cond t (undeleted w b) (o ∷ undeleted w b))
      go true e f g = f (drop a o b e h)
      go false e f g = subst P (passed_on a o (undeleted w b)) (g (subst P (sym (passed_on a o b)) h))

  pub all_dropped : (l : List ℕ) → P l → P (undeleted w l)
  all_dropped l h = all_dropped_from [] l h

-- what is left is live
pub undeleted_live : (w l : List ℕ) (x : ℕ) → In x (undeleted w l) → Live w l x
unfolding undeleted
undeleted_live w [] x m = absurd (elem_none x m)
undeleted_live w (o ∷ l) x m = go (deleted_at w o) refl m (undeleted_live w l x)
  where
    go : (t : Bool) → deleted_at w o ≡ t → In x (cond t (undeleted w l) (o ∷ undeleted w l)) → (In x (undeleted w l) → Live w l x) → Live w (o ∷ l) x
    go true e n ih = let r = ih n in (elem_later x o l r.0, r.1)
    go false e n ih = ⊎_elim
        (λ q. (subst (λ (z : ℕ). In z (o ∷ l)) (sym q) (elem_here o l), subst (λ (z : ℕ). deleted_at w z ≡ false) (sym q) e))
        (λ q. let r = ih q in (elem_later x o l r.0, r.1))
        (elem_cases x o (undeleted w l) n)

-- and what is live is left
pub live_undeleted : (w l : List ℕ) (x : ℕ) → Live w l x → In x (undeleted w l)
unfolding undeleted
live_undeleted w [] x h = h.0
live_undeleted w (o ∷ l) x h = go (deleted_at w o) refl (live_undeleted w l x) (elem_cases x o l h.0)
  where
    go : (t : Bool) → deleted_at w o ≡ t → (Live w l x → In x (undeleted w l)) → (x ≡ o) ⊎ In x l → In x (cond t (undeleted w l) (o ∷ undeleted w l))
    go true e ih (inl q) = absurd (true≢false (sym e ∙ subst (λ (z : ℕ). deleted_at w z ≡ false) q h.1))
    go true e ih (inr q) = ih (q, h.1)
    go false e ih (inl q) = subst (λ (z : ℕ). In z (o ∷ undeleted w l)) (sym q) (elem_here o (undeleted w l))
    go false e ih (inr q) = elem_later x o (undeleted w l) (ih (q, h.1))
