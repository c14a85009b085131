-- Bumping and decay: the same clauses are held. Assumes nothing.
use mathlib.Core.Path.{◌≡◌, refl, sym, ap, ◌∙◌, subst}
use mathlib.Core.Bool.{Bool, true, false, cond, true≢false}
use mathlib.Core.Logic.{⊎_elim, ◌⊎◌, inl, inr}
use mathlib.Core.List.{List, [], ◌∷◌}
use Prim.Native.Nat.{ℕ, ◌+◌, ◌<◌}
use native.Mathlib.Omega.{arith}
use lib.ListN.{length, length-set}
use lib.Dec.{ltb}
use lib.Ieee.{lt, le}
use lib.Seq.{get_or-set_same, get_or-set_other}
use borrow.Author.Tests.{ltb-true, ne_eqb}
use Rattle.laws.specs.Fold.{fold_list}
use Rattle.laws.specs.Lists.{at, elem}
use Rattle.laws.proofs.Entries.{elem_here, elem_later, elem_cases}
use Rattle.kinds.specs.Header.{with_active}
use Rattle.kinds.specs.Clauses.{Clause, activity_at, head_at, end_at, glue_at, deleted_at, original_at, clause_at, undeleted, longs}
use Rattle.kinds.specs.Floats.{limit, scaled}
use Rattle.kinds.specs.Held.{Held}
use Rattle.demands.specs.Runs.{all_held}
use Rattle.calls.specs.Adding.{tier_set}
use Rattle.calls.specs.Bumping.{scaled_at, rescaled, sum_for, activity_raised, activity_bumped, activated, glue_stored, glue_lowered, tier_for, new_glue, bumped, bump_grown, decayed}
use Rattle.account.specs.Weights.{total, Chain, Chained}
use Rattle.account.proofs.Chains.{chain_lower}
use Rattle.account.proofs.Moves.{Moves, quiet, moves_trans}
use Rattle.account.proofs.Heads.{chain_apart, chain_above, Alike, alike_longs, alike_chain, Unmoved, unmoved_refl, unmoved_trans, unmoved_chained, unmoved_moves}
use Rattle.account.proofs.Tiers.{active_keeps_glue, tier_for_range, activated_unmoved, glue_unmoved, tier_unmoved}

-- ---- words that differ at the listed offsets alone: activities

module _ (hi : ℕ) (os ws vs : List ℕ) (c : Chain 0 hi ws os) (size : length vs ≡ length ws) (off : (j : ℕ) → elem j os ≡ false → at vs j ≡ at ws j) where
  between : (o j : ℕ) → elem o os ≡ true → o < j → j < end_at ws o → elem j os ≡ false
  between o j e h k = go (elem j os) refl
    where
      go : (b : Bool) → elem j os ≡ b → b ≡ false
      go false q = refl
      go true q = absurd (⊎_elim (λ r. omega arith) (λ r. ⊎_elim (λ z. omega arith) (λ z. omega arith) r) (chain_apart 0 hi ws os c o j e q))

  pub starts_head : (o : ℕ) → elem o os ≡ true → head_at vs o ≡ head_at ws o
  starts_head o e = off (o + 1) (between o (o + 1) e (omega arith) (omega arith))

  pub starts_alike : Alike os ws vs
  starts_alike = record {
    size = size;
    bodies = λ o e j h k. sym (off j (between o j e (omega arith) k));
    deleted = λ o e. rw (starts_head o e);
    original = λ o e. rw (starts_head o e);
  }

-- ---- "drops deleted entries from the clause list"

module _ (ws : List ℕ) where
  pub undeleted_longs : (os : List ℕ) → longs ws (undeleted ws os) ≡ longs ws os
  unfolding longs undeleted
  undeleted_longs [] = refl
  undeleted_longs (o ∷ os) = go (deleted_at ws o) refl (undeleted_longs os)
    where
      go : (b : Bool) → deleted_at ws o ≡ b → longs ws (undeleted ws os) ≡ longs ws os → longs ws (cond b (undeleted ws os) (o ∷ undeleted ws os)) ≡ cond b (longs ws os) (clause_at ws o ∷ longs ws os)
      go true e h = h
      go false e h = rw (e, h)

  pub undeleted_chain : (lo hi : ℕ) (os : List ℕ) → Chain lo hi ws os → Chain lo hi ws (undeleted ws os)
  unfolding undeleted
  undeleted_chain lo hi [] c = c
  undeleted_chain lo hi (o ∷ os) (h, k) = go (deleted_at ws o) (undeleted_chain (end_at ws o) hi os k)
    where
      go : (b : Bool) → Chain (end_at ws o) hi ws (undeleted ws os) → Chain lo hi ws (cond b (undeleted ws os) (o ∷ undeleted ws os))
      go true r = chain_lower (end_at ws o) lo hi ws (undeleted ws os) (omega arith) r
      go false r = (h, r)

  pub undeleted_keeps : (os : List ℕ) (x : ℕ) → elem x os ≡ true → deleted_at ws x ≡ false → elem x (undeleted ws os) ≡ true
  unfolding undeleted
  undeleted_keeps [] x e d = e
  undeleted_keeps (o ∷ os) x e d = go (deleted_at ws o) refl (elem_cases x o os e) (undeleted_keeps os x)
    where
      go : (b : Bool) → deleted_at ws o ≡ b → (x ≡ o) ⊎ (elem x os ≡ true) → (elem x os ≡ true → deleted_at ws x ≡ false → elem x (undeleted ws os) ≡ true) → elem x (cond b (undeleted ws os) (o ∷ undeleted ws os)) ≡ true
      go true q (inl z) r = absurd (true≢false (sym q ∙ ap (deleted_at ws) (sym z) ∙ d))
      go true q (inr z) r = r z d
      go false q (inl z) r = subst (λ (y : ℕ). elem y (o ∷ undeleted ws os) ≡ true) (sym z) (elem_here o (undeleted ws os))
      go false q (inr z) r = elem_later x o (undeleted ws os) (r z d)

-- ---- "Rescaling multiplies live activities"

scaled_length : (l ws : List ℕ) → length (fold_list scaled_at ws l) ≡ length ws
unfolding fold_list scaled_at
scaled_length [] ws = refl
scaled_length (o ∷ l) ws = scaled_length l (scaled_at ws o) ∙ length-set ws o (scaled (activity_at ws o))

scaled_off : (l ws : List ℕ) (j : ℕ) → elem j l ≡ false → at (fold_list scaled_at ws l) j ≡ at ws j
unfolding fold_list scaled_at
scaled_off [] ws j e = refl
scaled_off (o ∷ l) ws j e = go (elem j l) refl (λ q. scaled_off l (scaled_at ws o) j q)
  where
    other : j ≡ o → ⊥
    other z = true≢false (sym (subst (λ (y : ℕ). elem y (o ∷ l) ≡ true) (sym z) (elem_here o l)) ∙ e)

    go : (b : Bool) → elem j l ≡ b → (elem j l ≡ false → at (fold_list scaled_at (scaled_at ws o) l) j ≡ at (scaled_at ws o) j) → at (fold_list scaled_at (scaled_at ws o) l) j ≡ at ws j
    go true q r = absurd (true≢false (sym (elem_later j o l q) ∙ e))
    go false q r = r q ∙ get_or-set_other ws o j (scaled (activity_at ws o)) 0 other

module _ (s : Held) (c : Chained s) where
  abbrev live : List ℕ
  live = undeleted s.words s.clauses

  abbrev new : List ℕ
  new = fold_list scaled_at s.words live

  live_chain : Chain 0 s.used s.words live
  live_chain = undeleted_chain s.words 0 s.used s.clauses c.chain

  rescaled_alike : Alike live s.words new
  rescaled_alike = starts_alike s.used live s.words new live_chain (scaled_length live s.words) (scaled_off live s.words)

  rescaled_head : (o : ℕ) → elem o live ≡ true → head_at new o ≡ head_at s.words o
  rescaled_head = starts_head s.used live s.words new live_chain (scaled_length live s.words) (scaled_off live s.words)

  rescaled_chained : Chained (rescaled s)
  unfolding rescaled
  rescaled_chained = record { chain = alike_chain 0 s.used live s.words new rescaled_alike live_chain; room = rw (scaled_length live s.words) c.room }

  rescaled_held : all_held (rescaled s) ≡ all_held s
  unfolding rescaled all_held
  rescaled_held = rw (alike_longs live s.words new rescaled_alike, undeleted_longs s.words s.clauses)

  pub rescaled_moves : (w : Clause → ℕ) (a : List ℕ) → Moves w a [] s (rescaled s)
  rescaled_moves w a = quiet w a [] s (rescaled s) rescaled_chained (unfold rescaled in refl) (rw rescaled_held (unfold total in omega arith))

-- ---- "add bump to the activity, rescale if the sum exceeds the limit"

pub record Raised (w : Clause → ℕ) (a : List ℕ) (o : ℕ) (s t : Held) : Type 0 where
  pub moves : Moves w a [] s t
  pub listed : elem o t.clauses ≡ true
  pub head : head_at t.words o ≡ head_at s.words o

module _ (w : Clause → ℕ) (a : List ℕ) (s : Held) (c : Chained s) (o : ℕ) (listed : elem o s.clauses ≡ true) (live : deleted_at s.words o ≡ false) where
  raised_off : (j : ℕ) → elem j s.clauses ≡ false → at (activity_raised o s).words j ≡ at s.words j
  raised_off j e = get_or-set_other s.words o j _ 0 (λ z. true≢false (sym listed ∙ ap (λ (y : ℕ). elem y s.clauses) (sym z) ∙ e))

  raised_size : length (activity_raised o s).words ≡ length s.words
  raised_size = length-set s.words o _

  raised_head : head_at (activity_raised o s).words o ≡ head_at s.words o
  raised_head = starts_head s.used s.clauses s.words (activity_raised o s).words c.chain raised_size raised_off o listed

  raised_unmoved : Unmoved s (activity_raised o s)
  raised_unmoved = record {
    used = refl;
    clauses = refl;
    rows = refl;
    rec = refl;
    alike = starts_alike s.used s.clauses s.words (activity_raised o s).words c.chain raised_size raised_off;
  }

  activity_raised_lem : Raised w a o s (activity_bumped o s)
  unfolding activity_bumped rescaled
  activity_raised_lem = go (lt limit (sum_for o s))
    where
      go : (b : Bool) → Raised w a o s (cond b (rescaled (activity_raised o s)) (activity_raised o s))
      go false = record { moves = unmoved_moves w a s (activity_raised o s) c raised_unmoved; listed = listed; head = raised_head }
      go true =
          let d : Chained (activity_raised o s) = unmoved_chained s (activity_raised o s) c raised_unmoved in
          let k : elem o (undeleted (activity_raised o s).words s.clauses) ≡ true = undeleted_keeps (activity_raised o s).words s.clauses o listed (rw raised_head live) in
          record {
            moves = moves_trans w a s (activity_raised o s) (rescaled (activity_raised o s)) (unmoved_moves w a s (activity_raised o s) c raised_unmoved) (rescaled_moves (activity_raised o s) d w a);
            listed = k;
            head = rescaled_head (activity_raised o s) d o k ∙ raised_head;
          }

  -- the flag is set: the glue stays
  active_glue : (t : Held) → Chained t → elem o t.clauses ≡ true → glue_at (activated o t).words o ≡ glue_at t.words o
  unfolding activated
  active_glue t d l =
      let f = chain_above 0 t.used t.words t.clauses d.chain o l in
      rw (get_or-set_same t.words (o + 1) (with_active true (head_at t.words o)) 0 (omega (arith, f.1, d.room))) (active_keeps_glue true (head_at t.words o))

  -- "if the new glue is below the stored one, store it and choose the tier anew": never of an original, whose glue is 0
  lowered_unmoved : (u : Held) → Chained u → elem o u.clauses ≡ true → (original_at u.words o ≡ true → glue_at u.words o ≡ 0) → (g : ℕ) → Unmoved u (glue_lowered g o u)
  unfolding glue_lowered
  lowered_unmoved u d l zero-glue g = go (ltb g (glue_at u.words o)) refl
    where
      redundant : g < glue_at u.words o → (b : Bool) → original_at u.words o ≡ b → b ≡ false
      redundant h true q = let z = zero-glue q in absurd (omega arith)
      redundant h false q = refl

      go : (b : Bool) → ltb g (glue_at u.words o) ≡ b → Unmoved u (cond b (tier_set (tier_for g) o (glue_stored g o u)) u)
      go false e = unmoved_refl u
      go true e =
          let v : Held = glue_stored g o u in
          let k : Unmoved u v = glue_unmoved u d o l g in
          let r = tier_for_range g in
          let n : original_at u.words o ≡ false = redundant (ltb-true g (glue_at u.words o) e) (original_at u.words o) refl in
          unmoved_trans u v (tier_set (tier_for g) o v) k
          (tier_unmoved v (unmoved_chained u v d k) o (rw k.clauses l) (tier_for g) r.1 (λ q. ne_eqb (tier_for g) 0 (λ z. omega (arith, r.0)) ∙ sym (k.alike.original o l ∙ n)))

  pub bump_moves : (original_at s.words o ≡ true → glue_at s.words o ≡ 0) → Moves w a [] s (bumped o s)
  unfolding bumped
  bump_moves zero-glue =
      let r = activity_raised_lem in
      let t : Held = activity_bumped o s in
      let u : Held = activated o t in
      let k : Unmoved t u = activated_unmoved t r.moves.chain o r.listed in
      let d : Chained u = unmoved_chained t u r.moves.chain k in
      let e : original_at u.words o ≡ original_at s.words o = k.alike.original o r.listed ∙ rw r.head in
      let f : glue_at u.words o ≡ glue_at s.words o = active_glue t r.moves.chain r.listed ∙ rw r.head in
      moves_trans w a s t (glue_lowered (new_glue o s) o u) r.moves
      (moves_trans w a t u (glue_lowered (new_glue o s) o u) (unmoved_moves w a t u r.moves.chain k)
      (unmoved_moves w a u (glue_lowered (new_glue o s) o u) d (lowered_unmoved u d (rw k.clauses r.listed) (λ q. f ∙ zero-glue (sym e ∙ q)) (new_glue o s))))

-- ---- "Decay multiplies bump by the inverse decay and rescales at or above the limit."

pub decay_moves : (w : Clause → ℕ) (a : List ℕ) (s : Held) → Chained s → Moves w a [] s (decayed s)
unfolding decayed
decay_moves w a s c = go (le limit (bump_grown s).activity.bump)
  where
    grown : Unmoved s (bump_grown s)
    grown = record { used = refl; clauses = refl; rows = refl; rec = refl; alike = (unmoved_refl s).alike }

    go : (b : Bool) → Moves w a [] s (cond b (rescaled (bump_grown s)) (bump_grown s))
    go false = unmoved_moves w a s (bump_grown s) c grown
    go true = moves_trans w a s (bump_grown s) (rescaled (bump_grown s)) (unmoved_moves w a s (bump_grown s) c grown) (rescaled_moves (bump_grown s) (unmoved_chained s (bump_grown s) c grown) w a)
