-- Reducing mids, entry by entry. Assumes nothing.
use mathlib.Core.Path.{◌≡◌, refl, sym, ap, ap₂, ◌∙◌, subst}
use mathlib.Core.Bool.{Bool, true, false, cond}
use mathlib.Core.List.{List, [], ◌∷◌}
use Prim.Native.Nat.{ℕ, ◌+◌, ◌-◌, ◌≤◌, ◌<◌}
use native.Mathlib.Numerals.{add-one}
use native.Mathlib.Omega.{arith}
use lib.ListN.{length, set, take, drop, length-set, length-append}
use lib.Seq.{length-take-le, take-suc-set, drop-set-lt}
use lib.Dec.{eqb}
use borrow.Author.Tests.{ne_eqb}
use Rattle.laws.specs.Fold.{fold_list}
use Rattle.laws.specs.Lists.{at, list_at, snoc, more, less, push}
use Rattle.laws.proofs.Members.{Distinct}
use Rattle.laws.proofs.Entries.{elem_here}
use Rattle.laws.proofs.Pushes.{pushed_here, pushed_other, length_push}
use Rattle.laws.proofs.Walks.{drop_more, at_more, left_next, left_none, walk_next, walk_none}
use Rattle.kinds.specs.Header.{with_active, with_tier}
use Rattle.kinds.specs.Clauses.{head_at, tier_at, active_at, change_head}
use Rattle.kinds.specs.Held.{Held, held_of}
use Rattle.calls.specs.Adding.{moved_to, tier_set}
use Rattle.calls.specs.Reducing.{cleaned_tier, mid_kept, mid_done, mids_reduced}
use Rattle.passing.proofs.Store.{Store, Live}
use Rattle.passing.proofs.Heads.{active_alike}
use Rattle.passing.proofs.Changes.{head_store, moved_store}
use Rattle.passing.proofs.Reduce.{Ready, ready_rest}
use Rattle.reduce_steps.proofs.Fours.{four_lists}
use Rattle.reduce_steps.proofs.Cleaned.{live_ends, live_counted}

-- what is held, with other words, counts and lists of Mid and Local
abbrev pub mids_now : Held → List ℕ → List ℕ → List ℕ → List ℕ → Held
mids_now h w c m l = held_of h.vars w h.used h.clauses (list_at h.tiers 0 ∷ list_at h.tiers 1 ∷ m ∷ l ∷ []) h.rows h.rec c h.garbage h.binary h.activity h.host

-- ---- the list of Local only grows

tier_length : (t o : ℕ) (h : Held) → length (tier_set t o h).tiers ≡ length h.tiers
unfolding tier_set moved_to
tier_length t o h = go (eqb (tier_at h.words o) t)
  where
    go : (b : Bool) → length (cond b h (moved_to t o h)).tiers ≡ length h.tiers
    go true = refl
    go false = length_push h.tiers t o

done_length : (h : Held) (o : ℕ) → length (mid_done h o).tiers ≡ length h.tiers
unfolding mid_done mid_kept
done_length h o = go (active_at h.words o)
  where
    go : (b : Bool) → length (cond b (mid_kept o h) (tier_set 3 o h)).tiers ≡ length h.tiers
    go true = length_push h.tiers 2 o
    go false = tier_length 3 o h

done_grows : (h : Held) (o : ℕ) → length h.tiers ≡ 4 → length (list_at h.tiers 3) ≤ length (list_at (mid_done h o).tiers 3)
unfolding mid_done mid_kept tier_set moved_to
done_grows h o f = go (active_at h.words o) (eqb (tier_at h.words o) 3)
  where
    go : (b d : Bool) → length (list_at h.tiers 3) ≤ length (list_at (cond b (mid_kept o h) (cond d h (moved_to 3 o h))).tiers 3)
    go true d = let e = ap length (pushed_other h.tiers 2 o (omega arith) 3 (λ q. omega arith)) in omega arith
    go false true = omega arith
    go false false = let e = ap length (pushed_here h.tiers 3 o (omega arith)) in let a = length-append (list_at h.tiers 3) (o ∷ []) in omega arith

pub mids_grow : (os : List ℕ) (h : Held) → length h.tiers ≡ 4 → length (list_at h.tiers 3) ≤ length (list_at (fold_list mid_done h os).tiers 3)
unfolding fold_list
mids_grow [] h f = omega arith
mids_grow (o ∷ os) h f = let a = done_grows h o f in let b = mids_grow os (mid_done h o) (done_length h o ∙ f) in omega arith

-- ---- while it is done: i of the n entries that are kept of the list, which are the first of mid₁

pub record Sweep (h : Held) (n : ℕ) (mid₁ local₀ words mid local counts : List ℕ) (i kept locals : ℕ) : Type 0 where
  pub i_le : i ≤ n
  pub kept_le : kept ≤ i
  pub words_len : length words ≡ length h.words
  pub mid_len : length mid ≡ length mid₁
  pub local_len : length local ≡ length local₀
  pub counts_len : length counts ≡ 4
  pub ahead : drop i mid ≡ drop i mid₁
  pub locals_from : length (list_at h.tiers 3) ≤ locals
  pub locals_le : locals ≤ length local₀
  pub behind : drop locals local ≡ drop locals local₀
  pub lists : List (List ℕ)
  pub store : Store h.vars words h.used h.clauses counts h.garbage lists []
  pub ready : Ready words h.clauses 2 (drop i (take n mid₁))
  pub distinct : Distinct (drop i (take n mid₁))
  pub goal : fold_list mid_done (mids_now h words counts (take kept mid) (take locals local)) (drop i (take n mid₁)) ≡ mids_reduced h

-- before the first turn, with room for what is moved
pub record Begun (h : Held) (n : ℕ) (mid₁ local₀ words₀ counts₀ : List ℕ) (locals₀ : ℕ) : Type 0 where
  pub begins : Sweep h n mid₁ local₀ words₀ mid₁ local₀ counts₀ 0 0 locals₀
  pub fit : n ≤ length mid₁
  pub room : length (list_at (mids_reduced h).tiers 3) ≤ length local₀

pub sweep_start : (h : Held) (n : ℕ) (mid₁ local : List ℕ) → Store h.vars h.words h.used h.clauses h.counts h.garbage h.tiers []
    → take n mid₁ ≡ cleaned_tier 2 h → Ready h.words h.clauses 2 (cleaned_tier 2 h) → Distinct (cleaned_tier 2 h)
    → (locals : ℕ) → locals ≤ length local → list_at h.tiers 3 ≡ take locals local
    → Sweep h n mid₁ local h.words mid₁ local h.counts 0 0 locals
unfolding mids_reduced
sweep_start h n mid₁ local S e r d locals b q = record {
  i_le = omega arith;
  kept_le = omega arith;
  words_len = refl;
  mid_len = refl;
  local_len = refl;
  counts_len = S.four_counts;
  ahead = refl;
  locals_from = let z = ap length q in let y = length-take-le locals local b in omega arith;
  locals_le = b;
  behind = refl;
  lists = h.tiers;
  store = S;
  ready = subst (λ (os : List ℕ). Ready h.words h.clauses 2 os) (sym e) r;
  distinct = subst (λ (os : List ℕ). Distinct os) (sym e) d;
  goal = ap₂ (λ (x : List (List ℕ)) (os : List ℕ). fold_list mid_done (held_of h.vars h.words h.used h.clauses x h.rows h.rec h.counts h.garbage h.binary h.activity h.host) os)
      (ap (λ (x : List ℕ). list_at h.tiers 0 ∷ list_at h.tiers 1 ∷ [] ∷ x ∷ []) (sym q) ∙ sym (emptied h.tiers S.four_lists_lem)) e;
}
  where
    emptied : (ts : List (List ℕ)) → length ts ≡ 4 → set ts 2 [] ≡ list_at ts 0 ∷ list_at ts 1 ∷ [] ∷ list_at ts 3 ∷ []
    emptied ts f = ap (λ (x : List (List ℕ)). set x 2 []) (four_lists ts f)

module _ {h : Held} {n : ℕ} {mid₁ local₀ words mid local counts : List ℕ} {i kept locals : ℕ} (fit : n ≤ length mid₁) (I : Sweep h n mid₁ local₀ words mid local counts i kept locals) (lt : i < n) where
  abbrev o : ℕ
  o = at mid i

  abbrev rest : List ℕ
  rest = drop (i + 1) (take n mid₁)

  next : drop i (take n mid₁) ≡ o ∷ rest
  next = left_next mid₁ n i lt fit ∙ ap (λ (x : ℕ). x ∷ rest) (sym (at_more i i mid mid₁ (omega arith) I.ahead))

  all_ready : Ready words h.clauses 2 (o ∷ rest)
  all_ready = subst (λ (os : List ℕ). Ready words h.clauses 2 os) next I.ready

  all_distinct : Distinct (o ∷ rest)
  all_distinct = subst (λ (os : List ℕ). Distinct os) next I.distinct

  live : Live words h.clauses o
  live = (all_ready o (elem_here o rest)).0

  two : tier_at words o ≡ 2
  two = (all_ready o (elem_here o rest)).1

  pub inside : o + 1 < length words
  inside = let e = live_ends I.store o live in omega arith

  pub one_there : 0 < at counts 2
  one_there = live_counted I.store o live 2 two

  abbrev now : Held
  now = mids_now h words counts (take kept mid) (take locals local)

  stepped : fold_list mid_done (mid_done now o) rest ≡ mids_reduced h
  stepped = sym (ap (fold_list mid_done now) next ∙ walk_next mid_done now o rest) ∙ I.goal

  module _ (active : active_at words o ≡ true) where
    keeps : mid_done now o ≡ mids_now h (change_head (with_active false) o words) counts (snoc (take kept mid) o) (take locals local)
    unfolding mid_done mid_kept
    keeps = ap (λ (b : Bool). cond b (mid_kept o now) (tier_set 3 o now)) active

    longer : take (kept + 1) (set mid kept o) ≡ snoc (take kept mid) o
    longer = ap (λ (m : ℕ). take m (set mid kept o)) (add-one kept) ∙ take-suc-set mid kept o (omega arith)

    pub sweep_keep : Sweep h n mid₁ local₀ (change_head (with_active false) o words) (set mid kept o) local counts (i + 1) (kept + 1) locals
    sweep_keep =
        let e = active_alike (head_at words o) false in
        record {
          i_le = omega arith;
          kept_le = let a = I.kept_le in omega arith;
          words_len = length-set words (o + 1) (with_active false (head_at words o)) ∙ I.words_len;
          mid_len = length-set mid kept o ∙ I.mid_len;
          local_len = I.local_len;
          counts_len = I.counts_len;
          ahead = drop-set-lt (i + 1) mid kept o (omega arith) ∙ drop_more i (i + 1) mid mid₁ (omega arith) I.ahead;
          locals_from = I.locals_from;
          locals_le = I.locals_le;
          behind = I.behind;
          lists = I.lists;
          store = head_store I.store o live.0 live.1 (with_active false) e.plain e.deleted e.tier (λ z. absurd (let q = two in omega arith));
          ready = ready_rest words h.clauses 2 o rest (with_active false) all_ready all_distinct.0;
          distinct = all_distinct.1;
          goal = ap (λ (m : List ℕ). fold_list mid_done (mids_now h (change_head (with_active false) o words) counts m (take locals local)) rest) longer ∙ ap (λ (x : Held). fold_list mid_done x rest) (sym keeps) ∙ stepped;
        }

  module _ (inactive : active_at words o ≡ false) (room : length (list_at (mids_reduced h).tiers 3) ≤ length local₀) where
    moves : mid_done now o ≡ mids_now h (change_head (with_tier 3) o words) (more 3 (less 2 counts)) (take kept mid) (snoc (take locals local) o)
    unfolding mid_done tier_set moved_to
    moves =
        ap (λ (b : Bool). cond b (mid_kept o now) (tier_set 3 o now)) inactive
        ∙ ap (λ (b : Bool). cond b now (moved_to 3 o now)) (ne_eqb (tier_at words o) 3 (λ q. let z = two in omega arith))
        ∙ ap (λ (t : ℕ). mids_now h (change_head (with_tier 3) o words) (more 3 (less t counts)) (take kept mid) (snoc (take locals local) o)) two

    pub local_room : locals < length local
    local_room =
        let a = mids_grow rest (mids_now h (change_head (with_tier 3) o words) (more 3 (less 2 counts)) (take kept mid) (snoc (take locals local) o)) refl in
        let b = ap (λ (x : Held). length (list_at (fold_list mid_done x rest).tiers 3)) moves in
        let c = ap (λ (x : Held). length (list_at x.tiers 3)) stepped in
        let d = length-append (take locals local) (o ∷ []) in
        let e = length-take-le locals local (omega arith) in
        omega arith

    longer_local : take (locals + 1) (set local locals o) ≡ snoc (take locals local) o
    longer_local = ap (λ (m : ℕ). take m (set local locals o)) (add-one locals) ∙ take-suc-set local locals o local_room

    pub sweep_move : Sweep h n mid₁ local₀ (change_head (with_tier 3) o words) mid (set local locals o) (more 3 (less 2 counts)) (i + 1) kept (locals + 1)
    sweep_move = record {
      i_le = omega arith;
      kept_le = let a = I.kept_le in omega arith;
      words_len = length-set words (o + 1) (with_tier 3 (head_at words o)) ∙ I.words_len;
      mid_len = I.mid_len;
      local_len = length-set local locals o ∙ I.local_len;
      counts_len = length-set (less 2 counts) 3 (at (less 2 counts) 3 + 1) ∙ length-set counts 2 (at counts 2 - 1) ∙ I.counts_len;
      ahead = drop_more i (i + 1) mid mid₁ (omega arith) I.ahead;
      locals_from = let a = I.locals_from in omega arith;
      locals_le = let a = local_room in omega arith;
      behind = drop-set-lt (locals + 1) local locals o (omega arith) ∙ drop_more locals (locals + 1) local local₀ (omega arith) I.behind;
      lists = push 3 o I.lists;
      store = subst (λ (t : ℕ). Store h.vars (change_head (with_tier 3) o words) h.used h.clauses (more 3 (less t counts)) h.garbage (push 3 o I.lists) []) two
          (moved_store I.store o live.0 live.1 3 (omega arith) (λ q. let z = two in omega arith) (λ q. absurd (omega arith)) [] (λ x q m. m));
      ready = ready_rest words h.clauses 2 o rest (with_tier 3) all_ready all_distinct.0;
      distinct = all_distinct.1;
      goal = ap (λ (l : List ℕ). fold_list mid_done (mids_now h (change_head (with_tier 3) o words) (more 3 (less 2 counts)) (take kept mid) l) rest) longer_local ∙ ap (λ (x : Held). fold_list mid_done x rest) (sym moves) ∙ stepped;
    }

pub sweep_end : {h : Held} {n : ℕ} {mid₁ local₀ words mid local counts : List ℕ} {i kept locals : ℕ} → n ≤ length mid₁ → Sweep h n mid₁ local₀ words mid local counts i kept locals → n ≤ i
    → mids_now h words counts (take kept mid) (take locals local) ≡ mids_reduced h
sweep_end {h} {n} {mid₁} {local₀} {words} {mid} {local} {counts} {i} {kept} {locals} fit I end =
    sym (ap (fold_list mid_done (mids_now h words counts (take kept mid) (take locals local))) (left_none mid₁ n i end fit) ∙ walk_none mid_done (mids_now h words counts (take kept mid) (take locals local))) ∙ I.goal
