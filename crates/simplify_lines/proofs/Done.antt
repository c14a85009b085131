-- One clause of the walk by its cases, as records, and the states of the walk: each is the step of the one before, and nothing that needs room shrinks. Assumes nothing.
use mathlib.Core.Path.{◌≡◌, refl, sym, ap, ◌∙◌, subst}
use mathlib.Core.Bool.{Bool, true, false, cond}
use mathlib.Core.List.{List, [], ◌∷◌, ◌++◌, append_assoc, append-nil}
use Prim.Native.Nat.{ℕ, zero, suc, ◌+◌, ◌≤◌, ◌<◌}
use native.Mathlib.Omega.{arith}
use native.Mathlib.Nat.{le_refl, le_trans}
use native.Mathlib.Numerals.{add-one}
use lib.ListN.{length, take, drop, length-set, length-append, take-append-drop}
use lib.Seq.{sets, take-suc, take_all}
use lib.Dec.{eqb}
use Rattle.laws.specs.Fold.{fold_list}
use Rattle.laws.specs.Lists.{at, list_at, snoc, less, push}
use Rattle.kinds.specs.Header.{with_deleted}
use Rattle.kinds.specs.Clauses.{deleted_at, lits_at, size_at, tier_at, original_at, change_head, neg}
use Rattle.kinds.specs.Lines.{line, line_words, strike_kind, entry_kind}
use Rattle.kinds.specs.Held.{Held, Side, held_of, with_clauses}
use Rattle.kinds.specs.declared.Verdict.TheVariants.{Satisfied, Same, Shorter}
use Rattle.calls.specs.Adding.{removed, strike_noted, struck, pair_pushed, added_pair}
use Rattle.calls.specs.Simplifying.{any_true, unfalsified, verdict_of, shorter_noted, shortened, shorter_done, verdict_done, clause_done}
use Rattle.simplify_lines.specs.Walk.{longs_done}

-- the clause at o goes, after lines are said
abbrev pub gone : ℕ → List ℕ → List (List ℕ) → ℕ → Held → Held
gone o said rows b h =
    held_of h.vars (change_head (with_deleted true) o h.words) h.used h.clauses h.tiers rows (h.rec ++ said)
    (less (tier_at h.words o) h.counts) (h.garbage + size_at h.words o) b h.activity h.host

-- it stays, in the words ws
abbrev pub stays : ℕ → List ℕ → List ℕ → Held → Held
stays o said ws h =
    held_of h.vars ws h.used (snoc h.clauses o) h.tiers h.rows (h.rec ++ said) h.counts h.garbage h.binary h.activity h.host

abbrev pub strike_line : ℕ → ℕ → List ℕ → List ℕ
strike_line k o ws = line_words (line (strike_kind (original_at ws o) k) (lits_at ws o))

abbrev pub enter_line : List ℕ → ℕ → List ℕ → List ℕ
enter_line r o ws = line_words (line (entry_kind (original_at ws o) (length r)) r)

abbrev pub short_lines_lem : List ℕ → ℕ → List ℕ → List ℕ
short_lines_lem r o ws = enter_line r o ws ++ strike_line 6 o ws

abbrev pub shorten : List ℕ → ℕ → Held → Held
shorten r o s = cond (eqb (length r) 2)
    (gone o (short_lines_lem r o s.words) (pair_pushed (at r 0) (at r 1) s.rows) (s.binary + 1) s)
    (stays o (short_lines_lem r o s.words) (sets s.words (o + 2) (length r ∷ r)) s)

abbrev pub settle : List ℕ → List ℕ → ℕ → Held → Held
settle a ls o s = cond (any_true a ls)
    (gone o (strike_line 5 o s.words) s.rows s.binary s)
    (cond (eqb (length (unfalsified a ls)) (length ls))
    (stays o [] s.words s)
    (shorten (unfalsified a ls) o s))

unfoldable pub sim_one : List ℕ → ℕ → Held → Held
sim_one a o s = cond (deleted_at s.words o) s (settle a (lits_at s.words o) o s)

said_again : (h : Held) (o : ℕ) (r w : List ℕ) → stays o (enter_line r o h.words ++ strike_line 6 o h.words) w h
    ≡ held_of h.vars w h.used (snoc h.clauses o) h.tiers h.rows ((h.rec ++ enter_line r o h.words) ++ strike_line 6 o h.words) h.counts h.garbage h.binary h.activity h.host
said_again h o r w = ap (λ (l : List ℕ). held_of h.vars w h.used (snoc h.clauses o) h.tiers h.rows l h.counts h.garbage h.binary h.activity h.host) (sym (append_assoc h.rec (enter_line r o h.words) (strike_line 6 o h.words)))

gone_again : (h : Held) (o : ℕ) (r : List ℕ) (rows : List (List ℕ)) (b : ℕ) → gone o (enter_line r o h.words ++ strike_line 6 o h.words) rows b h
    ≡ held_of h.vars (change_head (with_deleted true) o h.words) h.used h.clauses h.tiers rows ((h.rec ++ enter_line r o h.words) ++ strike_line 6 o h.words)
    (less (tier_at h.words o) h.counts) (h.garbage + size_at h.words o) b h.activity h.host
gone_again h o r rows b = ap (λ (l : List ℕ). held_of h.vars (change_head (with_deleted true) o h.words) h.used h.clauses h.tiers rows l (less (tier_at h.words o) h.counts) (h.garbage + size_at h.words o) b h.activity h.host) (sym (append_assoc h.rec (enter_line r o h.words) (strike_line 6 o h.words)))

pub one_is : (h : Held) (o : ℕ) → clause_done h o ≡ sim_one h.host.values o h
unfolding sim_one clause_done verdict_of verdict_done struck removed strike_noted shorter_done shorter_noted shortened added_pair
one_is h o =
    let ls = lits_at h.words o in
    let r = unfalsified h.host.values ls in
    dead (deleted_at h.words o) r (any_true h.host.values ls) (eqb (length r) (length ls))
  where
    short : (b : Bool) (r : List ℕ) → cond b (added_pair (at r 0) (at r 1) (removed o (shorter_noted r o h))) (with_clauses (snoc (shortened r o (shorter_noted r o h)).clauses o) (shortened r o (shorter_noted r o h)))
        ≡ cond b (gone o (short_lines_lem r o h.words) (pair_pushed (at r 0) (at r 1) h.rows) (h.binary + 1) h) (stays o (short_lines_lem r o h.words) (sets h.words (o + 2) (length r ∷ r)) h)
    short true r = sym (gone_again h o r (pair_pushed (at r 0) (at r 1) h.rows) (h.binary + 1))
    short false r = sym (said_again h o r (sets h.words (o + 2) (length r ∷ r)))

    dead : (d : Bool) (r : List ℕ) (t e : Bool)
        → cond d h (verdict_done (cond t Satisfied (cond e Same (Shorter (length (unfalsified h.host.values (lits_at h.words o)))))) o h)
        ≡ cond d h (cond t (gone o (strike_line 5 o h.words) h.rows h.binary h) (cond e (stays o [] h.words h) (shorten (unfalsified h.host.values (lits_at h.words o)) o h)))
    dead true r t e = refl
    dead false r true e = refl
    dead false r false true = ap (λ (l : List ℕ). held_of h.vars h.words h.used (snoc h.clauses o) h.tiers h.rows l h.counts h.garbage h.binary h.activity h.host) (sym (append-nil h.rec))
    dead false r false false = short (eqb (length (unfalsified h.host.values (lits_at h.words o))) 2) (unfalsified h.host.values (lits_at h.words o))

-- ---- nothing that needs room shrinks, and the host's side and the rest of the state stay
pub record Grows (s t : Held) : Type 0 where
  pub rec : length s.rec ≤ length t.rec
  pub size : length t.rows ≡ length s.rows
  pub row : (c : ℕ) → length (list_at s.rows c) ≤ length (list_at t.rows c)
  pub host : t.host ≡ s.host
  pub vars : t.vars ≡ s.vars
  pub used : t.used ≡ s.used
  pub tiers : t.tiers ≡ s.tiers
  pub activity : t.activity ≡ s.activity

pub grows_refl : (s : Held) → Grows s s
grows_refl s = record { rec = le_refl _; size = refl; row = λ r. le_refl _; host = refl; vars = refl; used = refl; tiers = refl; activity = refl }

pub grows_trans : {s t u : Held} → Grows s t → Grows t u → Grows s u
grows_trans g h = record {
  rec = le_trans g.rec h.rec;
  size = h.size ∙ g.size;
  row = λ r. le_trans (g.row r) (h.row r);
  host = h.host ∙ g.host;
  vars = h.vars ∙ g.vars;
  used = h.used ∙ g.used;
  tiers = h.tiers ∙ g.tiers;
  activity = h.activity ∙ g.activity;
}

pub push_grows : (rows : List (List ℕ)) (r x q : ℕ) → length (list_at rows q) ≤ length (list_at (push r x rows) q)
push_grows [] r x q = le_refl _
push_grows (row ∷ rows) zero x zero = omega (arith, length-append row (x ∷ []))
push_grows (row ∷ rows) zero x (suc q) = le_refl _
push_grows (row ∷ rows) (suc r) x zero = le_refl _
push_grows (row ∷ rows) (suc r) x (suc q) = push_grows rows r x q

pub pair_grows : (x y : ℕ) (rows : List (List ℕ)) (q : ℕ) → length (list_at rows q) ≤ length (list_at (pair_pushed x y rows) q)
pair_grows x y rows q = le_trans (push_grows rows (neg x) y q) (push_grows (push (neg x) y rows) (neg y) x q)

gone_grows : (o : ℕ) (said : List ℕ) (rows : List (List ℕ)) (b : ℕ) (s : Held) → length rows ≡ length s.rows → ((r : ℕ) → length (list_at s.rows r) ≤ length (list_at rows r)) → Grows s (gone o said rows b s)
gone_grows o said rows b s e f = record { rec = rw length-append (omega arith); size = e; row = f; host = refl; vars = refl; used = refl; tiers = refl; activity = refl }

stays_grows : (o : ℕ) (said ws : List ℕ) (s : Held) → Grows s (stays o said ws s)
stays_grows o said ws s = record { rec = rw length-append (omega arith); size = refl; row = λ r. le_refl _; host = refl; vars = refl; used = refl; tiers = refl; activity = refl }

pub either : (P : Held → Type 0) (b : Bool) (x y : Held) → P x → P y → P (cond b x y)
either P true x y p q = p
either P false x y p q = q

one_grows : (a : List ℕ) (o : ℕ) (s : Held) → Grows s (sim_one a o s)
unfolding sim_one
one_grows a o s =
    let ls = lits_at s.words o in
    let r = unfalsified a ls in
    either (Grows s) (deleted_at s.words o) s (settle a ls o s) (grows_refl s)
    (either (Grows s) (any_true a ls) _ _ (gone_grows o _ s.rows s.binary s refl (λ q. le_refl _))
    (either (Grows s) (eqb (length r) (length ls)) _ _ (stays_grows o [] s.words s)
    (either (Grows s) (eqb (length r) 2) _ _
    (gone_grows o _ (pair_pushed (at r 0) (at r 1) s.rows) (s.binary + 1) s (simp length-set) (pair_grows (at r 0) (at r 1) s.rows))
    (stays_grows o _ _ s))))

done_grows : (s : Held) (o : ℕ) → Grows s (clause_done s o)
done_grows s o = subst (Grows s) (sym (one_is s o)) (one_grows s.host.values o s)

all_grows : (os : List ℕ) (s : Held) → Grows s (fold_list clause_done s os)
unfolding fold_list
all_grows [] s = grows_refl s
all_grows (o ∷ os) s = grows_trans (done_grows s o) (all_grows os (clause_done s o))

all_append : (xs ys : List ℕ) (s : Held) → fold_list clause_done s (xs ++ ys) ≡ fold_list clause_done (fold_list clause_done s xs) ys
unfolding fold_list
all_append [] ys s = refl
all_append (x ∷ xs) ys s = all_append xs ys (clause_done s x)

-- ---- the state after i entries
unfoldable pub state_at : Held → ℕ → Held
state_at h i = fold_list clause_done (with_clauses [] h) (take i h.clauses)

module _ (h : Held) where
  pub state_zero : state_at h 0 ≡ with_clauses [] h
  unfolding state_at fold_list
  state_zero = refl

  pub state_first : (i : ℕ) → Grows (with_clauses [] h) (state_at h i)
  unfolding state_at
  state_first i = all_grows (take i h.clauses) (with_clauses [] h)

  state_step : (i : ℕ) → i < length h.clauses → state_at h (i + 1) ≡ clause_done (state_at h i) (at h.clauses i)
  unfolding state_at
  state_step i g = rw (add-one i, take-suc h.clauses i 0 g, all_append (take i h.clauses) (at h.clauses i ∷ []) (with_clauses [] h)) (unfold fold_list in refl)

  pub state_next : (i : ℕ) → i < length h.clauses → state_at h (i + 1) ≡ sim_one h.host.values (at h.clauses i) (state_at h i)
  state_next i g = state_step i g ∙ one_is (state_at h i) (at h.clauses i) ∙ ap (λ (s : Side). sim_one s.values (at h.clauses i) (state_at h i)) (state_first i).host

  pub state_end : (i : ℕ) → length h.clauses ≤ i → state_at h i ≡ longs_done h
  unfolding state_at longs_done
  state_end i g = rw (take_all i h.clauses g)

  pub state_last : (i : ℕ) → Grows (state_at h i) (longs_done h)
  unfolding state_at longs_done
  state_last i =
      subst (Grows (fold_list clause_done (with_clauses [] h) (take i h.clauses)))
      (sym (all_append (take i h.clauses) (drop i h.clauses) (with_clauses [] h)) ∙ ap (fold_list clause_done (with_clauses [] h)) (take-append-drop i h.clauses))
      (all_grows (drop i h.clauses) (fold_list clause_done (with_clauses [] h) (take i h.clauses)))
