-- Reducing locals, entry by entry. Assumes nothing.
use mathlib.Core.Path.{◌≡◌, refl, sym, ap, ap₂, ◌∙◌, subst}
use mathlib.Core.Bool.{Bool, true, false, cond, ◌||◌, true≢false}
use mathlib.Core.List.{List, [], ◌∷◌, ◌++◌}
use Prim.Native.Nat.{ℕ, zero, suc, ◌+◌, ◌-◌, ◌*◌, ◌/◌, ◌≤◌, ◌<◌}
use native.Mathlib.Numerals.{add-one}
use native.Mathlib.Omega.{arith}
use lib.ListN.{length, set, take, drop, length-set, length-append}
use lib.Seq.{sets, sets-eq, length-sets, length-take-le, take-suc-set, drop-set-lt, take_at, drop_at}
use lib.Dec.{eqb}
use borrow.Author.Tests.{eq-eqb, ne_eqb}
use Rattle.laws.specs.Fold.{fold_list}
use Rattle.laws.specs.Lists.{at, list_at, snoc, less}
use Rattle.laws.proofs.Members.{Distinct}
use Rattle.laws.proofs.Entries.{elem_here, elem_later}
use Rattle.laws.proofs.Walks.{drop_more, at_more, left_next, left_none, walk_next, walk_none}
use Rattle.laws.proofs.Reading.{length_read}
use Rattle.kinds.specs.Header.{with_deleted}
use Rattle.kinds.specs.Clauses.{head_at, len_at, size_at, end_at, first_at, lits_at, original_at, tier_at, change_head}
use Rattle.kinds.specs.Lines.{line, line_words, strike_kind}
use Rattle.kinds.specs.Held.{Held, held_of, list_in, asserting}
use Rattle.calls.specs.Adding.{removed, strike_noted, struck, deleted}
use Rattle.calls.specs.Reducing.{tier_emptied, sorted_locals, Round, spared, local_done, to_strike, locals_round}
use Rattle.passing.proofs.Store.{Store, Live}
use Rattle.passing.proofs.Changes.{removed_store}
use Rattle.passing.proofs.Reduce.{Ready, ready_rest}
use Rattle.asserting.specs.Reads.{asserting_in}
use Rattle.asserting.proofs.Cases.{asserting_held}
use Rattle.reduce_steps.proofs.Fours.{four_lists}
use Rattle.reduce_steps.proofs.Cleaned.{live_ends, live_counted, live_size_lem, live_first}

-- what is held, with other words, counts, garbage, record and list of Local
abbrev pub locals_now : Held → List ℕ → List ℕ → ℕ → List ℕ → List ℕ → Held
locals_now h w c g r l = held_of h.vars w h.used h.clauses (list_at h.tiers 0 ∷ list_at h.tiers 1 ∷ list_at h.tiers 2 ∷ l ∷ []) h.rows r c g h.binary h.activity h.host

abbrev pub round_now : Held → ℕ → List ℕ → List ℕ → ℕ → List ℕ → List ℕ → Round
round_now h n w c g r l = record { left = n; held = locals_now h w c g r l }

-- the line that is written, and its length
abbrev pub strike_line : List ℕ → ℕ → List ℕ
strike_line w o = line_words (line (strike_kind (original_at w o) 4) (lits_at w o))

pub line_length : (w : List ℕ) (o : ℕ) → length (strike_line w o) ≡ len_at w o + 2
line_length w o = let e = length_read w (o + 3) (len_at w o) in omega arith

-- ---- the code's test
pub enough_gone : (l : ℕ) (b : Bool) → l ≡ 0 → true ≡ eqb l 0 || b
enough_gone l b e = sym (ap (λ (x : Bool). x || b) (eq-eqb l 0 e))

pub more_to_go : (l : ℕ) (b : Bool) → (l ≡ 0 → ⊥) → {r : Bool} → r ≡ b → r ≡ eqb l 0 || b
more_to_go l b n e = e ∙ sym (ap (λ (x : Bool). x || b) (ne_eqb l 0 n))

pub left_there : (l : ℕ) (b : Bool) → eqb l 0 || b ≡ false → 0 < l
left_there zero b e = absurd (true≢false e)
left_there (suc l) b e = omega arith

-- ---- the record only grows

round_grows : (r : Round) (o : ℕ) → length r.held.rec ≤ length (local_done r o).held.rec
unfolding local_done struck removed strike_noted
round_grows r o = go (spared r o)
  where
    go : (b : Bool) → length r.held.rec ≤ length (cond {A = Round} b (record { left = r.left; held = list_in 3 o r.held }) (record { left = r.left - 1; held = deleted o r.held })).held.rec
    go true = omega arith
    go false = let a = length-append r.held.rec (strike_line r.held.words o) in omega arith

pub record_grows : (os : List ℕ) (r : Round) → length r.held.rec ≤ length (fold_list local_done r os).held.rec
unfolding fold_list
record_grows [] r = omega arith
record_grows (o ∷ os) r = let a = round_grows r o in let b = record_grows os (local_done r o) in omega arith

-- ---- words behind the used part

module _ (buf : List ℕ) (n : ℕ) (vs : List ℕ) (room : n + length vs ≤ length buf) where
  front : length (take n buf ++ vs) ≡ n + length vs
  front = length-append (take n buf) vs ∙ ap (λ (x : ℕ). x + length vs) (length-take-le n buf (omega arith))

  spread : sets buf n vs ≡ (take n buf ++ vs) ++ drop (n + length vs) buf
  spread = sets-eq vs buf n room

  pub take_written : take (n + length vs) (sets buf n vs) ≡ take n buf ++ vs
  take_written = ap (take (n + length vs)) spread ∙ take_at (take n buf ++ vs) (drop (n + length vs) buf) (n + length vs) front

  pub drop_written : drop (n + length vs) (sets buf n vs) ≡ drop (n + length vs) buf
  drop_written = ap (drop (n + length vs)) spread ∙ drop_at (take n buf ++ vs) (drop (n + length vs) buf) (n + length vs) front

-- ---- while it is done: i of the n entries, which are the first of local₁

pub record Purge (h : Held) (n : ℕ) (local₁ rec₀ words local rec counts : List ℕ) (i kept recorded garbage left : ℕ) : Type 0 where
  pub i_le : i ≤ n
  pub kept_le : kept ≤ i
  pub words_len : length words ≡ length h.words
  pub local_len : length local ≡ length local₁
  pub rec_len : length rec ≡ length rec₀
  pub counts_len : length counts ≡ 4
  pub ahead : drop i local ≡ drop i local₁
  pub rec_from : length h.rec ≤ recorded
  pub rec_le : recorded ≤ length rec₀
  pub behind : drop recorded rec ≡ drop recorded rec₀
  pub lists : List (List ℕ)
  pub store : Store h.vars words h.used h.clauses counts garbage lists []
  pub ready : Ready words h.clauses 3 (drop i (take n local₁))
  pub distinct : Distinct (drop i (take n local₁))
  pub goal : fold_list local_done (round_now h left words counts garbage (take recorded rec) (take kept local)) (drop i (take n local₁)) ≡ locals_round h

-- before the first turn, with room for the lines
pub record Begun (h : Held) (n : ℕ) (local₁ rec₀ words₀ counts₀ : List ℕ) (recorded₀ garbage₀ half : ℕ) (values kinds reasons : List ℕ) : Type 0 where
  pub begins : Purge h n local₁ rec₀ words₀ local₁ rec₀ counts₀ 0 0 recorded₀ garbage₀ half
  pub fit : n ≤ length local₁
  pub room : length (locals_round h).held.rec ≤ length rec₀
  pub values_held : values ≡ h.host.values
  pub kinds_held : kinds ≡ h.host.kinds
  pub reasons_held : reasons ≡ h.host.reasons

-- the code's test, on what is held meanwhile
pub test_held : {h : Held} {n : ℕ} {local₁ rec₀ words₀ counts₀ : List ℕ} {recorded₀ garbage₀ half : ℕ} {values kinds reasons : List ℕ} → Begun h n local₁ rec₀ words₀ counts₀ recorded₀ garbage₀ half values kinds reasons
    → (words counts : List ℕ) (garbage : ℕ) (rec l : List ℕ) (left o : ℕ) {b r : Bool} → r ≡ eqb left 0 || asserting_in words values kinds reasons o → r ≡ b → eqb left 0 || asserting (locals_now h words counts garbage rec l) o ≡ b
test_held {h} B words counts garbage rec l left o e q =
    ap (λ (x : Bool). eqb left 0 || x) (sym (asserting_held (locals_now h words counts garbage rec l) o) ∙ (λ i. asserting_in words (sym B.values_held i) (sym B.kinds_held i) (sym B.reasons_held i) o))
    ∙ sym e ∙ q

pub purge_start : (h : Held) (n : ℕ) (local₁ rec : List ℕ) → Store h.vars h.words h.used h.clauses h.counts h.garbage h.tiers []
    → take n local₁ ≡ sorted_locals h → Ready h.words h.clauses 3 (sorted_locals h) → Distinct (sorted_locals h)
    → (recorded : ℕ) → recorded ≤ length rec → h.rec ≡ take recorded rec → to_strike h ≡ n / 2
    → Purge h n local₁ rec h.words local₁ rec h.counts 0 0 recorded h.garbage (n / 2)
unfolding locals_round
purge_start h n local₁ rec S e r d recorded b q z = record {
  i_le = omega arith;
  kept_le = omega arith;
  words_len = refl;
  local_len = refl;
  rec_len = refl;
  counts_len = S.four_counts;
  ahead = refl;
  rec_from = let a = ap length q in let y = length-take-le recorded rec b in omega arith;
  rec_le = b;
  behind = refl;
  lists = h.tiers;
  store = S;
  ready = subst (λ (os : List ℕ). Ready h.words h.clauses 3 os) (sym e) r;
  distinct = subst (λ (os : List ℕ). Distinct os) (sym e) d;
  goal = ap₂ (λ (x : Round) (os : List ℕ). fold_list local_done x os) begin e;
}
  where
    emptied : set h.tiers 3 [] ≡ list_at h.tiers 0 ∷ list_at h.tiers 1 ∷ list_at h.tiers 2 ∷ [] ∷ []
    emptied = ap (λ (x : List (List ℕ)). set x 3 []) (four_lists h.tiers S.four_lists_lem)

    begin : round_now h (n / 2) h.words h.counts h.garbage (take recorded rec) [] ≡ record { left = to_strike h; held = tier_emptied 3 h }
    begin = λ i. record {
      left = sym z i;
      held = held_of h.vars h.words h.used h.clauses (sym emptied i) h.rows (sym q i) h.counts h.garbage h.binary h.activity h.host;
    }

module _ {h : Held} {n : ℕ} {local₁ rec₀ words local rec counts : List ℕ} {i kept recorded garbage left : ℕ} (fit : n ≤ length local₁) (I : Purge h n local₁ rec₀ words local rec counts i kept recorded garbage left) (lt : i < n) where
  abbrev o : ℕ
  o = at local i

  abbrev rest : List ℕ
  rest = drop (i + 1) (take n local₁)

  next : drop i (take n local₁) ≡ o ∷ rest
  next = left_next local₁ n i lt fit ∙ ap (λ (x : ℕ). x ∷ rest) (sym (at_more i i local local₁ (omega arith) I.ahead))

  all_ready : Ready words h.clauses 3 (o ∷ rest)
  all_ready = subst (λ (os : List ℕ). Ready words h.clauses 3 os) next I.ready

  all_distinct : Distinct (o ∷ rest)
  all_distinct = subst (λ (os : List ℕ). Distinct os) next I.distinct

  live : Live words h.clauses o
  live = (all_ready o (elem_here o rest)).0

  three : tier_at words o ≡ 3
  three = (all_ready o (elem_here o rest)).1

  pub ends : end_at words o ≤ length words
  ends = live_ends I.store o live

  pub long_enough : 3 ≤ len_at words o
  long_enough = (I.store.clause o live.0 live.1).three

  pub first_in : first_at words o < 2 * h.vars
  first_in = live_first I.store o live

  pub garbage_fits : garbage + size_at words o ≤ h.used
  garbage_fits = live_size_lem I.store o live

  pub one_there : 0 < at counts 3
  one_there = live_counted I.store o live 3 three

  abbrev now : Round
  now = round_now h left words counts garbage (take recorded rec) (take kept local)

  stepped : fold_list local_done (local_done now o) rest ≡ locals_round h
  stepped = sym (ap (fold_list local_done now) next ∙ walk_next local_done now o rest) ∙ I.goal

  module _ (stays : eqb left 0 || asserting now.held o ≡ true) where
    keeps : local_done now o ≡ round_now h left words counts garbage (take recorded rec) (snoc (take kept local) o)
    unfolding local_done spared
    keeps = ap (λ (b : Bool). cond b (round_now h left words counts garbage (take recorded rec) (snoc (take kept local) o)) (record { left = left - 1; held = deleted o now.held })) stays

    longer : take (kept + 1) (set local kept o) ≡ snoc (take kept local) o
    longer = ap (λ (m : ℕ). take m (set local kept o)) (add-one kept) ∙ take-suc-set local kept o (omega arith)

    pub purge_keep : Purge h n local₁ rec₀ words (set local kept o) rec counts (i + 1) (kept + 1) recorded garbage left
    purge_keep = record {
      i_le = omega arith;
      kept_le = let a = I.kept_le in omega arith;
      words_len = I.words_len;
      local_len = length-set local kept o ∙ I.local_len;
      rec_len = I.rec_len;
      counts_len = I.counts_len;
      ahead = drop-set-lt (i + 1) local kept o (omega arith) ∙ drop_more i (i + 1) local local₁ (omega arith) I.ahead;
      rec_from = I.rec_from;
      rec_le = I.rec_le;
      behind = I.behind;
      lists = I.lists;
      store = I.store;
      ready = λ x m. all_ready x (elem_later x o rest m);
      distinct = all_distinct.1;
      goal = ap (λ (l : List ℕ). fold_list local_done (round_now h left words counts garbage (take recorded rec) l) rest) longer ∙ ap (λ (x : Round). fold_list local_done x rest) (sym keeps) ∙ stepped;
    }

  module _ (goes : eqb left 0 || asserting now.held o ≡ false) (room : length (locals_round h).held.rec ≤ length rec₀) where
    strikes : local_done now o ≡ round_now h (left - 1) (change_head (with_deleted true) o words) (less 3 counts) (garbage + size_at words o) (take recorded rec ++ strike_line words o) (take kept local)
    unfolding local_done spared struck removed strike_noted
    strikes =
        ap (λ (b : Bool). cond b (round_now h left words counts garbage (take recorded rec) (snoc (take kept local) o)) (record { left = left - 1; held = deleted o now.held })) goes
        ∙ ap (λ (t : ℕ). round_now h (left - 1) (change_head (with_deleted true) o words) (less t counts) (garbage + size_at words o) (take recorded rec ++ strike_line words o) (take kept local)) three

    pub record_room : recorded + (len_at words o + 2) ≤ length rec
    record_room =
        let a = record_grows rest (round_now h (left - 1) (change_head (with_deleted true) o words) (less 3 counts) (garbage + size_at words o) (take recorded rec ++ strike_line words o) (take kept local)) in
        let b = ap (λ (x : Round). length (fold_list local_done x rest).held.rec) strikes in
        let c = ap (λ (x : Round). length x.held.rec) stepped in
        let d = length-append (take recorded rec) (strike_line words o) in
        let e = length-take-le recorded rec (omega arith) in
        let g = line_length words o in
        omega arith

    line_room : recorded + length (strike_line words o) ≤ length rec
    line_room = let a = record_room in let b = line_length words o in omega arith

    purge_strike : (rec' : List ℕ) → rec' ≡ sets rec recorded (strike_line words o)
        → Purge h n local₁ rec₀ (change_head (with_deleted true) o words) local rec' (less 3 counts) (i + 1) kept (recorded + (len_at words o + 2)) (garbage + size_at words o) (left - 1)
    purge_strike rec' q = subst (λ (m : ℕ). Purge h n local₁ rec₀ (change_head (with_deleted true) o words) local rec' (less 3 counts) (i + 1) kept (recorded + m) (garbage + size_at words o) (left - 1)) (line_length words o)
        (subst (λ (r : List ℕ). Purge h n local₁ rec₀ (change_head (with_deleted true) o words) local r (less 3 counts) (i + 1) kept (recorded + length (strike_line words o)) (garbage + size_at words o) (left - 1)) (sym q) gone)
      where
        gone : Purge h n local₁ rec₀ (change_head (with_deleted true) o words) local (sets rec recorded (strike_line words o)) (less 3 counts) (i + 1) kept (recorded + length (strike_line words o)) (garbage + size_at words o) (left - 1)
        gone = record {
          i_le = omega arith;
          kept_le = let a = I.kept_le in omega arith;
          words_len = length-set words (o + 1) (with_deleted true (head_at words o)) ∙ I.words_len;
          local_len = I.local_len;
          rec_len = length-sets rec recorded (strike_line words o) ∙ I.rec_len;
          counts_len = length-set counts 3 (at counts 3 - 1) ∙ I.counts_len;
          ahead = drop_more i (i + 1) local local₁ (omega arith) I.ahead;
          rec_from = let a = I.rec_from in omega arith;
          rec_le = let a = line_room in omega arith;
          behind = drop_written rec recorded (strike_line words o) line_room ∙ drop_more recorded (recorded + length (strike_line words o)) rec rec₀ (omega arith) I.behind;
          lists = I.lists;
          store = subst (λ (t : ℕ). Store h.vars (change_head (with_deleted true) o words) h.used h.clauses (less t counts) (garbage + size_at words o) I.lists []) three
              (removed_store I.store o live.0 live.1 [] (λ x e m. m));
          ready = ready_rest words h.clauses 3 o rest (with_deleted true) all_ready all_distinct.0;
          distinct = all_distinct.1;
          goal = ap (λ (r : List ℕ). fold_list local_done (round_now h (left - 1) (change_head (with_deleted true) o words) (less 3 counts) (garbage + size_at words o) r (take kept local)) rest) (take_written rec recorded (strike_line words o) line_room)
              ∙ ap (λ (x : Round). fold_list local_done x rest) (sym strikes) ∙ stepped;
        }

    -- in the code's terms
    pub purge_struck : {words' rec' : List ℕ} {recorded' size : ℕ} → words' ≡ change_head (with_deleted true) o words → rec' ≡ sets rec recorded (strike_line words o) → recorded' ≡ recorded + (len_at words o + 2) → size ≡ len_at words o
        → Purge h n local₁ rec₀ words' local rec' (less 3 counts) (i + 1) kept recorded' (garbage + (size + 3)) (left - 1)
    purge_struck {words'} {rec'} {recorded'} {size} a b c d =
        subst (λ (w : List ℕ). Purge h n local₁ rec₀ w local rec' (less 3 counts) (i + 1) kept recorded' (garbage + (size + 3)) (left - 1)) (sym a)
        (subst (λ (m : ℕ). Purge h n local₁ rec₀ (change_head (with_deleted true) o words) local rec' (less 3 counts) (i + 1) kept m (garbage + (size + 3)) (left - 1)) (sym c)
        (subst (λ (m : ℕ). Purge h n local₁ rec₀ (change_head (with_deleted true) o words) local rec' (less 3 counts) (i + 1) kept (recorded + (len_at words o + 2)) (garbage + (m + 3)) (left - 1)) (sym d)
        (purge_strike rec' b)))

pub purge_end : {h : Held} {n : ℕ} {local₁ rec₀ words local rec counts : List ℕ} {i kept recorded garbage left : ℕ} → n ≤ length local₁ → Purge h n local₁ rec₀ words local rec counts i kept recorded garbage left → n ≤ i
    → round_now h left words counts garbage (take recorded rec) (take kept local) ≡ locals_round h
purge_end {h} {n} {local₁} {rec₀} {words} {local} {rec} {counts} {i} {kept} {recorded} {garbage} {left} fit I end =
    sym (ap (fold_list local_done (round_now h left words counts garbage (take recorded rec) (take kept local))) (left_none local₁ n i end fit) ∙ walk_none local_done (round_now h left words counts garbage (take recorded rec) (take kept local))) ∙ I.goal
