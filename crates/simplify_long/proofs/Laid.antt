-- Buffers that hold a state of the walk, and what one clause does to both. Assumes nothing.
use mathlib.Core.Path.{◌≡◌, refl, sym, ap, ap₂, ◌∙◌}
use mathlib.Core.Bool.{true}
use mathlib.Core.List.{List, [], ◌∷◌, ◌++◌}
use Prim.Native.Nat.{ℕ, suc, ◌+◌, ◌-◌, ◌≤◌, ◌<◌}
use native.Mathlib.Omega.{arith}
use native.Mathlib.Numerals.{add-one}
use lib.ListN.{length, set, take, drop, replicate, length-set, length-append}
use lib.Seq.{sets, take-suc-set, length-take-le}
use Rattle.laws.specs.Lists.{at, list_at, less, more, push, lengths, fill}
use Rattle.laws.proofs.Fills.{fill_same}
use Rattle.laws.proofs.Closing.{fill_sets, closed}
use Rattle.kinds.specs.Header.{with_deleted}
use Rattle.kinds.specs.Clauses.{tier_at, size_at, change_head, neg}
use Rattle.kinds.specs.Lent.{Lent, room_of}
use Rattle.kinds.specs.Held.{Held, Side, with_clauses}
use Rattle.kinds.specs.Layout.{rows_of, fill_rows, side, view, lay_state, lay_host, lay}
use Rattle.kinds.specs.Setters.{state_of, with_listed, with_recorded}
use Rattle.kinds.specs.declared.State.{State}
use Rattle.kinds.specs.declared.ClauseActivity.{ClauseActivity}
use Rattle.kinds.proofs.Layouts.{Sized, AllFit, rows_fill}
use Rattle.kinds.proofs.RowLayout.{Growing, lengths_rows, at_lengths, lengths_push, rows_same, rows_again}
use Rattle.calls.specs.Adding.{pair_pushed}
use Rattle.simplify_lines.specs.Walk.{walk_parts}
use Rattle.simplify_lines.proofs.Done.{Grows, gone, stays, pair_grows}

-- the state's numbers during the walk
abbrev pub walk_state : Lent → Held → State
walk_state k s = state_of k.state.vars k.state.words k.state.clauses k.state.tiers (length s.rec) s.counts s.garbage s.binary k.state.activity

abbrev pub room_in : Lent → ℕ
room_in k = room_of k.state.vars k.rows

pub record Laid (k : Lent) (s : Held) (to : ℕ) (words list rows counts rec : List ℕ) (st : State) : Type 0 where
  pub words_is : words ≡ s.words
  pub to_is : to ≡ length s.clauses
  pub kept : take to list ≡ s.clauses
  pub rows_is : rows ≡ fill_rows (room_in k) k.counts s.rows k.rows
  pub counts_is : counts ≡ lengths s.rows
  pub rec_is : rec ≡ fill k.rec k.state.recorded s.rec
  pub state_is : st ≡ walk_state k s

module _ {k : Lent} {s : Held} {to : ℕ} {words list rows counts rec : List ℕ} {st : State} (L : Laid k s to words list rows counts rec st) (g : k.state.recorded ≤ length k.rec) where
  pub recorded_is : st.recorded ≡ length s.rec
  recorded_is = ap (λ (x : State). x.recorded) L.state_is

  -- a line, or two, behind the record
  pub said_is : (said : List ℕ) → length (s.rec ++ said) ≤ length k.rec → sets rec st.recorded said ≡ fill k.rec k.state.recorded (s.rec ++ said)
  said_is said h =
      let e = length-append s.rec said in
      ap₂ (λ (r : List ℕ) (n : ℕ). sets r n said) L.rec_is recorded_is ∙ fill_sets k.rec k.state.recorded s.rec said g (omega arith)

  said_length : (said : List ℕ) (end : ℕ) → end ≡ st.recorded + length said → end ≡ length (s.rec ++ said)
  said_length said end e = e ∙ ap (λ (n : ℕ). n + length said) recorded_is ∙ sym (length-append s.rec said)

  pub laid_gone : (o : ℕ) (said : List ℕ) (rs : List (List ℕ)) (b : ℕ) {words' rows' counts' rec' : List ℕ} {end : ℕ} {st' : State} → length (s.rec ++ said) ≤ length k.rec
      → words' ≡ change_head (with_deleted true) o words → rows' ≡ fill_rows (room_in k) k.counts rs k.rows → counts' ≡ lengths rs → rec' ≡ sets rec st.recorded said
      → end ≡ st.recorded + length said
      → st' ≡ state_of st.vars st.words st.clauses st.tiers end (less (tier_at words o) st.counts) (st.garbage + size_at words o) b st.activity
      → Laid k (gone o said rs b s) to words' list rows' counts' rec' st'
  laid_gone o said rs b {end = end} h ew er ec es ee et = record {
    words_is = ew ∙ ap (change_head (with_deleted true) o) L.words_is;
    to_is = L.to_is;
    kept = L.kept;
    rows_is = er;
    counts_is = ec;
    rec_is = es ∙ said_is said h;
    state_is = et
        ∙ ap₂ (λ (x : State) (w : List ℕ). state_of x.vars x.words x.clauses x.tiers end (less (tier_at w o) x.counts) (x.garbage + size_at w o) b x.activity) L.state_is L.words_is
        ∙ ap (λ (n : ℕ). state_of k.state.vars k.state.words k.state.clauses k.state.tiers n (less (tier_at s.words o) s.counts) (s.garbage + size_at s.words o) b k.state.activity) (said_length said end ee);
  }

  pub laid_stays : (o : ℕ) (said ws : List ℕ) {words' list' rec' : List ℕ} {end : ℕ} {st' : State} → length (s.rec ++ said) ≤ length k.rec → to < length list
      → words' ≡ ws → list' ≡ set list to o → rec' ≡ sets rec st.recorded said
      → end ≡ st.recorded + length said → st' ≡ with_recorded end st
      → Laid k (stays o said ws s) (to + 1) words' list' rows counts rec' st'
  laid_stays o said ws {end = end} h f ew el es ee et = record {
    words_is = ew;
    to_is = let e = length-append s.clauses (o ∷ []) in omega (arith, L.to_is);
    kept = rw (el, add-one, take-suc-set list to o f, L.kept);
    rows_is = L.rows_is;
    counts_is = L.counts_is;
    rec_is = es ∙ said_is said h;
    state_is = et ∙ ap (with_recorded end) L.state_is ∙ ap (λ (n : ℕ). state_of k.state.vars k.state.words k.state.clauses k.state.tiers n s.counts s.garbage s.binary k.state.activity) (said_length said end ee);
  }

-- ---- rows that grow
pub growing_of : (xs ys : List (List ℕ)) → length xs ≡ length ys → ((c : ℕ) → length (list_at xs c) ≤ length (list_at ys c)) → Growing xs ys
growing_of [] ys e f = tt
growing_of (x ∷ xs) [] e f = absurd (omega arith)
growing_of (x ∷ xs) (y ∷ ys) e f = (f 0, growing_of xs ys (omega arith) (λ c. f (suc c)))

-- a binary clause in rows that were filled before
pub pair_laid : (m : ℕ) (ns : List ℕ) (rs : List (List ℕ)) (buf : List ℕ) (x y : ℕ) → Sized m ns buf → AllFit m rs → AllFit m (pair_pushed x y rs) → length rs ≡ length ns
    → (fill_rows m (lengths rs) (pair_pushed x y (rows_of m (lengths rs) (fill_rows m ns rs buf))) (fill_rows m ns rs buf) ≡ fill_rows m ns (pair_pushed x y rs) buf)
    × (lengths (pair_pushed x y (rows_of m (lengths rs) (fill_rows m ns rs buf))) ≡ lengths (pair_pushed x y rs))
pair_laid m ns rs buf x y z f g e =
    let q = rows_fill m ns rs buf z f e in
    let l : length (pair_pushed x y rs) ≡ length rs = simp length-set in (
      ap (λ (t : List (List ℕ)). fill_rows m (lengths rs) (pair_pushed x y t) (fill_rows m ns rs buf)) q
          ∙ rows_again m ns rs (pair_pushed x y rs) buf z g e (l ∙ e) (growing_of rs (pair_pushed x y rs) (sym l) (pair_grows x y rs)),
      ap (λ (t : List (List ℕ)). lengths (pair_pushed x y t)) q,
    )

-- the counts that a pair leaves
pub pair_counts : (rs : List (List ℕ)) (x y c : ℕ) → at (more (neg y) (more (neg x) (lengths rs))) c ≡ length (list_at (pair_pushed x y rs) c)
pair_counts rs x y c =
    ap (λ (l : List ℕ). at l c) (sym (lengths_push (push (neg x) y rs) (neg y) x ∙ ap (more (neg y)) (lengths_push rs (neg x) y))) ∙ at_lengths (pair_pushed x y rs) c

-- ---- the beginning
pub laid_start : (k : Lent) → Sized (room_in k) k.counts k.rows → k.state.recorded ≤ length k.rec
    → Laid k (with_clauses [] (view k)) 0 k.words k.clauses k.rows k.counts k.rec k.state
unfolding view
laid_start k z g = record {
  words_is = refl;
  to_is = refl;
  kept = refl;
  rows_is = sym (rows_same (room_in k) k.counts k.rows z);
  counts_is = sym (lengths_rows (room_in k) k.counts k.rows z);
  rec_is = sym (fill_same k.rec k.state.recorded g);
  state_is = ap (λ (n : ℕ). state_of k.state.vars k.state.words k.state.clauses k.state.tiers n k.state.counts k.state.garbage k.state.binary k.state.activity) (sym (length-take-le k.state.recorded k.rec g));
}

-- ---- the end: what the list gives up becomes 0
pub laid_end : {k : Lent} {s : Held} {to : ℕ} {words list rows counts rec : List ℕ} {st : State} → Laid k s to words list rows counts rec st → Grows (with_clauses [] (view k)) s
    → to ≤ k.state.clauses → k.state.clauses ≤ length list → drop k.state.clauses list ≡ drop k.state.clauses k.clauses
    → {list' : List ℕ} → list' ≡ sets list to (replicate (k.state.clauses - to) 0) → {st' : State} → st' ≡ with_listed to st
    → ◌≡◌ {A = Lent} (record { state = st'; words = words; clauses = list'; tiers = k.tiers; rows = rows; counts = counts; rec = rec; host = k.host }) (lay walk_parts k s)
unfolding lay lay_state lay_host view side
laid_end {k} {s} {to} {words} {list} L G h g d {list'} e {st'} f =
    let state : st' ≡ state_of s.vars s.used (length s.clauses) k.state.tiers (length s.rec) s.counts s.garbage s.binary s.activity =
    f ∙ ap (with_listed to) L.state_is
    ∙ ap (λ (n : ℕ). state_of k.state.vars k.state.words n k.state.tiers (length s.rec) s.counts s.garbage s.binary k.state.activity) L.to_is
    ∙ ap₂ (λ (v u : ℕ). state_of v u (length s.clauses) k.state.tiers (length s.rec) s.counts s.garbage s.binary k.state.activity) (sym G.vars) (sym G.used)
    ∙ ap (λ (a : ClauseActivity). state_of s.vars s.used (length s.clauses) k.state.tiers (length s.rec) s.counts s.garbage s.binary a) (sym G.activity) in
    λ i. record {
      state = state i;
      words = L.words_is i;
      clauses = (e ∙ closed k.clauses list s.clauses k.state.clauses to h g L.to_is L.kept d) i;
      tiers = k.tiers;
      rows = L.rows_is i;
      counts = L.counts_is i;
      rec = L.rec_is i;
      host = ap (λ (t : Side). lay_host walk_parts k.host t) (sym G.host) i;
    }
