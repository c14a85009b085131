-- From the parts to the whole: what bump, decay and rescale do to a store is what they do to words, clause list and activity alone, the rest as it was. A caller that holds the buffers after
-- one of these functions reads off the store they hold (`view-..`), and what the call leaves (`laid-..`). Assumes nothing.
use mathlib.Core.Path.{◌≡◌, refl, sym, ap, ◌∙◌}
use mathlib.Core.Bool.{Bool, true, false, cond}
use mathlib.Core.List.{List}
use Prim.Native.Nat.{ℕ}
use lib.ListN.{length}
use lib.Ieee.{lt, le}
use Rattle.laws.specs.Lists.{fill, fill_each}
use Rattle.laws.proofs.Filling.{take_fill, fill_again, Within, fill_each_same, lengths_taken}
use Rattle.kinds.specs.Floats.{limit}
use Rattle.kinds.specs.Setters.{state_of, with_listed, with_clause_activity}
use Rattle.kinds.specs.Lent.{Lent, Parts}
use Rattle.kinds.specs.Held.{Held, with_words, with_clauses, with_activity}
use Rattle.kinds.specs.Layout.{view, side, lay, lay_state, lay_host}
use Rattle.calls.specs.Bumping.{rescaled, sum_for, activity_raised, activity_bumped, bump_grown, decayed}
use Rattle.activity.specs.Stored.{Stored, alone, holding, stored}

-- h, with these parts of g
abbrev pub parts_from : Held → Held → Held
parts_from g h = with_words g.words (with_clauses g.clauses (with_activity g.activity h))

abbrev pub parts_of : Held → Held
parts_of h = alone h.words h.clauses h.activity

-- ---- on what is held

pub rescaled_parts : (h : Held) → rescaled h ≡ parts_from (rescaled (parts_of h)) h
unfolding rescaled
rescaled_parts h = refl

chosen : (t : Bool) (h a b c d : Held) → a ≡ parts_from c h → b ≡ parts_from d h → cond t a b ≡ parts_from (cond t c d) h
chosen true h a b c d e f = e
chosen false h a b c d e f = f

pub bumped_parts : (o : ℕ) (h : Held) → activity_bumped o h ≡ parts_from (activity_bumped o (parts_of h)) h
unfolding activity_bumped
bumped_parts o h =
    chosen (lt limit (sum_for o h)) h (rescaled (activity_raised o h)) (activity_raised o h) (rescaled (activity_raised o (parts_of h))) (activity_raised o (parts_of h)) (rescaled_parts (activity_raised o h)) refl

pub decayed_parts : (h : Held) → decayed h ≡ parts_from (decayed (parts_of h)) h
unfolding decayed
decayed_parts h =
    chosen (le limit (bump_grown h).activity.bump) h (rescaled (bump_grown h)) (bump_grown h) (rescaled (bump_grown (parts_of h))) (bump_grown (parts_of h)) (rescaled_parts (bump_grown h)) refl

-- ---- on what is lent

-- k with these parts changed; of `lent_five s words clauses ..` it is `lent_five` of the changed state and buffers
abbrev pub lent_with : Stored → Lent → Lent
lent_with st k = record {
  state = with_listed st.listed (with_clause_activity st.activity k.state);
  words = st.words;
  clauses = st.clauses;
  tiers = k.tiers;
  rows = k.rows;
  counts = k.counts;
  rec = k.rec;
  host = k.host;
}

-- the parts that k holds, and k with these parts of a store g laid into its buffers
abbrev pub held_parts : Lent → Held
held_parts k = holding k.words k.clauses k.state.clauses k.state.activity

abbrev pub put_parts : Lent → Held → Lent
put_parts k g = lent_with (stored k.clauses k.state.clauses g) k

-- the words and the five lists are lent, and the levels if d: `five_lists`, `five_lists_levels`
abbrev pub five_with : Bool → Parts
five_with d = record { vars = true; state = true; words = true; tiers = true; rows = false; rec = false; levels = d; host = false }

module _ (k : Lent) where
  view_with : (g : Held) → view (put_parts k g) ≡ parts_from g (view k)
  unfolding view
  view_with g = ap (λ (l : List ℕ). with_words g.words (with_clauses l (with_activity g.activity (view k)))) (take_fill k.clauses k.state.clauses g.clauses)

  -- what the buffers hold after
  pub view_rescaled : view (put_parts k (rescaled (held_parts k))) ≡ rescaled (view k)
  unfolding view
  view_rescaled = view_with (rescaled (held_parts k)) ∙ sym (rescaled_parts (view k))

  pub view_bumped : (o : ℕ) → view (put_parts k (activity_bumped o (held_parts k))) ≡ activity_bumped o (view k)
  unfolding view
  view_bumped o = view_with (activity_bumped o (held_parts k)) ∙ sym (bumped_parts o (view k))

  pub view_decayed : view (put_parts k (decayed (held_parts k))) ≡ decayed (view k)
  unfolding view
  view_decayed = view_with (decayed (held_parts k)) ∙ sym (decayed_parts (view k))

  -- ---- a used length above its tier list's room was refused
  module _ (d : Bool) (w : Within k.state.tiers k.tiers) where
    laid : (g : Held) → lay (five_with d) k (parts_from g (view k)) ≡ put_parts k g
    unfolding view side lay lay_state lay_host
    laid g = λ i. record {
      state = state_of k.state.vars k.state.words (length g.clauses) (lengths_taken k.tiers k.state.tiers w i) k.state.recorded k.state.counts k.state.garbage k.state.binary g.activity;
      words = g.words;
      clauses = fill k.clauses k.state.clauses g.clauses;
      tiers = fill_each_same k.tiers k.state.tiers w i;
      rows = k.rows;
      counts = k.counts;
      rec = k.rec;
      host = k.host;
    }

    -- what the call leaves
    pub laid_rescaled : put_parts k (rescaled (held_parts k)) ≡ lay (five_with d) k (rescaled (view k))
    unfolding view
    laid_rescaled = sym (laid (rescaled (held_parts k))) ∙ ap (lay (five_with d) k) (sym (rescaled_parts (view k)))

    pub laid_bumped : (o : ℕ) → put_parts k (activity_bumped o (held_parts k)) ≡ lay (five_with d) k (activity_bumped o (view k))
    unfolding view
    laid_bumped o = sym (laid (activity_bumped o (held_parts k))) ∙ ap (lay (five_with d) k) (sym (bumped_parts o (view k)))

    pub laid_decayed : put_parts k (decayed (held_parts k)) ≡ lay (five_with d) k (decayed (view k))
    unfolding view
    laid_decayed = sym (laid (decayed (held_parts k))) ∙ ap (lay (five_with d) k) (sym (decayed_parts (view k)))

  -- a later step that keeps the clause list may go on from the buffers after
  pub lay_on : (d : Bool) (g h : Held) → h.clauses ≡ g.clauses → lay (five_with d) (put_parts k g) h ≡ lay (five_with d) k h
  unfolding lay lay_state
  lay_on d g h e = ap (λ (l : List ℕ). record {
    state = lay_state (five_with d) k.state h;
    words = h.words;
    clauses = l;
    tiers = fill_each k.tiers k.state.tiers h.tiers;
    rows = k.rows;
    counts = k.counts;
    rec = k.rec;
    host = lay_host (five_with d) k.host h.host;
  })
      (ap (fill (fill k.clauses k.state.clauses g.clauses) (length g.clauses)) e ∙ fill_again k.clauses k.state.clauses g.clauses ∙ ap (fill k.clauses k.state.clauses) (sym e))
