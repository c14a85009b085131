-- Where a step changes nothing, the buffers stay as they are: `lay p k (view k)` is k. Assumes nothing.
use mathlib.Core.Path.{◌≡◌, refl, sym, ap, ap₂, ◌∙◌, subst}
use mathlib.Core.Bool.{Bool, true, false, cond}
use mathlib.Core.List.{List}
use Prim.Native.Nat.{ℕ, ◌*◌, ◌/◌, ◌≤◌, ◌<◌}
use native.Mathlib.Omega.{arith}
use native.Mathlib.Nat.{mul-div-le}
use lib.ListN.{length, take}
use lib.Seq.{length-take-le}
use Rattle.laws.specs.Lists.{at, list_at, lengths, take_each, fill, fill_each}
use Rattle.laws.proofs.Fills.{fill_same}
use Rattle.kinds.specs.Lent.{Lent, Parts, room_of}
use Rattle.kinds.specs.Held.{Held}
use Rattle.kinds.specs.Layout.{rows_of, fill_rows, side, view, lay_state, lay_host, lay}
use Rattle.kinds.proofs.Layouts.{Sized, sized_of}
use Rattle.kinds.proofs.RowLayout.{lengths_rows, rows_same}
use Rattle.kinds.proofs.TierLayout.{Within, within_of, lengths_each, each_same}
use Rattle.calls.specs.Size.{sizes_ok}
use Rattle.calls.proofs.Judged.{SizedList, HostSized, clauses_sized, tier_sized_lem, counts_long, counts_within, record_sized_lem, host_sized_lem}

-- a list as far as it is lent
list_same : (p : Bool) (buf : List ℕ) (n : ℕ) → (p ≡ true → n ≤ length buf) → cond p (fill buf n (take n buf)) buf ≡ buf
list_same true buf n h = fill_same buf n (h refl)
list_same false buf n h = refl

used_same : (p : Bool) (buf : List ℕ) (n : ℕ) → (p ≡ true → n ≤ length buf) → cond p (length (take n buf)) n ≡ n
used_same true buf n h = length-take-le n buf (h refl)
used_same false buf n h = refl

tiers_same : (p : Bool) (ns : List ℕ) (bs : List (List ℕ)) → (p ≡ true → Within ns bs) → cond p (fill_each bs ns (take_each ns bs)) bs ≡ bs
tiers_same true ns bs h = each_same ns bs (h refl)
tiers_same false ns bs h = refl

lens_same : (p : Bool) (ns : List ℕ) (bs : List (List ℕ)) → (p ≡ true → Within ns bs) → cond p (lengths (take_each ns bs)) ns ≡ ns
lens_same true ns bs h = lengths_each ns bs (h refl)
lens_same false ns bs h = refl

rows_kept : (p : Bool) (m : ℕ) (ns buf : List ℕ) → (p ≡ true → Sized m ns buf) → cond p (fill_rows m ns (rows_of m ns buf) buf) buf ≡ buf
rows_kept true m ns buf h = rows_same m ns buf (h refl)
rows_kept false m ns buf h = refl

counts_kept : (p : Bool) (m : ℕ) (ns buf : List ℕ) → (p ≡ true → Sized m ns buf) → cond p (lengths (rows_of m ns buf)) ns ≡ ns
counts_kept true m ns buf h = lengths_rows m ns buf (h refl)
counts_kept false m ns buf h = refl

-- the rows have their room where they are lent
pub rows_sized_lem : (p : Parts) (k : Lent) → sizes_ok p k ≡ true → p.rows ≡ true → Sized (room_of k.state.vars k.rows) k.counts k.rows
rows_sized_lem p k e q =
    let l = counts_long p k e q in
    sized_of (room_of k.state.vars k.rows) k.counts k.rows (λ c h. counts_within p k e q c (omega arith))
    (subst (λ (n : ℕ). n * room_of k.state.vars k.rows ≤ length k.rows) (sym l) (mul-div-le (length k.rows) (2 * k.state.vars)))

-- the tier lists have theirs
pub tiers_within : (p : Parts) (k : Lent) → sizes_ok p k ≡ true → length k.tiers ≡ 4 → length k.state.tiers ≡ 4 → p.tiers ≡ true → Within k.state.tiers k.tiers
tiers_within p k e four used q = within_of k.state.tiers k.tiers (used ∙ sym four) (λ t h. (tier_sized_lem p k e q t (omega arith)).used)

-- the two premises are facts of the types: four lists, four lengths
pub unchanged : (p : Parts) (k : Lent) → length k.tiers ≡ 4 → length k.state.tiers ≡ 4 → sizes_ok p k ≡ true → lay p k (view k) ≡ k
unfolding lay lay_state lay_host view side
unchanged p k four used e =
    let c : p.words ≡ true → k.state.clauses ≤ length k.clauses = λ q. (clauses_sized p k e q).used in
    let t : p.tiers ≡ true → Within k.state.tiers k.tiers = tiers_within p k e four used in
    let r : p.rows ≡ true → Sized (room_of k.state.vars k.rows) k.counts k.rows = rows_sized_lem p k e in
    let l : p.rec ≡ true → k.state.recorded ≤ length k.rec = λ q. (record_sized_lem p k e q).used in
    let h : p.host ≡ true → k.host.assigned ≤ length k.host.trail = λ q. (host_sized_lem p k e q).assigned in
    λ i. record {
      state = record {
        vars = k.state.vars;
        words = k.state.words;
        clauses = used_same p.words k.clauses k.state.clauses c i;
        tiers = lens_same p.tiers k.state.tiers k.tiers t i;
        recorded = used_same p.rec k.rec k.state.recorded l i;
        counts = k.state.counts;
        garbage = k.state.garbage;
        binary = k.state.binary;
        activity = k.state.activity;
      };
      words = k.words;
      clauses = list_same p.words k.clauses k.state.clauses c i;
      tiers = tiers_same p.tiers k.state.tiers k.tiers t i;
      rows = rows_kept p.rows (room_of k.state.vars k.rows) k.counts k.rows r i;
      counts = counts_kept p.rows (room_of k.state.vars k.rows) k.counts k.rows r i;
      rec = list_same p.rec k.rec k.state.recorded l i;
      host = record {
        values = k.host.values;
        kinds = k.host.kinds;
        reasons = k.host.reasons;
        levels = k.host.levels;
        trail = list_same p.host k.host.trail k.host.assigned h i;
        assigned = used_same p.host k.host.trail k.host.assigned h i;
        level = k.host.level;
      };
    }
