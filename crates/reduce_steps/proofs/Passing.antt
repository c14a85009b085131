-- The store of a judging that gave 0, by the entries of its lists. Assumes nothing.
use mathlib.Core.Path.{◌≡◌, sym, ap₂, ◌∙◌}
use mathlib.Core.Bool.{Bool, true, ◌&&◌}
use mathlib.Core.List.{[]}
use lib.ListN.{length}
use Rattle.kinds.specs.Lent.{Lent, Parts}
use Rattle.kinds.specs.Layout.{view}
use Rattle.calls.specs.Outcome.{judged}
use Rattle.calls.proofs.Judged.{sizes_judged, store_judged, words_sized_lem}
use Rattle.calls.proofs.Readings.{words_pass_lem, tiers_pass}
use Rattle.calls.proofs.After.{tiers_length}
use Rattle.passing.proofs.Store.{Store}
use Rattle.passing.proofs.Tests.{store_read}

-- the first three premises are facts of the types
pub store_lent : (p : Parts) (k : Lent) → length k.tiers ≡ 4 → length k.state.tiers ≡ 4 → length k.state.counts ≡ 4 → p.words ≡ true → p.tiers ≡ true → judged p k ≡ 0
    → Store (view k).vars (view k).words (view k).used (view k).clauses (view k).counts (view k).garbage (view k).tiers []
unfolding view
store_lent p k lists lens counts w t j =
    let s = store_judged p k j in
    store_read (view k) (words_pass_lem p (view k) s w) (tiers_pass p (view k) s (ap₂ (λ (a b : Bool). a && b) w t)) counts (tiers_length k.state.tiers k.tiers (lens ∙ sym lists) ∙ lens)
    (words_sized_lem p k (sizes_judged p k j) w).used
