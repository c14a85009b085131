-- What each piece of the judging may ask of the next. Assumes nothing.
use mathlib.Core.Path.{◌≡◌, sym, ◌∙◌}
use mathlib.Core.Bool.{Bool, true}
use Prim.Native.Nat.{◌^◌, ◌≤◌}
use lib.ListN.{length}
use lib.Dec.{leb}
use borrow.Author.Tests.{leb-true}
use Rattle.laws.specs.Fold.{all_below}
use Rattle.laws.proofs.Folds.{and_left, and_right}
use Rattle.kinds.specs.Lent.{Lent}
use Rattle.kinds.specs.Layout.{view}
use Rattle.calls.specs.Size.{vars_in_range, tiers_sized}
use Rattle.calls.specs.StorePasses.{words_pass, tiers_ok}
use Rattle.judge_words.proofs.Whole.{WordsSized, words_sized_lem, words_whole, words_test_lem}
use Rattle.judge_tiers.specs.Marking.{Ready, tier_test}
use Rattle.judge_tiers.proofs.Whole.{tiers_sized_lem, tiers_whole, ready_of}
use Rattle.calls.specs.Size.{levels_sized, host_sized}
use Rattle.calls.specs.StorePasses.{placed}
use Rattle.judge_host.specs.Sides.{SideSized}
use Rattle.judge_host.proofs.Whole.{side_sized_lem, assigned_within, levels_sized_lem}
use Rattle.judge_reasons.specs.Reasons.{Listed as Placed}
use Rattle.judge_reasons.proofs.Whole.{words_listed}
use Rattle.judge_pieces.specs.Sides.{list_sized, five_sized, side_sized, Listed}

-- the words and the clause list
module _ (k : Lent) (e : list_sized k ≡ true) where
  pub vars_most : k.state.vars ≤ 65536
  unfolding list_sized vars_in_range
  vars_most = leb-true k.state.vars 65536 (and_right (leb 1 k.state.vars) _ (and_left _ _ e))

  pub list_words : WordsSized k
  unfolding list_sized
  list_words = words_sized_lem k (and_right (vars_in_range k.state.vars) _ e)

  pub words_ready : (k.state.words ≤ length k.words) × (length k.words ≤ 2 ^ 24) × (k.state.clauses ≤ length k.clauses) × (k.state.vars ≤ 65536)
  words_ready = (list_words.used, list_words.most, list_words.listed, vars_most)

  pub words_judged : {r : Bool} → r ≡ words_test_lem k.words k.state.vars k.state.words k.clauses k.state.clauses k.state.counts k.state.garbage → r ≡ words_pass (view k)
  words_judged p = p ∙ sym (words_whole k list_words.listed)

-- and the tier lists
module _ (k : Lent) (e : five_sized k ≡ true) where
  pub five_list : list_sized k ≡ true
  unfolding five_sized
  five_list = and_left _ _ e

  pub five_tiers : tiers_sized k ≡ true
  unfolding five_sized
  five_tiers = and_right (list_sized k) _ e

  pub tiers_judged : {r : Bool} → r ≡ all_below (tier_test k.words k.state.words k.clauses k.state.clauses k.tiers k.state.tiers) 4 → r ≡ tiers_ok (view k)
  tiers_judged p = p ∙ sym (tiers_whole k (list_words k five_list).listed (tiers_sized_lem k five_tiers))

  pub tiers_ready : words_pass (view k) ≡ true → Ready k.words k.state.vars k.state.words k.clauses k.state.clauses
  tiers_ready p = ready_of k (list_words k five_list) p

-- the host's side
module _ (k : Lent) (e : Listed k) where
  side_vars : vars_in_range k.state.vars ≡ true
  unfolding list_sized
  side_vars = and_left _ _ e.sized

  side_levels : levels_sized k.state.vars k.host ≡ true
  unfolding side_sized
  side_levels = and_left _ _ e.side

  side_host : host_sized k.state.vars k.host ≡ true
  unfolding side_sized
  side_host = and_right (levels_sized k.state.vars k.host) _ e.side

  pub levels_ready : k.state.vars ≤ length k.host.levels
  levels_ready = levels_sized_lem k side_levels

  pub side_ready : SideSized k.state.vars k.host.values k.host.kinds k.host.reasons k.host.levels × (k.host.assigned ≤ length k.host.trail)
  side_ready = (side_sized_lem k side_vars side_levels side_host, assigned_within k side_vars side_levels side_host)

  pub placed_ready : Placed k.words k.state.vars k.state.words k.clauses k.state.clauses
  unfolding list_sized
  placed_ready =
      let t = sym (words_whole k (list_words k e.sized).listed) ∙ e.passes in
      words_listed k (and_right (vars_in_range k.state.vars) _ e.sized) (and_left _ _ t) (and_left _ _ (and_right (placed k.words k.state.words k.clauses k.state.clauses) _ t))
