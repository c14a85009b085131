-- The judging of the long reasons, for what is lent. Assumes nothing.
use mathlib.Core.Path.{◌≡◌, sym, ◌∙◌}
use mathlib.Core.Bool.{Bool, true}
use lib.ListN.{length, take}
use lib.Dec.{leb}
use borrow.Author.Tests.{leb-true}
use Rattle.laws.proofs.Folds.{and_left, and_right}
use Rattle.kinds.specs.Lent.{Lent}
use Rattle.kinds.specs.Layout.{view, side}
use Rattle.calls.specs.Size.{sized, words_sized}
use Rattle.calls.specs.StorePasses.{placed, clauses_ok}
use Rattle.calls.specs.HostPasses.{long_reasons_ok}
use Rattle.judge_host.specs.Sides.{side_of}
use Rattle.judge_reasons.specs.Reasons.{besides, Listed}
use Rattle.judge_reasons.proofs.Live.{reasons_alone}

module _ (k : Lent) where
  -- what `reasons_pass` requires of the words and the clause list, where refusals 1 and 2 do not hold
  pub words_listed : words_sized k ≡ true → placed k.words k.state.words k.clauses k.state.clauses ≡ true → clauses_ok k.words k.state.vars k.clauses k.state.clauses ≡ true
      → Listed k.words k.state.vars k.state.words k.clauses k.state.clauses
  unfolding words_sized sized
  words_listed e p q = record {
    room = leb-true k.state.words (length k.words) (and_right (leb (length k.words) 16777216) _ (and_left _ _ e));
    listed = leb-true k.state.clauses (length k.clauses) (and_right (leb (length k.clauses) 4194304) _ (and_right (sized 16777216 k.state.words k.words) _ e));
    lies = p;
    good = q;
  }

  -- what `reasons_pass` answers
  pub reasons_judged : {r : Bool}
      → r ≡ long_reasons_ok (besides k.words (take k.state.clauses k.clauses) (side_of k.host.values k.host.kinds k.host.reasons k.host.levels (take k.host.assigned k.host.trail) 0))
      → r ≡ long_reasons_ok (view k)
  unfolding view side
  reasons_judged p = p ∙ sym (reasons_alone (view k))
