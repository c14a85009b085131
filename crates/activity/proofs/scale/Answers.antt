use Rattle.std.proofs.Common.{sym, ap, ◌∙◌}
use native.Mathlib.Nat.{lt_of_le_of_lt, le_trans}
use lib.Dec.{lit<, lit≤}
use lib.ListN.{drop_of_length-le}
use lib.Ieee.{binary32}
use lib.Ieee.Fits.{mul-fits}
use Rattle.laws.specs.Fold.{fold_list}
use Rattle.kinds.proofs.FloatRanges.{no_nan, no_nan_bits, scaled_small, under_set}
use Rattle.calls.specs.Bumping.{scaled_at}
use Rattle.activity.specs.Stored.{twice_limit}
use Rattle.activity.proofs.Scaling.{one_turn}
use Rattle.activity.proofs.scale.Goals as goal

pub float_from_bits-words : goal.float_from_bits-words
float_from_bits-words c = no_nan_bits _ (lt_of_le_of_lt (c.loop-r.invariant.0 c.loop-r.r-index c.loop-r-test.true).1 (lit< tt))

pub float_to_bits-words : goal.float_to_bits-words
float_to_bits-words c =
    let loud = c.loop-r.invariant.0 c.loop-r.r-index c.loop-r-test.true in
    rw c.rescale_factor-factor.ensures (no_nan _ (mul-fits binary32 _ _) (lt_of_le_of_lt (scaled_small _ loud.1) (lit< tt)))

pub loop-r-preserved : goal.loop-r-preserved
loop-r-preserved c =
    let loud = c.loop-r.invariant.0 c.loop-r.r-index c.loop-r-test.true in
    rw c.rescale_factor-factor.ensures (
      λ k h. under_set twice_limit _ _ _ _ (le_trans (scaled_small _ loud.1) (lit≤ tt)) (c.loop-r.invariant.0 k h),
      sym (one_turn _ _ _ c.loop-r-test.true) ∙ c.loop-r.invariant.1,
    )

pub returns : goal.returns
unfolding fold_list
returns c = sym (ap (fold_list scaled_at c.loop-r.words) (drop_of_length-le c.args.list.now c.loop-r-test.false)) ∙ c.loop-r.invariant.1
