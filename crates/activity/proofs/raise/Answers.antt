use native.Mathlib.Nat.{lt_of_le_of_lt}
use lib.Dec.{T, lit<}
use lib.Ieee.{binary32, fits, of_bits}
use lib.Ieee.Fits.{add-fits}
use borrow.Author.Rules.{rules}
use Rattle.laws.specs.Lists.{at}
use Rattle.kinds.specs.Floats.{bump_sum}
use Rattle.kinds.proofs.FloatRanges.{no_nan, no_nan_bits, activity_bound, sum_range}
use Rattle.activity.proofs.raise.Goals as goal

pub float_from_bits-sum : goal.float_from_bits-sum
float_from_bits-sum c = no_nan_bits _ (lt_of_le_of_lt (activity_bound _ c.requires.1) (lit< tt))

pub float_to_bits-words : goal.float_to_bits-words
float_to_bits-words c =
    let held : T (fits binary32 c.args.bump) = search rules in
    let w = at c.args.words.now c.args.offset in
    no_nan (bump_sum w c.args.bump) (add-fits binary32 (of_bits binary32 w) c.args.bump) (lt_of_le_of_lt (sum_range w c.args.bump (held) c.requires.1 c.requires.2) (lit< tt))
