use Rattle.std.proofs.Common.{◌≡◌, drop}
use Rattle.laws.specs.Fold.{fold_list}
use Rattle.calls.specs.Bumping.{scaled_at}
use Rattle.activity.specs.Stored.{AllLoud}
use Rattle.activity.proofs.scale.Given as goal

abbrev pub invariant-loop-r : goal.invariant-loop-r
invariant-loop-r l = AllLoud l.words l.list × (fold_list scaled_at l.words (drop l.r-index l.list) ≡ fold_list scaled_at l.initial.words l.list)
