use Rattle.std.proofs.Common.{◌≡◌, ◌≤◌, length, drop, map}
use Rattle.walk_text.specs.Page.{page, written}
use Rattle.walk_text.specs.Numbers.{further, commas}
use Rattle.walk_text.proofs.put_list.Given as goal

abbrev pub invariant-loop-n : goal.invariant-loop-n
invariant-loop-n g l =
    (l.to ≤ length l.out)
    × (written (further (map g.T.Number.value (drop l.n-index l.rest))) (page l.out l.to) ≡ written (commas (map g.T.Number.value l.fn.list)) (page l.fn.out l.at))
