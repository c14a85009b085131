use Rattle.simplify_room.proofs.Tally.{two_list}
use Rattle.simplify_room.proofs.two_left.Goals as goal

pub returns : goal.returns
returns c = two_list _ _ c.requires.offset_in_bounds.1 (rw c.word-n.ensures.0 at c.copy_unfalsified.ensures)
