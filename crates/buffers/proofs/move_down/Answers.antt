use Rattle.std.proofs.Common.{◌∙◌}
use Rattle.laws.proofs.Parts.{moved_part}
use Rattle.buffers.proofs.move_down.Goals as goal

pub returns : goal.returns
returns c = c.copy_within.ensures.after ∙ moved_part _ _ _ _ c.requires.0 c.requires.1
