use Rattle.judge_rows.proofs.Places.{length_is}
use Rattle.judge_rows.proofs.Rows.len.Goals as goal

pub returns : goal.returns
returns c = length_is _ _ _ c.args.self.sized c.args.c c.requires
