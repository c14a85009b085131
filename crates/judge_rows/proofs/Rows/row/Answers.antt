use Rattle.judge_rows.proofs.Places.{part_is}
use Rattle.judge_rows.proofs.Rows.row.Goals as goal

pub returns : goal.returns
returns c = part_is _ _ _ c.args.self.sized c.args.c c.requires
