use Rattle.activity.proofs.Keeping.{dropped}
use Rattle.activity.proofs.drop_deleted.Goals as goal

pub returns : goal.returns
returns c = rw c.clear.ensures (dropped _ _ _ _ _ c.requires.within c.move_undeleted-kept.auto.list c.move_undeleted-kept.ensures.few c.move_undeleted-kept.ensures.front)
