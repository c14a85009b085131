use Rattle.walk_text.proofs.Listing.{comma}
use Rattle.walk_text.proofs.put_further.Goals as goal

pub returns : goal.returns
returns c = comma _ _ _ _ _ _ _ c.put_text-to.ensures c.put_number.ensures
