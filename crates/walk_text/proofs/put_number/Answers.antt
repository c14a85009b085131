use Rattle.walk_text.proofs.Spelling.{written_out}
use Rattle.walk_text.proofs.put_number.Goals as goal

pub returns : goal.returns
returns c =
    let there = c.spell-from in
    written_out _ _ there.new.text _ _ there.result _ there.ensures.1 there.ensures.2 c.put_text.ensures
