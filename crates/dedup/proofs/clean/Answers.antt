use Rattle.std.proofs.Common.{◌∙◌, ◌≤◌, length, arith}
use Rattle.std.proofs.lemmas.List.{take-append-le}
use Rattle.dedup.proofs.Marking.{same_unmarked}
use Rattle.dedup.proofs.clean.Goals as goal

pub returns-clause-words_unchanged : goal.returns-clause-words_unchanged
returns-clause-words_unchanged c =
    let few : c.mark-k.result ≤ length c.mark-k.new.list = omega arith in
    same_unmarked _ _ _ _ (c.unmark.auto.words ∙ c.mark-k.auto.words) c.unmark.ensures (rw take-append-le c.mark-k.ensures.marked)
