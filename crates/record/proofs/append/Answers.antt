use Rattle.std.proofs.Common.{refl}
use Rattle.laws.specs.Lists.{read_n}
use Rattle.laws.proofs.Reading.{length_read, sets_two}
use Rattle.record.proofs.append.Goals as goal

pub returns : goal.returns
returns c =
    let a = c.args in
    (refl, rw length_read (sets_two a.rec.now _ a.used a.kind a.n (read_n a.words.now a.start a.n) c.copy.ensures))
