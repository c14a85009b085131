use Rattle.std.proofs.Common.{◌≡◌, ◌+◌, ◌-◌, sym, arith}
use Rattle.laws.specs.Lists.{at}
use Rattle.laws.proofs.Reading.{read_take}
use Rattle.alloc.proofs.lits.Goals as goal

pub returns : goal.returns
returns c =
    let start = c.args.offset + 3 in
    let n = at c.args.words.now (c.args.offset + 2) in
    let k : start + n - start ≡ n = omega arith in
    rw k (sym (read_take c.args.words.now start n (omega arith)))
