use Rattle.std.proofs.Common.{◌≡◌, ◌+◌, ◌-◌, ◌*◌, sym, arith}
use Rattle.laws.specs.Lists.{at}
use Rattle.kinds.proofs.RowLayout.{row_at}
use Rattle.binary.proofs.implied.Goals as goal

pub returns : goal.returns
returns c =
    let a = c.args in
    let k : a.lit.0 * a.room + at a.counts.now a.lit.0 - a.lit.0 * a.room ≡ at a.counts.now a.lit.0 = omega arith in
    rw k (sym (row_at a.room a.counts.now a.rows.now a.lit.0 c.requires.0))
