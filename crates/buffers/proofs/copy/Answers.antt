use mathlib.Core.Path.{refl}
use Prim.Native.Nat.{◌+◌}
use Rattle.laws.specs.Lists.{at, read_n}
use Rattle.laws.proofs.Reading.{length_read, read_snoc, sets_snoc}
use Rattle.buffers.proofs.copy.Goals as goal

pub loop-i-init : goal.loop-i-init
unfolding read_n
loop-i-init c = refl

pub loop-i-preserved : goal.loop-i-preserved
loop-i-preserved c =
    let a = c.args in
    let l = c.loop-i in
    rw (l.invariant, read_snoc a.from.now a.start l.i, sets_snoc (read_n a.from.now a.start l.i) a.to.now a.place (at a.from.now (a.start + l.i)), length_read a.from.now a.start l.i)
