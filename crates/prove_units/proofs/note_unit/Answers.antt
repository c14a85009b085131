use lib.ListN.{length-set}
use Rattle.prove_units.proofs.Reasons.{in_words, long_size, long_said}
use native.Mathlib.Omega.{arith}
use Rattle.prove_units.proofs.note_unit.Goals as goal

pub copy-requires : goal.copy-requires
copy-requires c =
    let w = in_words _ c.args.lit _ _ c.in-Long.is c.requires.1 in
    let z = long_size _ c.args.lit _ _ c.in-Long.is c.requires.1 in
    (simp length-set (omega (arith, c.requires.0, z, c.word-n.ensures.0, w)), omega (arith, c.word-n.ensures.0, w))

pub returns-in-Long : goal.returns-in-Long
returns-in-Long c = long_said _ _ _ _ c.in-Long.is c.requires.1 _ _ _ _ c.word-n.ensures.0 c.copy.ensures
