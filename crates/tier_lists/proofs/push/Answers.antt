use Rattle.std.proofs.Common.{◌≡◌, length, rules, arith}
use Rattle.tier_lists.proofs.Entries.{pushed}
use Rattle.tier_lists.proofs.push.Goals as goal
use Rattle.tier_lists.proofs.push.Goals.{in-0, in-1, in-2, in_default}

pub returns : goal.returns
returns c =
    let a = c.args in
    let long : length a.used ≡ 4 = search rules in
    pushed a.used a.irred.now a.core.now a.mid.now a.local.now a.tier a.x _ long c.requires.tier_bound c.requires.tier_in_bounds
    (elim c.match-tier.branch [
      | in-0 w ↦ rw (w.irred-is, w.core-is, w.mid-is, w.local-is, w.in-0.is)
      | in-1 w ↦ rw (w.irred-is, w.core-is, w.mid-is, w.local-is, w.in-1.is)
      | in-2 w ↦ rw (w.irred-is, w.core-is, w.mid-is, w.local-is, w.in-2.is)
      | in_default w ↦ let last : a.tier ≡ 3 = omega arith in rw (w.irred-is, w.core-is, w.mid-is, w.local-is, last)
    ])
