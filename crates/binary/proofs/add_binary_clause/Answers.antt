use lib.ListN.{length-set}
use Rattle.binary.proofs.Pairs.{first_fits, second_fits, rows_twice, counts_twice}
use Rattle.binary.proofs.add_binary_clause.Goals as goal

pub push-requires : goal.push-requires
push-requires c =
    let r = c.requires.a_in_bounds in
    rw c.negated-not_a.ensures (r.0, first_fits _ _ _ _ _ r.0 r.1 r.2 c.requires.by_index, r.2, r.3)

pub push-requires-2 : goal.push-requires-2
push-requires-2 c =
    let r = c.requires.a_in_bounds in
    rw (c.negated-not_b.ensures, c.push.ensures.1, c.negated-not_a.ensures, c.push.auto.rows)
    (simp length-set (r.1, second_fits _ _ _ _ _ r.0 r.1 r.2 c.requires.by_index, r.2, r.3))

pub returns : goal.returns
returns c =
    let r = c.requires.a_in_bounds in
    let e = rw c.negated-not_a.ensures at c.push.ensures in
    let f = rw c.negated-not_b.ensures at c.push-2.ensures in (
      rows_twice _ _ _ _ _ r.0 r.1 r.2 c.requires.by_index _ _ _ _ _ _ e.0 e.1 f.0 f.1,
      counts_twice _ _ _ _ _ r.0 r.1 r.2 c.requires.by_index _ _ _ _ _ _ e.0 e.1 f.0 f.1,
    )
