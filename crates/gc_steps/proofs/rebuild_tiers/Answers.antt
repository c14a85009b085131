use Rattle.gc_steps.proofs.Four.{each_rebuilt, lengths_rebuilt}
use borrow.Author.Rules.{rules}
use Rattle.gc_steps.proofs.rebuild_tiers.Goals as goal

pub returns : goal.returns
returns c =
    let a = c.rebuild-irreds.ensures in
    let b = c.rebuild-cores.ensures in
    let m = c.rebuild-mids.ensures in
    let l = c.rebuild-locals.ensures in
    (each_rebuilt _ _ _ (search rules) _ _ _ _ _ _ _ _ a.0 b.0 m.0 l.0, lengths_rebuilt _ _ _ _ _ _ a.1 b.1 m.1 l.1)
