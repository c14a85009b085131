use mathlib.Core.Path.{◌≡◌, sym}
use lib.ListN.{length}
use borrow.Author.Rules.{rules}
use Rattle.kinds.specs.Lent.{lent_by}
use Rattle.gc_steps.proofs.Collecting.{collect_allowed}
use Rattle.gc_steps.proofs.refuse_collect.Goals as goal

pub returns : goal.returns
returns c =
    let four_lengths : length c.args.s.tiers ≡ 4 = search rules in
    let a = c.args in
    sym (collect_allowed a.s a.words.now a.clauses.now a.irred.now a.core.now a.mid.now a.local.now (lent_by a.host) four_lengths c.requires)
