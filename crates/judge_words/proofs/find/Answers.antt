use Rattle.std.proofs.Common.{Ok, Err, rules, of_calls}
use Rattle.std.specs.Ordering.{nat_cmp}
use Rattle.std.proofs.lemmas.Fn.{always_returns_same}
use Rattle.std.proofs.lemmas.List.Sorted.{searched}
use Rattle.judge_words.proofs.Bisect.{risen, found_at, found_none}
use Rattle.judge_words.proofs.find.Goals as goal

pub returns-in-Ok : goal.returns-in-Ok
returns-in-Ok c =
    let p = c.in-Ok.ensures.position (λ y. nat_cmp y c.args.e) (always_returns_same _ _ _ (λ a r f k. search (rules, of_calls))) in
    found_at c.requires.1 c.requires.0 _ _ (searched _ c.args.e (Ok c.in-Ok.k) p (risen c.requires.1 c.requires.0))

pub returns-in-Err : goal.returns-in-Err
returns-in-Err c =
    let p = c.in-Err.ensures.position (λ y. nat_cmp y c.args.e) (always_returns_same _ _ _ (λ a r f k. search (rules, of_calls))) in
    found_none c.requires.1 c.requires.0 _ c.in-Err.field-0 (searched _ c.args.e (Err c.in-Err.field-0) p (risen c.requires.1 c.requires.0))
