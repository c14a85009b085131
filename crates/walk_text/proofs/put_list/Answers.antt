use Rattle.std.proofs.Common.{◌≡◌, [], ◌∷◌, drop, drop-cons, add-one, ◌+◌}
use Rattle.std.proofs.Math.ListN.{drop_of_length-le}
use Rattle.std.proofs.lemmas.List.{nil_from_length}
use Rattle.walk_text.specs.Numbers.{commas}
use Rattle.walk_text.proofs.Listing.{begun, went_on, ended, within}
use Rattle.walk_text.proofs.put_list.Goals as goal

pub returns-in_default : goal.returns-in_default
unfolding commas
returns-in_default g c =
    let none : c.args.list.now ≡ [] = nil_from_length _ c.in_default.ensures.cases in
    rw none c.put_text.ensures

pub loop-n-init : goal.loop-n-init
loop-n-init g c =
    let first = c.put_number-to in
    let whole : c.args.list.now ≡ c.in-Some.first.now ∷ c.in-Some.rest.now = c.in-Some.ensures.cases.0 in
    (within _ _ _ _ _ first.ensures first.auto.out, rw whole (begun _ _ _ _ _ _ (rw c.value.ensures at first.ensures)))

pub loop-n-preserved : goal.loop-n-preserved
loop-n-preserved g c =
    let l = c.loop-n in
    let next = c.put_further-to in
    let rest = c.in-Some.rest.now in
    let one : drop l.n-index rest ≡ c.n-item.result ∷ drop (l.n-index + 1) rest = rw (drop-cons rest l.n-index c.n-item.result c.loop-n-test.true, add-one, ← c.n-item.is) in
    (within _ _ _ _ _ next.ensures next.auto.out, went_on l.out _ l.to _ _ _ _ (rw c.value-in-loop-n.ensures at next.ensures) (rw one at l.invariant.1))

pub returns : goal.returns
returns g c =
    let l = c.loop-n in
    let none : drop l.n-index c.in-Some.rest.now ≡ [] = drop_of_length-le _ c.loop-n-test.false in
    ended l.out l.to _ l.invariant.0 (rw none at l.invariant.1)
