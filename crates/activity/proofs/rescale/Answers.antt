use mathlib.Core.Path.{◌≡◌, sym, ap, ◌∙◌}
use Prim.Native.Nat.{ℕ, ◌≤◌}
use native.Mathlib.Omega.{arith}
use mathlib.Core.List.{List}
use lib.ListN.{length, take, length-append}
use lib.Seq.{length-take-le}
use lib.Ieee.{binary32, mul}
use Rattle.laws.specs.Fold.{fold_list}
use Rattle.laws.specs.Lists.{fill}
use Rattle.laws.proofs.Filling.{take_fill}
use Rattle.calls.specs.Bumping.{scaled_at}
use Rattle.activity.proofs.Scaling.{live_loud}
use Rattle.activity.proofs.Ways.{rescale_way}
use Rattle.activity.proofs.rescale.Goals as goal

-- the list's front is what filled it
front : (clauses new : List ℕ) (n kept : ℕ) (live : List ℕ) → new ≡ fill clauses n live → kept ≡ length live → take kept new ≡ live
front clauses new n kept live e k = rw (e, k) (take_fill clauses n live)

within : (clauses new : List ℕ) (n kept : ℕ) (live : List ℕ) → new ≡ fill clauses n live → kept ≡ length live → kept ≤ length new
unfolding fill
within clauses new n kept live e k = omega (arith, k, simp length-append at (ap length e))

pub slice_bounds-scale-end : goal.slice_bounds-scale-end
slice_bounds-scale-end c = within _ _ _ _ _ c.drop_deleted-kept.ensures.0 c.drop_deleted-kept.ensures.1

pub slice_bounds-scale-end-2 : goal.slice_bounds-scale-end-2
slice_bounds-scale-end-2 c = sym (length-take-le _ _ (within _ _ _ _ _ c.drop_deleted-kept.ensures.0 c.drop_deleted-kept.ensures.1))

pub scale-requires : goal.scale-requires
scale-requires c = rw (front _ _ _ _ _ c.drop_deleted-kept.ensures.0 c.drop_deleted-kept.ensures.1) (live_loud _ _ _ c.requires)

pub returns : goal.returns
returns c =
    let d = c.drop_deleted-kept in
    let there = front _ _ _ _ _ d.ensures.0 d.ensures.1 in
    rescale_way c.args.words.now c.args.clauses.now c.args.n c.args.activity _ _ _ _ d.ensures.0 d.ensures.1
    (c.scale.ensures ∙ ap (fold_list scaled_at c.args.words.now) there) (ap (mul binary32 c.args.activity.bump) c.rescale_factor.ensures)
