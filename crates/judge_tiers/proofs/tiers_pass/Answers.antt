use mathlib.Core.Path.{refl, sym, ◌∙◌}
use native.Mathlib.Omega.{arith}
use Rattle.laws.proofs.Chains.{all_stop}
use Rattle.judge_tiers.proofs.Tiers.{prepared, tier_is, tiers_all}
use Rattle.judge_tiers.proofs.tiers_pass.Goals as goal

pub tier_ok-requires : goal.tier_ok-requires
tier_ok-requires c = prepared c.requires.ready

pub returns-then-not-tier_ok : goal.returns-then-not-tier_ok
returns-then-not-tier_ok c =
    let b = c.requires.lens_in_bounds in
    let x = c.tier_ok.ensures in
    (all_stop _ 0 4 (omega arith) (tier_is _ _ _ _ _ _ c.requires.ready.listed 0 b.0 x.0 refl) c.if-not-tier_ok.true, x.1)

pub tier_ok-requires-2 : goal.tier_ok-requires-2
tier_ok-requires-2 c = rw c.tier_ok.ensures.1 (prepared c.requires.ready)

pub returns-then-not-tier_ok-2 : goal.returns-then-not-tier_ok-2
returns-then-not-tier_ok-2 c =
    let b = c.requires.lens_in_bounds in
    let x = c.tier_ok.ensures in
    let y = c.tier_ok-2.ensures in
    (all_stop _ 1 4 (omega arith) (tier_is _ _ _ _ _ _ c.requires.ready.listed 1 b.1 y.0 x.1) c.if-not-tier_ok-2.true, y.1 ∙ x.1)

pub tier_ok-requires-3 : goal.tier_ok-requires-3
tier_ok-requires-3 c = rw (c.tier_ok-2.ensures.1, c.tier_ok.ensures.1) (prepared c.requires.ready)

pub returns-then-not-tier_ok-3 : goal.returns-then-not-tier_ok-3
returns-then-not-tier_ok-3 c =
    let b = c.requires.lens_in_bounds in
    let x = c.tier_ok.ensures in
    let y = c.tier_ok-2.ensures in
    let z = c.tier_ok-3.ensures in
    (all_stop _ 2 4 (omega arith) (tier_is _ _ _ _ _ _ c.requires.ready.listed 2 b.2 z.0 (y.1 ∙ x.1)) c.if-not-tier_ok-3.true, z.1 ∙ y.1 ∙ x.1)

pub tier_ok-requires-4 : goal.tier_ok-requires-4
tier_ok-requires-4 c = rw (c.tier_ok-3.ensures.1, c.tier_ok-2.ensures.1, c.tier_ok.ensures.1) (prepared c.requires.ready)

pub returns : goal.returns
returns c =
    let h = c.requires.ready.listed in
    let b = c.requires.lens_in_bounds in
    let x = c.tier_ok.ensures in
    let y = c.tier_ok-2.ensures in
    let z = c.tier_ok-3.ensures in
    let w = c.tier_ok-4.ensures in (
      tiers_all _ _ _ _ _ _ h (sym (tier_is _ _ _ _ _ _ h 0 b.0 x.0 refl) ∙ c.if-not-tier_ok.false) (sym (tier_is _ _ _ _ _ _ h 1 b.1 y.0 x.1) ∙ c.if-not-tier_ok-2.false)
          (sym (tier_is _ _ _ _ _ _ h 2 b.2 z.0 (y.1 ∙ x.1)) ∙ c.if-not-tier_ok-3.false) (tier_is _ _ _ _ _ _ h 3 b.3 w.0 (z.1 ∙ y.1 ∙ x.1)),
      w.1 ∙ z.1 ∙ y.1 ∙ x.1,
    )
