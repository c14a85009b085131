-- The contracts of the view allow one answer each: "outcomes it allows are shown equal". Assumes nothing.
use mathlib.Core.Path.{◌≡◌, refl, sym, ap, ◌∙◌}
use mathlib.Core.Bool.{Bool, true, false, cond}
use mathlib.Core.List.{List}
use Prim.Native.Nat.{ℕ}
use native.Mathlib.Omega.{arith}
use lib.Dec.{eqb}
use Rattle.laws.specs.Fold.{one}
use Rattle.kinds.specs.Floats.{unity}
use Rattle.kinds.specs.Lent.{Lent, lent_activity}
use Rattle.kinds.specs.Numbers.{tier_number}
use Rattle.kinds.specs.Setters.{activity_of}
use Rattle.std.specs.Prelude.{Option, Some, None}
use Rattle.kinds.specs.declared.Lit.{Lit}
use Rattle.kinds.specs.declared.Tier.{Tier}
use Rattle.kinds.specs.declared.Tier.TheVariants.{Irred, Core, Mid, Local}
use Rattle.calls.specs.Viewing.{Fields}
use Rattle.calls.specs.Outcome.{Outcome, Answer, nothing, reference, rebuild, proved, assessed, part, fields, literal}
use Rattle.view.specs.Shown.{shown, fields_from}
use Rattle.view.specs.declared.HeaderFields.{HeaderFields}
use Rattle.view.proofs.Viewed.{ShowsFields, ShowsPlace}

-- what a view may be told beside it: nothing
abbrev alone : Lent
alone = lent_activity (activity_of unity unity)

-- the numbers say the values
abbrev tier_back_lem : ℕ → Tier
tier_back_lem n = cond (eqb n 0) Irred (cond (eqb n 1) Core (cond (eqb n 2) Mid Local))

tier_back : (t : Tier) → tier_back_lem (tier_number t) ≡ t
tier_back Irred = refl
tier_back Core = refl
tier_back Mid = refl
tier_back Local = refl

one_back : (b : Bool) → eqb (one b) 1 ≡ b
one_back true = refl
one_back false = refl

abbrev fields_in : Answer → Fields
fields_in nothing = fields_from 0 0 0
fields_in (reference o) = fields_from 0 0 0
fields_in (rebuild b) = fields_from 0 0 0
fields_in (proved b) = fields_from 0 0 0
fields_in (assessed t g) = fields_from 0 0 0
fields_in (part l) = fields_from 0 0 0
fields_in (fields f) = f
fields_in (literal l) = fields_from 0 0 0

abbrev literal_in : Answer → ℕ
literal_in nothing = 0
literal_in (reference o) = 0
literal_in (rebuild b) = 0
literal_in (proved b) = 0
literal_in (assessed t g) = 0
literal_in (part l) = 0
literal_in (fields f) = 0
literal_in (literal l) = l

pub one_fields : (ws : List ℕ) (r s : HeaderFields) → ShowsFields ws r → ShowsFields ws s → r ≡ s
one_fields ws r s p q =
    let e : shown r ≡ shown s = ap (λ (o : Outcome). fields_in o.answer) (p alone ∙ sym (q alone)) in
    let tiers : r.tier ≡ s.tier = sym (tier_back r.tier) ∙ ap (λ (f : Fields). tier_back_lem f.tier) e ∙ tier_back s.tier in
    let deleted : r.deleted ≡ s.deleted = sym (one_back r.deleted) ∙ ap (λ (f : Fields). eqb f.deleted 1) e ∙ one_back s.deleted in
    let marks : r.mark ≡ s.mark = sym (one_back r.mark) ∙ ap (λ (f : Fields). eqb f.mark 1) e ∙ one_back s.mark in
    let active : r.active ≡ s.active = sym (one_back r.active) ∙ ap (λ (f : Fields). eqb f.active 1) e ∙ one_back s.active in
    λ i. record { activity = (e i).activity; tier = tiers i; deleted = deleted i; mark = marks i; glue = (e i).glue; active = active i; len = (e i).len }

pub one_place : (ws : List ℕ) (i : ℕ) (r s : Option Lit) → ShowsPlace ws i r → ShowsPlace ws i s → r ≡ s
one_place ws i (Some a) (Some b) p q =
    let e : a.0 ≡ b.0 = ap (λ (o : Outcome). literal_in o.answer) (p alone ∙ sym (q alone)) in
    let same : a ≡ b = λ j. record { 0 = e j } in
    ap Some same
one_place ws i (Some a) None p q =
    let e : ◌≡◌ {A = ℕ} 0 4 = ap (λ (o : Outcome). o.number) (p alone ∙ sym (q alone)) in
    absurd (omega arith)
one_place ws i None (Some b) p q =
    let e : ◌≡◌ {A = ℕ} 4 0 = ap (λ (o : Outcome). o.number) (p alone ∙ sym (q alone)) in
    absurd (omega arith)
one_place ws i None None p q = refl
