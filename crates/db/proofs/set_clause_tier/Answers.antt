use mathlib.Core.Path.{◌≡◌, refl, sym, ap, ◌∙◌, subst}
use mathlib.Core.Bool.{true, not}
use mathlib.Core.List.{List}
use Prim.Native.Nat.{ℕ, ◌+◌, ◌≤◌, ◌<◌}
use native.Mathlib.Omega.{arith}
use lib.ListN.{length, take}
use borrow.Author.Tests.{not-false}
use Rattle.kinds.specs.Clauses.{tier_at, is_live}
use Rattle.kinds.specs.Numbers.{refusal_number}
use Rattle.kinds.specs.Lent.{Lent, lent_five, no_host}
use Rattle.kinds.specs.Layout.{view, lay}
use Rattle.calls.specs.Call.{set_tier, parts, five_lists}
use Rattle.calls.specs.StorePasses.{placed}
use Rattle.calls.specs.Adding.{tier_set}
use Rattle.calls.specs.Outcome.{judged, own_number, has_room, refused}
use Rattle.std.proofs.lemmas.Result.{err_from_is_err_and}
use Rattle.replies.proofs.Ways.{judge_refused}
use Rattle.db.proofs.Tiering.{live_asked, inside, tier_way, live_way, change_way, room_way, none_given, set_way}
use Rattle.db.proofs.set_clause_tier.Goals as goal

pub returns-in_err-judge_five : goal.returns-in_err-judge_five
unfolding parts
returns-in_err-judge_five c =
    let a = c.args in
    let k : List ℕ → Lent = λ w. lent_five a.s w a.clauses.now a.irred.now a.core.now a.mid.now a.local.now no_host in
    let p = err_from_is_err_and c.from_residual.result c.from_residual.ensures.1 in
    rw (p.1, p.2) (judge_refused (set_tier a.cref.0 a.tier) k c.in_err-judge_five.ensures.1 c.in_err-judge_five.field-0.0 c.in_err-judge_five.ensures.0)

pub returns-then-tier-gt3 : goal.returns-then-tier-gt3
returns-then-tier-gt3 c =
    let a = c.args in
    let j = c.in_ok-judge_five in
    (ap (λ (w : List ℕ). refused 5 (lent_five a.s w a.clauses.now a.irred.now a.core.now a.mid.now a.local.now no_host)) j.ensures.1) ∙ tier_way a.s a.words.now a.clauses.now a.irred.now a.core.now a.mid.now a.local.now a.cref.0 a.tier (sym j.ensures.0) c.if-tier-gt3.true

pub is_live-requires : goal.is_live-requires
is_live-requires c =
    let a = c.args in
    let j = c.in_ok-judge_five in
    let q = live_asked a.s a.words.now a.clauses.now a.irred.now a.core.now a.mid.now a.local.now a.cref.0 a.tier (sym j.ensures.0) in
    record { used_in_bounds = (subst (λ (w : List ℕ). a.s.words ≤ length w) (sym j.ensures.1) q.0, q.1); n_value = subst (λ (w : List ℕ). placed w a.s.words a.clauses.now a.s.clauses ≡ true) (sym j.ensures.1) q.2 }

pub returns-then-not-is_live : goal.returns-then-not-is_live
returns-then-not-is_live c =
    let a = c.args in
    let j = c.in_ok-judge_five in
    (ap (λ (w : List ℕ). refused 6 (lent_five a.s w a.clauses.now a.irred.now a.core.now a.mid.now a.local.now no_host)) j.ensures.1) ∙ live_way a.s a.words.now a.clauses.now a.irred.now a.core.now a.mid.now a.local.now a.cref.0 a.tier (sym j.ensures.0) c.if-tier-gt3.false (c.is_live.ensures ∙ ap (λ (w : List ℕ). is_live w (take a.s.clauses a.clauses.now) a.cref.0) j.ensures.1) (ap not c.if-not-is_live.true)

pub tier_at-old-requires : goal.tier_at-old-requires
tier_at-old-requires c =
    let a = c.args in
    let j = c.in_ok-judge_five in
    subst (λ (w : List ℕ). a.cref.0 + 1 < length w) (sym j.ensures.1) (inside a.s a.words.now a.clauses.now a.irred.now a.core.now a.mid.now a.local.now a.cref.0 a.tier (sym j.ensures.0) (sym (c.is_live.ensures ∙ ap (λ (w : List ℕ). is_live w (take a.s.clauses a.clauses.now) a.cref.0) j.ensures.1) ∙ not-false _ (ap not c.if-not-is_live.false)))

pub returns-then-irred_change : goal.returns-then-irred_change
returns-then-irred_change c =
    let a = c.args in
    let j = c.in_ok-judge_five in
    (ap (λ (w : List ℕ). refused 7 (lent_five a.s w a.clauses.now a.irred.now a.core.now a.mid.now a.local.now no_host)) j.ensures.1) ∙ change_way a.s a.words.now a.clauses.now a.irred.now a.core.now a.mid.now a.local.now a.cref.0 a.tier (sym j.ensures.0) c.if-tier-gt3.false (c.is_live.ensures ∙ ap (λ (w : List ℕ). is_live w (take a.s.clauses a.clauses.now) a.cref.0) j.ensures.1) (ap not c.if-not-is_live.false) c.tier_at-old.result (c.tier_at-old.ensures.0 ∙ ap (λ (w : List ℕ). tier_at w a.cref.0) j.ensures.1) c.irred_change.ensures c.if-irred_change.true

pub tier_fits-requires : goal.tier_fits-requires
tier_fits-requires c =
    let a = c.args in
    let j = c.in_ok-judge_five in
    let l = c.if-tier-gt3.false in
    record { no_host_value = subst (λ (w : List ℕ). judged five_lists (lent_five a.s w a.clauses.now a.irred.now a.core.now a.mid.now a.local.now no_host) ≡ 0) (sym j.ensures.1) (sym j.ensures.0); tier_bound = (omega arith, c.tier_at-old.ensures.0) }

pub returns-then-not-tier_fits : goal.returns-then-not-tier_fits
returns-then-not-tier_fits c =
    let a = c.args in
    let j = c.in_ok-judge_five in
    (ap (λ (w : List ℕ). refused 11 (lent_five a.s w a.clauses.now a.irred.now a.core.now a.mid.now a.local.now no_host)) j.ensures.1) ∙ room_way a.s a.words.now a.clauses.now a.irred.now a.core.now a.mid.now a.local.now a.cref.0 a.tier (sym j.ensures.0) c.if-tier-gt3.false (c.is_live.ensures ∙ ap (λ (w : List ℕ). is_live w (take a.s.clauses a.clauses.now) a.cref.0) j.ensures.1) (ap not c.if-not-is_live.false) c.tier_at-old.result (c.tier_at-old.ensures.0 ∙ ap (λ (w : List ℕ). tier_at w a.cref.0) j.ensures.1) c.irred_change.ensures c.if-irred_change.false (c.tier_fits.ensures ∙ ap (λ (w : List ℕ). has_room (set_tier a.cref.0 a.tier) (lent_five a.s w a.clauses.now a.irred.now a.core.now a.mid.now a.local.now no_host)) j.ensures.1) (ap not c.if-not-tier_fits.true)

pub change_tier-requires : goal.change_tier-requires
change_tier-requires c =
    let a = c.args in
    let j = c.in_ok-judge_five in
    record { no_host_value = subst (λ (w : List ℕ). judged five_lists (lent_five a.s w a.clauses.now a.irred.now a.core.now a.mid.now a.local.now no_host) ≡ 0) (sym j.ensures.1) (sym j.ensures.0); no_host_value_2 = subst (λ (w : List ℕ). own_number (set_tier a.cref.0 a.tier) (lent_five a.s w a.clauses.now a.irred.now a.core.now a.mid.now a.local.now no_host) ≡ 0) (sym j.ensures.1) (none_given a.s a.words.now a.clauses.now a.irred.now a.core.now a.mid.now a.local.now a.cref.0 a.tier (sym j.ensures.0) c.if-tier-gt3.false (c.is_live.ensures ∙ ap (λ (w : List ℕ). is_live w (take a.s.clauses a.clauses.now) a.cref.0) j.ensures.1) (ap not c.if-not-is_live.false) c.tier_at-old.result (c.tier_at-old.ensures.0 ∙ ap (λ (w : List ℕ). tier_at w a.cref.0) j.ensures.1) c.irred_change.ensures c.if-irred_change.false (c.tier_fits.ensures ∙ ap (λ (w : List ℕ). has_room (set_tier a.cref.0 a.tier) (lent_five a.s w a.clauses.now a.irred.now a.core.now a.mid.now a.local.now no_host)) j.ensures.1) (ap not c.if-not-tier_fits.false)) }

pub returns : goal.returns
returns c =
    let a = c.args in
    let j = c.in_ok-judge_five in
    set_way a.s a.words.now a.clauses.now a.irred.now a.core.now a.mid.now a.local.now a.cref.0 a.tier (sym j.ensures.0) (none_given a.s a.words.now a.clauses.now a.irred.now a.core.now a.mid.now a.local.now a.cref.0 a.tier (sym j.ensures.0) c.if-tier-gt3.false (c.is_live.ensures ∙ ap (λ (w : List ℕ). is_live w (take a.s.clauses a.clauses.now) a.cref.0) j.ensures.1) (ap not c.if-not-is_live.false) c.tier_at-old.result (c.tier_at-old.ensures.0 ∙ ap (λ (w : List ℕ). tier_at w a.cref.0) j.ensures.1) c.irred_change.ensures c.if-irred_change.false (c.tier_fits.ensures ∙ ap (λ (w : List ℕ). has_room (set_tier a.cref.0 a.tier) (lent_five a.s w a.clauses.now a.irred.now a.core.now a.mid.now a.local.now no_host)) j.ensures.1) (ap not c.if-not-tier_fits.false))
    (c.change_tier.ensures ∙ ap (λ (w : List ℕ). lay five_lists (lent_five a.s w a.clauses.now a.irred.now a.core.now a.mid.now a.local.now no_host) (tier_set a.tier a.cref.0 (view (lent_five a.s w a.clauses.now a.irred.now a.core.now a.mid.now a.local.now no_host)))) j.ensures.1)
