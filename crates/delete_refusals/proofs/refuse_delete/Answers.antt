use mathlib.Core.Path.{◌≡◌, refl, sym, ◌∙◌, ap}
use mathlib.Core.Bool.{true, false, not}
use Prim.Native.Nat.{◌+◌}
use native.Mathlib.Omega.{arith}
use lib.ListN.{length}
use borrow.Author.Tests.{eq-eqb, ne_eqb, le-leb, lt-leb}
use Rattle.laws.proofs.Tests.{passed, failed}
use Rattle.kinds.specs.Clauses.{len_at, tier_at}
use Rattle.kinds.specs.Lent.{lent_by}
use Rattle.delete_refusals.proofs.Deleting.{by_given, words_used, clauses_used, record_used, clauses_placed, live_ready, room_by}
use borrow.Author.Rules.{rules}
use Rattle.delete_refusals.proofs.refuse_delete.Goals as goal

pub is_live-requires : goal.is_live-requires
is_live-requires c =
    let four_lengths : length c.args.s.tiers ≡ 4 = search rules in
    let a = c.args in
    record { used_in_bounds = (words_used a.s a.words.now a.clauses.now a.irred.now a.core.now a.mid.now a.local.now a.rec.now (lent_by a.host) a.cref.0 (four_lengths) c.requires, clauses_used a.s a.words.now a.clauses.now a.irred.now a.core.now a.mid.now a.local.now a.rec.now (lent_by a.host) a.cref.0 (four_lengths) c.requires); n_value = clauses_placed a.s a.words.now a.clauses.now a.irred.now a.core.now a.mid.now a.local.now a.rec.now (lent_by a.host) a.cref.0 (four_lengths) c.requires }

pub returns-then-not-is_live : goal.returns-then-not-is_live
returns-then-not-is_live c =
    let a = c.args in
    by_given a.s a.words.now a.clauses.now a.irred.now a.core.now a.mid.now a.local.now a.rec.now (lent_by a.host) a.cref.0 false _ _ _ (failed c.is_live.ensures (ap not c.if-not-is_live.true)) refl refl refl

pub tier_at-tier-requires : goal.tier_at-tier-requires
tier_at-tier-requires c =
    let four_lengths : length c.args.s.tiers ≡ 4 = search rules in
    let a = c.args in
    let r = live_ready a.s a.words.now a.clauses.now a.irred.now a.core.now a.mid.now a.local.now a.rec.now (lent_by a.host) a.cref.0 (four_lengths) c.requires (passed c.is_live.ensures (ap not c.if-not-is_live.false)) in
    let w = r.within in
    omega arith

pub returns-then-tier-eq0 : goal.returns-then-tier-eq0
returns-then-tier-eq0 c =
    let a = c.args in
    by_given a.s a.words.now a.clauses.now a.irred.now a.core.now a.mid.now a.local.now a.rec.now (lent_by a.host) a.cref.0 true true _ _ (passed c.is_live.ensures (ap not c.if-not-is_live.false)) (eq-eqb (tier_at a.words.now a.cref.0) 0 (sym c.tier_at-tier.ensures.0 ∙ c.if-tier-eq0.true)) refl refl

pub asserting-requires : goal.asserting-requires
asserting-requires c =
    let four_lengths : length c.args.s.tiers ≡ 4 = search rules in
    let a = c.args in
    let r = live_ready a.s a.words.now a.clauses.now a.irred.now a.core.now a.mid.now a.local.now a.rec.now (lent_by a.host) a.cref.0 (four_lengths) c.requires (passed c.is_live.ensures (ap not c.if-not-is_live.false)) in
    record { offset_in_bounds = r.within; offset_in_bounds_2 = (r.values, r.kinds, r.reasons, r.levels) }

pub returns-then-asserting : goal.returns-then-asserting
returns-then-asserting c =
    let a = c.args in
    by_given a.s a.words.now a.clauses.now a.irred.now a.core.now a.mid.now a.local.now a.rec.now (lent_by a.host) a.cref.0 true false true _ (passed c.is_live.ensures (ap not c.if-not-is_live.false)) (ne_eqb (tier_at a.words.now a.cref.0) 0 (λ e. c.if-tier-eq0.false (c.tier_at-tier.ensures.0 ∙ e))) (sym c.asserting.ensures ∙ c.if-asserting.true) refl

pub word-len-requires : goal.word-len-requires
word-len-requires c =
    let four_lengths : length c.args.s.tiers ≡ 4 = search rules in
    let a = c.args in
    let r = live_ready a.s a.words.now a.clauses.now a.irred.now a.core.now a.mid.now a.local.now a.rec.now (lent_by a.host) a.cref.0 (four_lengths) c.requires (passed c.is_live.ensures (ap not c.if-not-is_live.false)) in
    let w = r.within in
    omega arith

pub overflow_sub-rec : goal.overflow_sub-rec
overflow_sub-rec c =
    let four_lengths : length c.args.s.tiers ≡ 4 = search rules in
    let a = c.args in
    record_used a.s a.words.now a.clauses.now a.irred.now a.core.now a.mid.now a.local.now a.rec.now (lent_by a.host) a.cref.0 (four_lengths) c.requires

pub returns-then-rec-s : goal.returns-then-rec-s
returns-then-rec-s c =
    let four_lengths : length c.args.s.tiers ≡ 4 = search rules in
    let a = c.args in
    let u = record_used a.s a.words.now a.clauses.now a.irred.now a.core.now a.mid.now a.local.now a.rec.now (lent_by a.host) a.cref.0 (four_lengths) c.requires in
    let e : c.word-len.result ≡ len_at a.words.now a.cref.0 = c.word-len.ensures.0 in
    let t = c.if-rec-s.true in
    by_given a.s a.words.now a.clauses.now a.irred.now a.core.now a.mid.now a.local.now a.rec.now (lent_by a.host) a.cref.0 true false false false (passed c.is_live.ensures (ap not c.if-not-is_live.false)) (ne_eqb (tier_at a.words.now a.cref.0) 0 (λ e. c.if-tier-eq0.false (c.tier_at-tier.ensures.0 ∙ e))) (sym c.asserting.ensures ∙ c.if-asserting.false) (room_by a.s a.words.now a.clauses.now a.irred.now a.core.now a.mid.now a.local.now a.rec.now (lent_by a.host) a.cref.0 (four_lengths) c.requires ∙ lt-leb (a.s.recorded + (len_at a.words.now a.cref.0 + 2)) (length a.rec.now) (omega arith))

pub returns : goal.returns
returns c =
    let four_lengths : length c.args.s.tiers ≡ 4 = search rules in
    let a = c.args in
    let u = record_used a.s a.words.now a.clauses.now a.irred.now a.core.now a.mid.now a.local.now a.rec.now (lent_by a.host) a.cref.0 (four_lengths) c.requires in
    let e : c.word-len.result ≡ len_at a.words.now a.cref.0 = c.word-len.ensures.0 in
    let t = c.if-rec-s.false in
    by_given a.s a.words.now a.clauses.now a.irred.now a.core.now a.mid.now a.local.now a.rec.now (lent_by a.host) a.cref.0 true false false true (passed c.is_live.ensures (ap not c.if-not-is_live.false)) (ne_eqb (tier_at a.words.now a.cref.0) 0 (λ e. c.if-tier-eq0.false (c.tier_at-tier.ensures.0 ∙ e))) (sym c.asserting.ensures ∙ c.if-asserting.false) (room_by a.s a.words.now a.clauses.now a.irred.now a.core.now a.mid.now a.local.now a.rec.now (lent_by a.host) a.cref.0 (four_lengths) c.requires ∙ le-leb (a.s.recorded + (len_at a.words.now a.cref.0 + 2)) (length a.rec.now) (omega arith))
