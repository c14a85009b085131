use mathlib.Core.Path.{refl, ◌∙◌}
use Prim.Native.Nat.{◌-◌}
use borrow.Author.Tests.{eq-eqb}
use Rattle.laws.proofs.Chains.{and_pass}
use Rattle.kinds.specs.Clauses.{len_at}
use Rattle.calls.specs.HostPasses.{reason_clause_ok}
use native.Mathlib.Omega.{arith}
use Rattle.judge_reasons.proofs.Live.{live_within, live_used, others_are}
use Rattle.judge_reasons.proofs.Judging.clause_ok.Goals as goal

pub word-len-requires : goal.word-len-requires
word-len-requires c = let z = live_within _ _ _ c.args.self.readable c.args.reference.0 c.is_live.ensures c.if-not-is_live.false in omega (arith, z.ends, z.three)

pub bounds-words-offset : goal.bounds-words-offset
bounds-words-offset c = let z = live_within _ _ _ c.args.self.readable c.args.reference.0 c.is_live.ensures c.if-not-is_live.false in omega (arith, z.ends, z.three)

pub slice_bounds-all_false-count : goal.slice_bounds-all_false-count
slice_bounds-all_false-count c = let z = live_within _ _ _ c.args.self.readable c.args.reference.0 c.is_live.ensures c.if-not-is_live.false in omega (arith, z.ends, z.three)

pub slice_bounds-all_false-end : goal.slice_bounds-all_false-end
slice_bounds-all_false-end c = let z = live_within _ _ _ c.args.self.readable c.args.reference.0 c.is_live.ensures c.if-not-is_live.false in omega (arith, z.ends, z.three)

pub slice_bounds-all_false-start : goal.slice_bounds-all_false-start
slice_bounds-all_false-start c = let z = live_within _ _ _ c.args.self.readable c.args.reference.0 c.is_live.ensures c.if-not-is_live.false in omega (arith, z.ends, z.three)

pub returns-then-words-offset : goal.returns-then-words-offset
unfolding reason_clause_ok
returns-then-words-offset c =
    let z = live_within _ _ _ c.args.self.readable c.args.reference.0 c.is_live.ensures c.if-not-is_live.false in
    and_pass (c.is_live.ensures ∙ live_used _ _ _) c.if-not-is_live.false
    (and_pass refl (eq-eqb _ _ c.if-words-offset.true) (c.all_false.ensures ∙ others_are c.args.self.words.now c.args.self.clauses.now c.args.self.host.values.now c.args.reference.0 _ (len_at c.args.self.words.now c.args.reference.0 - 1) (omega (arith, z.three)) (omega (arith, z.ends))))
