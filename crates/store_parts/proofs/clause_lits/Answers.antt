use mathlib.Core.Path.{refl, ap}
use mathlib.Core.Bool.{not}
use mathlib.Core.List.{[]}
use Prim.Native.Nat.{◌+◌}
use native.Mathlib.Omega.{arith}
use Rattle.kinds.specs.Lent.{lent_words, no_host}
use Rattle.calls.specs.Call.{literals, words_and_list, parts}
use Rattle.replies.proofs.Ways.{judge_not_err}
use Rattle.reading_calls.proofs.Literals.{ready, ends}
use Rattle.store_parts.proofs.Parts.{part_judged, lits_gone, lits_read}
use Rattle.store_parts.proofs.clause_lits.Goals as goal

pub returns-in-Err : goal.returns-in-Err
unfolding parts
returns-in-Err c =
    let a = c.args in
    let e = c.no_part.ensures in
    rw (e.1, e.2) (part_judged (literals a.cref.0) (lent_words a.s a.words.now a.clauses.now [] no_host) c.in-Err.refusal c.in-Err.ensures a.words.now (a.cref.0 + 3) e.0)

pub is_live-requires : goal.is_live-requires
is_live-requires c =
    let a = c.args in
    let j = judge_not_err words_and_list (lent_words a.s a.words.now a.clauses.now [] no_host) _ c.judge_list.ensures c.in_default.not-Err in
    let r = ready a.s a.words.now a.clauses.now a.cref.0 0 j refl in
    record { used_in_bounds = (r.used, r.listed); n_value = r.places }

pub returns-then-not-is_live : goal.returns-then-not-is_live
returns-then-not-is_live c =
    let a = c.args in
    let e = c.no_part-then-not-is_live.ensures in
    let j = judge_not_err words_and_list (lent_words a.s a.words.now a.clauses.now [] no_host) _ c.judge_list.ensures c.in_default.not-Err in
    rw (e.0, e.1, e.2) (lits_gone a.s a.words.now a.clauses.now a.cref.0 0 j refl _ c.is_live.ensures (ap not c.if-not-is_live.true))

pub word-requires : goal.word-requires
word-requires c =
    let a = c.args in
    let j = judge_not_err words_and_list (lent_words a.s a.words.now a.clauses.now [] no_host) _ c.judge_list.ensures c.in_default.not-Err in
    let h = ends a.s a.words.now a.clauses.now a.cref.0 0 j refl _ c.is_live.ensures (ap not c.if-not-is_live.false) in
    omega arith

pub returns : goal.returns
returns c =
    let a = c.args in
    let j = judge_not_err words_and_list (lent_words a.s a.words.now a.clauses.now [] no_host) _ c.judge_list.ensures c.in_default.not-Err in
    lits_read a.s a.words.now a.clauses.now a.cref.0 0 j refl _ c.is_live.ensures (ap not c.if-not-is_live.false) _ c.word.ensures.0
