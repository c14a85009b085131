use mathlib.Core.Path.{refl, sym, ap}
use mathlib.Core.List.{[]}
use Rattle.laws.proofs.Tests.{and_out, and_in, passed, failed}
use Rattle.judge.proofs.Ways.{one, two, none, record_size}
use Rattle.kinds.specs.Lent.{lent_record, no_host}
use Rattle.calls.specs.Call.{only_record}
use Rattle.judge_sizes.proofs.Whole.{floats_judged}
use Rattle.judge_pieces.proofs.Pieces.{sizes_record, store_record, host_none}
use mathlib.Core.Bool.{not}
use Rattle.judge.proofs.judge_record.Goals as goal

pub returns-then-not-vars_in_range : goal.returns-then-not-vars_in_range
returns-then-not-vars_in_range c =
    let a = c.args in
    let k = lent_record a.s a.rec.now in
    one only_record k (sizes_record k) (and_out _ c.vars_in_range.ensures (ap not c.if-not-vars_in_range.true))

pub returns-then-not-record_sized : goal.returns-then-not-record_sized
returns-then-not-record_sized c =
    let a = c.args in
    let k = lent_record a.s a.rec.now in
    one only_record k (sizes_record k) (and_in c.vars_in_range.ensures (ap not c.if-not-vars_in_range.false) (sym (failed (record_size a.s [] [] [] [] [] [] [] [] a.rec.now no_host c.record_sized.ensures) (ap not c.if-not-record_sized.true))))

pub returns-then-not-floats_pass : goal.returns-then-not-floats_pass
returns-then-not-floats_pass c =
    let a = c.args in
    let k = lent_record a.s a.rec.now in
    two only_record k (sizes_record k) (and_in c.vars_in_range.ensures (ap not c.if-not-vars_in_range.false) (sym (passed (record_size a.s [] [] [] [] [] [] [] [] a.rec.now no_host c.record_sized.ensures) (ap not c.if-not-record_sized.false)))) (store_record k) (sym (failed (floats_judged k c.floats_pass.ensures) (ap not c.if-not-floats_pass.true)))

pub returns : goal.returns
returns c =
    let a = c.args in
    let k = lent_record a.s a.rec.now in
    none only_record k (sizes_record k) (and_in c.vars_in_range.ensures (ap not c.if-not-vars_in_range.false) (sym (passed (record_size a.s [] [] [] [] [] [] [] [] a.rec.now no_host c.record_sized.ensures) (ap not c.if-not-record_sized.false)))) (store_record k) (sym (passed (floats_judged k c.floats_pass.ensures) (ap not c.if-not-floats_pass.false))) (host_none k).3 (refl)
