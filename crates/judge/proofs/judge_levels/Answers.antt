use mathlib.Core.Path.{refl, sym, ap}
use Rattle.laws.proofs.Tests.{and_out, and_in, passed, failed}
use Rattle.judge.proofs.Ways.{one, three, none, levels_size, levels_answer, levels_asked}
use Rattle.kinds.specs.Lent.{lent_levels, levels_only}
use Rattle.calls.specs.Call.{only_levels}
use Rattle.judge_pieces.proofs.Pieces.{sizes_levels, store_levels, host_levels}
use mathlib.Core.Bool.{not}
use Rattle.judge.proofs.judge_levels.Goals as goal

pub returns-then-not-vars_in_range : goal.returns-then-not-vars_in_range
returns-then-not-vars_in_range c =
    let a = c.args in
    let k = lent_levels a.vars a.levels.now in
    one only_levels k (sizes_levels k) (and_out _ c.vars_in_range.ensures (ap not c.if-not-vars_in_range.true))

pub returns-then-not-levels_sized : goal.returns-then-not-levels_sized
returns-then-not-levels_sized c =
    let a = c.args in
    let k = lent_levels a.vars a.levels.now in
    one only_levels k (sizes_levels k) (and_in c.vars_in_range.ensures (ap not c.if-not-vars_in_range.false) (sym (failed (levels_size a.vars (levels_only a.levels.now) c.levels_sized.ensures) (ap not c.if-not-levels_sized.true))))

pub levels_pass-requires : goal.levels_pass-requires
levels_pass-requires c =
    let a = c.args in
    let k = lent_levels a.vars a.levels.now in
    levels_asked k (passed (levels_size a.vars (levels_only a.levels.now) c.levels_sized.ensures) (ap not c.if-not-levels_sized.false))

pub returns-then-not-levels_pass : goal.returns-then-not-levels_pass
returns-then-not-levels_pass c =
    let a = c.args in
    let k = lent_levels a.vars a.levels.now in
    three only_levels k (sizes_levels k) (and_in c.vars_in_range.ensures (ap not c.if-not-vars_in_range.false) (sym (passed (levels_size a.vars (levels_only a.levels.now) c.levels_sized.ensures) (ap not c.if-not-levels_sized.false)))) (store_levels k) (refl) (host_levels k) (sym (failed (levels_answer k c.levels_pass.ensures) (ap not c.if-not-levels_pass.true)))

pub returns : goal.returns
returns c =
    let a = c.args in
    let k = lent_levels a.vars a.levels.now in
    none only_levels k (sizes_levels k) (and_in c.vars_in_range.ensures (ap not c.if-not-vars_in_range.false) (sym (passed (levels_size a.vars (levels_only a.levels.now) c.levels_sized.ensures) (ap not c.if-not-levels_sized.false)))) (store_levels k) (refl) (host_levels k) (sym (passed (levels_answer k c.levels_pass.ensures) (ap not c.if-not-levels_pass.false)))
