use mathlib.Core.Path.{sym, ap, ◌∙◌}
use Prim.Native.Nat.{◌≤◌}
use native.Mathlib.Omega.{arith}
use lib.ListN.{length, get_or-eq_default}
use Rattle.laws.specs.Lists.{at}
use Rattle.store_kinds.specs.Heard.{state_numbers}
use Rattle.store_kinds.proofs.state_number.Goals as goal

pub returns-in-0 : goal.returns-in-0
unfolding state_numbers
returns-in-0 c = sym (ap (at (state_numbers c.args.s)) c.in-0.is)

pub returns-in-1 : goal.returns-in-1
unfolding state_numbers
returns-in-1 c = sym (ap (at (state_numbers c.args.s)) c.in-1.is)

pub returns-in-2 : goal.returns-in-2
unfolding state_numbers
returns-in-2 c = sym (ap (at (state_numbers c.args.s)) c.in-2.is)

pub returns-in-3 : goal.returns-in-3
unfolding state_numbers
returns-in-3 c = sym (ap (at (state_numbers c.args.s)) c.in-3.is)

pub returns-in-4 : goal.returns-in-4
unfolding state_numbers
returns-in-4 c = sym (ap (at (state_numbers c.args.s)) c.in-4.is)

pub returns-in-5 : goal.returns-in-5
unfolding state_numbers
returns-in-5 c = sym (ap (at (state_numbers c.args.s)) c.in-5.is)

pub returns-in-6 : goal.returns-in-6
unfolding state_numbers
returns-in-6 c = sym (ap (at (state_numbers c.args.s)) c.in-6.is)

pub returns-in-7 : goal.returns-in-7
unfolding state_numbers
returns-in-7 c = sym (ap (at (state_numbers c.args.s)) c.in-7.is)

pub returns-in-8 : goal.returns-in-8
unfolding state_numbers
returns-in-8 c = sym (ap (at (state_numbers c.args.s)) c.in-8.is)

pub returns-in-9 : goal.returns-in-9
unfolding state_numbers
returns-in-9 c = sym (ap (at (state_numbers c.args.s)) c.in-9.is)

pub returns-in-10 : goal.returns-in-10
unfolding state_numbers
returns-in-10 c = sym (ap (at (state_numbers c.args.s)) c.in-10.is)

pub returns-in-11 : goal.returns-in-11
unfolding state_numbers
returns-in-11 c = sym (ap (at (state_numbers c.args.s)) c.in-11.is)

pub returns-in-12 : goal.returns-in-12
unfolding state_numbers
returns-in-12 c = sym (ap (at (state_numbers c.args.s)) c.in-12.is)

pub returns-in-13 : goal.returns-in-13
unfolding state_numbers
returns-in-13 c = sym (ap (at (state_numbers c.args.s)) c.in-13.is)

pub returns-in-14 : goal.returns-in-14
unfolding state_numbers
returns-in-14 c = c.pattern.ensures ∙ sym (ap (at (state_numbers c.args.s)) c.in-14.is)

pub returns-in-15 : goal.returns-in-15
unfolding state_numbers
returns-in-15 c = c.pattern-in-15.ensures ∙ sym (ap (at (state_numbers c.args.s)) c.in-15.is)

pub returns-in_default : goal.returns-in_default
unfolding state_numbers
returns-in_default c =
    let a = c.args in
    let past : length (state_numbers a.s) ≤ a.place = omega arith in
    sym (get_or-eq_default (state_numbers a.s) 0 past)
