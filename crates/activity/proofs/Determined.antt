-- The contract of `set_decay` allows one reply: "outcomes it allows are shown equal". Assumes nothing.
use mathlib.Core.Path.{◌≡◌, refl, sym, ap, ◌∙◌}
use mathlib.Core.Bool.{cond}
use Prim.Native.Nat.{ℕ}
use lib.Dec.{eqb}
use lib.Ieee.{Float}
use Rattle.std.specs.Prelude.{Result, Ok, Err}
use Rattle.kinds.specs.Lent.{lent_activity}
use Rattle.kinds.specs.Numbers.{refusal_number}
use Rattle.kinds.specs.declared.ClauseActivity.{ClauseActivity}
use Rattle.kinds.specs.declared.Refusal.{Refusal}
use Rattle.kinds.specs.declared.Refusal.TheVariants.{Size, Store, Host, Clause, Tier, Reference, Original, Asserting, Level, Open, Room, Decay}
use Rattle.calls.specs.Call.{set_decay}
use Rattle.calls.specs.Outcome.{Outcome, nothing, done}
use Rattle.calls.specs.Answers.{number_of, activity_after}

-- the reply of a number, and of the activity where it is 0
abbrev reply_of : ℕ → ClauseActivity → Result ClauseActivity Refusal
reply_of n a =
    cond (eqb n 0) (Ok a)
    (Err (cond (eqb n 1) Size (cond (eqb n 2) Store (cond (eqb n 3) Host (cond (eqb n 4) Clause (cond (eqb n 5) Tier (cond (eqb n 6) Reference (cond (eqb n 7) Original (cond (eqb n 8) Asserting (cond (eqb n 9) Level (cond (eqb n 10) Open (cond (eqb n 11) Room Decay))))))))))))

reply_back : (a : ClauseActivity) (r : Result ClauseActivity Refusal) → reply_of (number_of r) (activity_after a r) ≡ r
reply_back a (Ok b) = refl
reply_back a (Err Size) = refl
reply_back a (Err Store) = refl
reply_back a (Err Host) = refl
reply_back a (Err Clause) = refl
reply_back a (Err Tier) = refl
reply_back a (Err Reference) = refl
reply_back a (Err Original) = refl
reply_back a (Err Asserting) = refl
reply_back a (Err Level) = refl
reply_back a (Err Open) = refl
reply_back a (Err Room) = refl
reply_back a (Err Decay) = refl

-- what `set_decay` ensures of its reply
abbrev pub replied : ClauseActivity → Result ClauseActivity Refusal → Outcome
replied a r = record { number = number_of r; answer = nothing; then = lent_activity (activity_after a r) }

pub one_reply : (a : ClauseActivity) (d : Float) (r s : Result ClauseActivity Refusal) → replied a r ≡ done (set_decay d) (lent_activity a) → replied a s ≡ done (set_decay d) (lent_activity a) → r ≡ s
one_reply a d r s p q = sym (reply_back a r) ∙ ap (λ (o : Outcome). reply_of o.number o.then.state.activity) (p ∙ sym q) ∙ reply_back a s
