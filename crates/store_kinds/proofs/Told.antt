-- From what a call says to what is heard of it. Assumes nothing.
use mathlib.Core.Path.{◌≡◌, sym, ap, ◌∙◌}
use mathlib.Core.Bool.{Bool, false, cond}
use mathlib.Core.List.{List, []}
use Prim.Native.Nat.{ℕ}
use lib.ListN.{length, take, drop}
use lib.Dec.{eqb}
use borrow.Author.Tests.{ne_eqb}
use Rattle.kinds.specs.Lent.{Lent, Host, lent, lent_words, lent_activity, host_of}
use Rattle.kinds.specs.declared.ClauseActivity.{ClauseActivity}
use Rattle.kinds.specs.declared.State.{State}
use Rattle.calls.specs.Viewing.{Fields}
use Rattle.calls.specs.Outcome.{Outcome, Answer, nothing, fields, part_of}
use Rattle.store_kinds.specs.Heard.{value, Heard, heard, PartHeard, part_heard, AssessedHeard, assessed_heard, tier_said, glue_said}

abbrev hearing : ℕ → ℕ → Lent → Heard
hearing n a k = record { number = n; value = a; then = k }

-- the number, the value and the state of a reply, each the call's own
pub told : {n m a : ℕ} {x : Answer} {s t : State} {words clauses irred core mid local rows counts rec : List ℕ} {host : Host} {o : Outcome} → n ≡ m → a ≡ value x → s ≡ t → record { number = m; answer = x; then = lent t words clauses irred core mid local rows counts rec host } ≡ o → record { number = n; value = a; then = lent s words clauses irred core mid local rows counts rec host } ≡ heard o
told {n} {m} {a} {x} {s} {t} {words} {clauses} {irred} {core} {mid} {local} {rows} {counts} {rec} {host} e f g d =
    let k : State → Lent = λ (u : State). lent u words clauses irred core mid local rows counts rec host in
    ap (λ (y : ℕ). hearing y a (k s)) e ∙ ap (λ (y : ℕ). hearing m y (k s)) f ∙ ap (λ (u : State). hearing m (value x) (k u)) g ∙ ap heard d

abbrev fielded : ℕ → ℕ → ℕ → ℕ → ℕ → ℕ → ℕ → Fields
fielded a t d m g c l = record { activity = a; tier = t; deleted = d; mark = m; glue = g; active = c; len = l }

pub same_fields : {activity glue len t u d e m n c b : ℕ} → t ≡ u → d ≡ e → m ≡ n → c ≡ b → fielded activity t d m glue c len ≡ fielded activity u e n glue b len
same_fields {activity} {glue} {len} {t} {u} {d} {e} {m} {n} {c} {b} p q r s =
    ap (λ (x : ℕ). fielded activity x d m glue c len) p ∙ ap (λ (x : ℕ). fielded activity u x m glue c len) q ∙ ap (λ (x : ℕ). fielded activity u e x glue c len) r ∙ ap (λ (x : ℕ). fielded activity u e n glue x len) s

-- ---- a returned part

abbrev pub parting : ℕ → ℕ → ℕ → List ℕ → PartHeard
parting n start len l = record { number = n; start = start; len = len; lits = l }

-- refused: "A returned part is then empty"
pub part_refused : (buf : List ℕ) (place : ℕ) {n : ℕ} (o : Outcome) → (n ≡ 0 → ⊥) → n ≡ o.number → [] ≡ part_of o.answer → parting n 0 0 (take 0 (drop 0 buf)) ≡ part_heard place o
part_refused buf place {n} o h e p =
    let no : eqb o.number 0 ≡ false = ne_eqb o.number 0 (λ q. h (e ∙ q)) in
    ap (λ (m : ℕ). parting m 0 0 []) e
    ∙ ap (λ (l : List ℕ). parting o.number 0 (length l) l) p
    ∙ ap (λ (b : Bool). parting o.number (cond b place 0) (length (part_of o.answer)) (part_of o.answer)) (sym no)

-- given
pub part_given_lem : (buf : List ℕ) (place len : ℕ) (o : Outcome) → length (take len (drop place buf)) ≡ len → 0 ≡ o.number → take len (drop place buf) ≡ part_of o.answer → parting 0 place len (take len (drop place buf)) ≡ part_heard place o
part_given_lem buf place len o e z p =
    ap (λ (m : ℕ). parting 0 place m (take len (drop place buf))) (sym e)
    ∙ ap (λ (l : List ℕ). parting 0 place (length l) l) p
    ∙ ap (λ (m : ℕ). parting m (cond (eqb m 0) place 0) (length (part_of o.answer)) (part_of o.answer)) z

-- ---- assessing

pub assessed_told : {n m t g : ℕ} {x : Answer} {k : Lent} {o : Outcome} → n ≡ m → t ≡ tier_said x → g ≡ glue_said x → record { number = m; answer = x; then = k } ≡ o → record { number = n; tier = t; glue = g } ≡ assessed_heard o
assessed_told {n} {m} {t} {g} {x} e f h d =
    let a : ℕ → ℕ → ℕ → AssessedHeard = λ (i : ℕ) (j : ℕ) (l : ℕ). record { number = i; tier = j; glue = l } in
    ap (λ (y : ℕ). a y t g) e ∙ ap (λ (y : ℕ). a m y g) f ∙ ap (λ (y : ℕ). a m (tier_said x) y) h ∙ ap assessed_heard d

-- ---- the trail's used length given back too

pub units_told : {n m a d e level : ℕ} {x : Answer} {s t : State} {words clauses rec values kinds reasons levels trail : List ℕ} {o : Outcome} → n ≡ m → a ≡ value x → s ≡ t → d ≡ e → record { number = m; answer = x; then = lent_words t words clauses rec (host_of values kinds reasons levels trail e level) } ≡ o → record { number = n; value = a; then = lent_words s words clauses rec (host_of values kinds reasons levels trail d level) } ≡ heard o
units_told {n} {m} {a} {d} {e} {level} {x} {s} {t} {words} {clauses} {rec} {values} {kinds} {reasons} {levels} {trail} p q r u h =
    let k : ℕ → Lent = λ (y : ℕ). lent_words s words clauses rec (host_of values kinds reasons levels trail y level) in
    ap (λ (y : ℕ). hearing n a (k y)) u ∙ told p q r h

-- ---- setting the decay, and a view's place

pub decay_told : {n m : ℕ} {a b : ClauseActivity} {o : Outcome} → n ≡ m → a ≡ b → record { number = m; answer = nothing; then = lent_activity b } ≡ o → record { number = n; answer = nothing; then = lent_activity a } ≡ o
decay_told {n} {m} {a} {b} e f d =
    let out : ℕ → ClauseActivity → Outcome = λ (y : ℕ) (z : ClauseActivity). record { number = y; answer = nothing; then = lent_activity z } in
    ap (λ (y : ℕ). out y a) e ∙ ap (λ (z : ClauseActivity). out m z) f ∙ d

pub place_told : {n m l : ℕ} {x : Answer} {k : Lent} {o : Outcome} → n ≡ m → l ≡ value x → record { number = m; answer = x; then = k } ≡ o → record { number = n; value = l; then = k } ≡ heard o
place_told {n} {m} {l} {x} {k} e f d = ap (λ (y : ℕ). hearing y l k) e ∙ ap (λ (y : ℕ). hearing m y k) f ∙ ap heard d

pub fields_told : {f g : Fields} {k : Lent} {o : Outcome} → f ≡ g → record { number = 0; answer = fields g; then = k } ≡ o → record { number = 0; answer = fields f; then = k } ≡ o
fields_told {f} {g} {k} e d =
    let out : Fields → Outcome = λ (y : Fields). record { number = 0; answer = fields y; then = k } in
    ap out e ∙ d
