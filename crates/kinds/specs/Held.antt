-- What lent buffers hold: every step is defined on this level.
use Rattle.std.specs.Prelude.{Bool, true, false, not, ◌&&◌, ◌||◌, cond, List, [], ◌∷◌, ◌++◌, ℕ, ◌+◌, ◌/◌, ◌%◌, get_or, eqb}
use Rattle.laws.specs.Lists.{at, push}
use Rattle.kinds.specs.Clauses.{var_of, first_at}
use Rattle.kinds.specs.Lines.{Line, line_words}
use Rattle.kinds.specs.Numbers.{reason_of}
use Rattle.kinds.specs.declared.ClauseActivity.{ClauseActivity}
use Rattle.kinds.specs.declared.Node.{Node}
use Rattle.kinds.specs.declared.LitValue.{LitValue}
use Rattle.kinds.specs.declared.LitValue.TheVariants.{True, False, Unassigned}

-- the host's side; `trail` is the used part
pub record Side : Type 0 where
  pub values : List ℕ
  pub kinds : List ℕ
  pub reasons : List ℕ
  pub levels : List ℕ
  pub trail : List ℕ
  pub level : ℕ

-- the store and the host's side. `words` is the whole buffer, of which the first `used` count; the lists, the rows (by code) and the record are the used parts
pub record Held : Type 0 where
  pub vars : ℕ
  pub words : List ℕ
  pub used : ℕ
  pub clauses : List ℕ
  pub tiers : List (List ℕ)
  pub rows : List (List ℕ)
  pub rec : List ℕ
  pub counts : List ℕ
  pub garbage : ℕ
  pub binary : ℕ
  pub activity : ClauseActivity
  pub host : Side

-- ---- one setter for each field

abbrev pub held_of : ℕ → List ℕ → ℕ → List ℕ → List (List ℕ) → List (List ℕ) → List ℕ → List ℕ → ℕ → ℕ → ClauseActivity → Side → Held
held_of v w u c t r l n g b a s = record { vars = v; words = w; used = u; clauses = c; tiers = t; rows = r; rec = l; counts = n; garbage = g; binary = b; activity = a; host = s }

abbrev pub with_words : List ℕ → Held → Held
with_words x h = held_of h.vars x h.used h.clauses h.tiers h.rows h.rec h.counts h.garbage h.binary h.activity h.host

abbrev pub with_used_words : ℕ → Held → Held
with_used_words x h = held_of h.vars h.words x h.clauses h.tiers h.rows h.rec h.counts h.garbage h.binary h.activity h.host

abbrev pub with_clauses : List ℕ → Held → Held
with_clauses x h = held_of h.vars h.words h.used x h.tiers h.rows h.rec h.counts h.garbage h.binary h.activity h.host

abbrev pub with_tiers : List (List ℕ) → Held → Held
with_tiers x h = held_of h.vars h.words h.used h.clauses x h.rows h.rec h.counts h.garbage h.binary h.activity h.host

abbrev pub with_rows : List (List ℕ) → Held → Held
with_rows x h = held_of h.vars h.words h.used h.clauses h.tiers x h.rec h.counts h.garbage h.binary h.activity h.host

abbrev pub with_rec : List ℕ → Held → Held
with_rec x h = held_of h.vars h.words h.used h.clauses h.tiers h.rows x h.counts h.garbage h.binary h.activity h.host

abbrev pub with_counts : List ℕ → Held → Held
with_counts x h = held_of h.vars h.words h.used h.clauses h.tiers h.rows h.rec x h.garbage h.binary h.activity h.host

abbrev pub with_garbage : ℕ → Held → Held
with_garbage x h = held_of h.vars h.words h.used h.clauses h.tiers h.rows h.rec h.counts x h.binary h.activity h.host

abbrev pub with_binary : ℕ → Held → Held
with_binary x h = held_of h.vars h.words h.used h.clauses h.tiers h.rows h.rec h.counts h.garbage x h.activity h.host

abbrev pub with_activity : ClauseActivity → Held → Held
with_activity x h = held_of h.vars h.words h.used h.clauses h.tiers h.rows h.rec h.counts h.garbage h.binary x h.host

abbrev pub with_host : Side → Held → Held
with_host x h = held_of h.vars h.words h.used h.clauses h.tiers h.rows h.rec h.counts h.garbage h.binary h.activity x

-- the reasons and the trail are all that a call changes of the host's side
abbrev pub with_reasons : List ℕ → List ℕ → List ℕ → Side → Side
with_reasons kinds reasons trail s = record { values = s.values; kinds = kinds; reasons = reasons; levels = s.levels; trail = trail; level = s.level }

-- ---- small changes

-- one more entry of tier t's list
abbrev pub list_in : ℕ → ℕ → Held → Held
list_in t o h = with_tiers (push t o h.tiers) h

-- one more line of the record
abbrev pub noted : Line → Held → Held
noted l h = with_rec (h.rec ++ line_words l) h

-- ---- reading the host's side

-- a literal under an assignment; a literal out of range is unassigned
abbrev pub byte_of : List ℕ → ℕ → ℕ
byte_of a l = get_or a (var_of l) 2

abbrev pub is_true : List ℕ → ℕ → Bool
is_true a l = eqb (byte_of a l + l % 2) 1

abbrev pub is_open : List ℕ → ℕ → Bool
is_open a l = eqb (byte_of a l) 2

abbrev pub is_false : List ℕ → ℕ → Bool
is_false a l = not (is_true a l || is_open a l)

-- "`Option` for `lit_value`: an enum answer"
abbrev pub value_of : List ℕ → ℕ → LitValue
value_of a l = cond (is_true a l) True (cond (is_open a l) Unassigned False)

-- "a node struct of reason enum and level, read from the variable's words"
abbrev pub node_of : List ℕ → List ℕ → List ℕ → ℕ → Node
node_of kinds reasons levels v = record { reason = reason_of (at kinds v) (at reasons v); level = at levels v }

abbrev pub node_at : Side → ℕ → Node
node_at s v = node_of s.kinds s.reasons s.levels v

-- the kind byte and the value word of the reason of a literal's variable
abbrev pub kind_of : Side → ℕ → ℕ
kind_of s l = at s.kinds (var_of l)

abbrev pub reason_word : Side → ℕ → ℕ
reason_word s l = at s.reasons (var_of l)

-- "an asserting clause: first literal true, its reason this clause"
unfoldable pub asserting : Held → ℕ → Bool
asserting h o =
    let l = first_at h.words o in
    is_true h.host.values l && (eqb (kind_of h.host l) 3 && eqb (reason_word h.host l) o)
