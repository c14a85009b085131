-- What the code's answers stand for: values is the buffer that holds the numbers that were read.
use Rattle.std.specs.Prelude.{ℕ, Option, Some, None, cond, List, [], ◌∷◌, ◌++◌, take, drop}
use Rattle.calls.specs.Call.{add_clause, set_tier, delete, add_binary, implied, literals, assess, bump, decay, reduce_locals, reduce_mids, collect, prove_units, unit_simplify, empty_record}
use Rattle.walk_lines.specs.Lines.{whole, Number, none, is, Taken, no, taken, Meaning, unreadable, start, room, call, view, unit, assign, undo, level, depth, poke, answers, show, dump, tails}
use Rattle.walk_kinds.specs.declared.Rooms.{Rooms}
use Rattle.walk_lines.specs.declared.Line.{Line}
use Rattle.walk_lines.specs.declared.Line.TheVariants.{Unreadable, Start, Room, Long, Binary, Tier, Delete, Bump, Decay, Locals, Mids, Collect, Units, Simplify, Empty, Assess, Implied, Literals, View, Unit, Assign, Undo, Level, Depth, Poke, Answers, Show, Dump, Tails}

-- a number, and the place behind it
abbrev pub number_of : List ℕ → Option (ℕ × ℕ) → Number
number_of line None = none
number_of line (Some p) = is p.0 (drop p.1 line)

-- k digits with the value v were read, up to the place i
abbrev pub digits_at : ℕ → ℕ → ℕ → Option (ℕ × ℕ)
digits_at k v i = cond (whole k v) (Some (v, i)) None

abbrev pub taken_of : List ℕ → Option ℕ → Taken
taken_of values None = no
taken_of values (Some n) = taken (take n values)

-- numbers read before, and then more
unfoldable pub prefixed : List ℕ → Taken → Taken
prefixed vs no = no
prefixed vs (taken ws) = taken (vs ++ ws)

abbrev pub room_of : Rooms → Meaning
room_of r = room (r.words ∷ r.clauses ∷ r.irred ∷ r.core ∷ r.mid ∷ r.local ∷ r.rows ∷ r.rec ∷ [])

abbrev pub meaning_of : List ℕ → Line → Meaning
meaning_of values Unreadable = unreadable
meaning_of values (Start v) = start v
meaning_of values (Room r) = room_of r
meaning_of values (Long t g n) = call (add_clause t g (drop 2 (take n values)))
meaning_of values (Binary n) = call (add_binary (take n values))
meaning_of values (Tier o t) = call (set_tier o.0 t)
meaning_of values (Delete o) = call (delete o.0)
meaning_of values (Bump o) = call (bump o.0)
meaning_of values Decay = call decay
meaning_of values Locals = call reduce_locals
meaning_of values Mids = call reduce_mids
meaning_of values Collect = call collect
meaning_of values Units = call prove_units
meaning_of values Simplify = call unit_simplify
meaning_of values Empty = call empty_record
meaning_of values (Assess n) = call (assess (take n values))
meaning_of values (Implied l) = call (implied l.0)
meaning_of values (Literals o) = call (literals o.0)
meaning_of values (View a b) = view a b
meaning_of values (Unit l) = unit l.0
meaning_of values (Assign l k w d) = assign l.0 k w d
meaning_of values Undo = undo
meaning_of values (Level d) = level d
meaning_of values (Depth x d) = depth x.0 d
meaning_of values (Poke b i w) = poke b i w
meaning_of values (Answers on) = answers on
meaning_of values Show = show
meaning_of values Dump = dump
meaning_of values Tails = tails
