-- What a line of a walk means. docs/walk.md has the table.
use Rattle.std.specs.Prelude.{ℕ, zero, suc, ◌+◌, ◌-◌, ◌*◌, ◌^◌, Bool, true, false, cond, ◌&&◌, List, [], ◌∷◌, get_or, drop, eqb, ltb}
use Prim.Native.Char.{code}
use Prim.Native.String.{String}
use Prim.Native.String.{[] as ε, ◌∷◌ as ◌▸◌}
use Rattle.calls.specs.Call.{Command, add_clause, set_tier, delete, add_binary, implied, literals, assess, bump, decay, reduce_locals, reduce_mids, collect, prove_units, unit_simplify, empty_record}

-- a text's bytes
unfoldable pub codes : String → List ℕ
codes ε = []
codes (c ▸ s) = code c ∷ codes s

-- ---- "A number is 1 to 10 decimal digits with a value below 2^32."

unfoldable pub digit : ℕ → Bool
digit b = ltb 47 b && ltb b 58

-- a number at the start of a text, and what follows it; or none
pub data Number : Type 0 where
  none : Number
  is : ℕ → List ℕ → Number

-- k digits were read, with the value v
unfoldable pub whole : ℕ → ℕ → Bool
whole k v = ltb 0 k && ltb v (2 ^ 32)

unfoldable pub number : ℕ → ℕ → List ℕ → Number
number k v [] = cond (whole k v) (is v []) none
number k v (b ∷ l) = cond (digit b) (cond (ltb k 10) (number (suc k) (v * 10 + (b - 48)) l) none) (cond (whole k v) (is v (b ∷ l)) none)

-- ---- the numbers of a line

pub data Taken : Type 0 where
  no : Taken
  taken : List ℕ → Taken

unfoldable pub more : ℕ → Taken → Taken
more v no = no
more v (taken vs) = taken (v ∷ vs)

unfoldable pub after : Number → (List ℕ → Taken) → Taken
after none rest = no
after (is v l) rest = more v (rest l)

-- "A list is numbers separated by single commas; a list may be empty; more than 1,024 numbers make the line unreadable." A list ends its line.
-- n numbers may still come; of the present one k digits were read, with the value v
unfoldable pub items : ℕ → ℕ → ℕ → List ℕ → Taken
items n k v [] = cond (ltb 0 n && whole k v) (taken (v ∷ [])) no
items n k v (b ∷ l) = cond (eqb b 44) (cond (ltb 0 n && whole k v) (more v (items (n - 1) 0 0 l)) no) (cond (digit b && ltb k 10) (items n (suc k) (v * 10 + (b - 48)) l) no)

unfoldable pub listed : List ℕ → Taken
listed [] = taken []
listed (b ∷ l) = items 1024 0 0 (b ∷ l)

-- a line whose first byte is p
unfoldable pub byte : ℕ → List ℕ → (List ℕ → Taken) → Taken
byte p [] rest = no
byte p (b ∷ l) rest = cond (eqb p b) (rest l) no

-- A pattern is a line with `#` for each number and `*` for a list: the numbers that a line has where it is of that pattern.
unfoldable pub matching : List ℕ → List ℕ → Taken
matching [] [] = taken []
matching [] (b ∷ l) = no
matching (p ∷ ps) l = cond (eqb p 35) (after (number 0 0 l) (matching ps)) (cond (eqb p 42) (listed l) (byte p l (matching ps)))

-- ---- what a line asks for

pub data Meaning : Type 0 where
  -- prints `op=none answer=99` and changes nothing
  unreadable : Meaning
  start : ℕ → Meaning
  -- the eight lengths lent
  room : List ℕ → Meaning
  -- a call on the store, or one that reads it
  call : Command → Meaning
  -- from, to
  view : ℕ → ℕ → Meaning
  -- literal
  unit : ℕ → Meaning
  -- literal, kind, value, level
  assign : ℕ → ℕ → ℕ → ℕ → Meaning
  undo : Meaning
  level : ℕ → Meaning
  -- variable, level
  depth : ℕ → ℕ → Meaning
  -- buffer, place, value
  poke : ℕ → ℕ → ℕ → Meaning
  answers : Bool → Meaning
  show : Meaning
  dump : Meaning
  tails : Meaning

-- the i-th number of a line
unfoldable pub nth : List ℕ → ℕ → ℕ
nth vs i = get_or vs i 0

-- words, clauses, irred, core, mid, local, rows, record
unfoldable pub room_meant : List ℕ → Meaning
room_meant vs = room (nth vs 0 ∷ nth vs 1 ∷ nth vs 2 ∷ nth vs 3 ∷ nth vs 4 ∷ nth vs 5 ∷ nth vs 6 ∷ nth vs 7 ∷ [])

-- "N 1: .. on; N 0: off again; else unreadable"
unfoldable pub switched : ℕ → Meaning
switched n = cond (eqb n 0) (answers false) (cond (eqb n 1) (answers true) unreadable)

-- an op: its pattern, and what its numbers mean
pub data Op : Type 0 where
  op : String → (List ℕ → Meaning) → Op

unfoldable pub ops : List Op
ops =
    op "op=start vars=#" (λ vs. start (nth vs 0)) ∷
    op "op=room words=# clauses=# irred=# core=# mid=# local=# rows=# record=#" room_meant ∷
    op "op=long tier=# glue=# lits=*" (λ vs. call (add_clause (nth vs 0) (nth vs 1) (drop 2 vs))) ∷
    op "op=binary lits=*" (λ vs. call (add_binary vs)) ∷
    op "op=tier ref=# tier=#" (λ vs. call (set_tier (nth vs 0) (nth vs 1))) ∷
    op "op=delete ref=#" (λ vs. call (delete (nth vs 0))) ∷
    op "op=bump ref=#" (λ vs. call (bump (nth vs 0))) ∷
    op "op=decay" (λ vs. call decay) ∷
    op "op=locals" (λ vs. call reduce_locals) ∷
    op "op=mids" (λ vs. call reduce_mids) ∷
    op "op=collect" (λ vs. call collect) ∷
    op "op=units" (λ vs. call prove_units) ∷
    op "op=simplify" (λ vs. call unit_simplify) ∷
    op "op=empty" (λ vs. call empty_record) ∷
    op "op=assess lits=*" (λ vs. call (assess vs)) ∷
    op "op=implied lit=#" (λ vs. call (implied (nth vs 0))) ∷
    op "op=literals ref=#" (λ vs. call (literals (nth vs 0))) ∷
    op "op=view from=# to=#" (λ vs. view (nth vs 0) (nth vs 1)) ∷
    op "op=unit lit=#" (λ vs. unit (nth vs 0)) ∷
    op "op=assign lit=# kind=# value=# level=#" (λ vs. assign (nth vs 0) (nth vs 1) (nth vs 2) (nth vs 3)) ∷
    op "op=undo" (λ vs. undo) ∷
    op "op=level level=#" (λ vs. level (nth vs 0)) ∷
    op "op=depth var=# level=#" (λ vs. depth (nth vs 0) (nth vs 1)) ∷
    op "op=poke buffer=# at=# value=#" (λ vs. poke (nth vs 0) (nth vs 1) (nth vs 2)) ∷
    op "op=answers on=#" (λ vs. switched (nth vs 0)) ∷
    op "op=show" (λ vs. show) ∷
    op "op=dump" (λ vs. dump) ∷
    op "op=tails" (λ vs. tails) ∷
    []

-- the first op of whose pattern a line is says what it means (no line is of two: each pattern has its name behind `op=`)
unfoldable pub heard : (List ℕ → Meaning) → Taken → Meaning → Meaning
heard meant no otherwise = otherwise
heard meant (taken vs) otherwise = meant vs

unfoldable pub first_of : List Op → List ℕ → Meaning
first_of [] line = unreadable
first_of (op pattern meant ∷ os) line = heard meant (matching (codes pattern) line) (first_of os line)

unfoldable pub meaning : List ℕ → Meaning
meaning line = first_of ops line

-- ---- the table by place: the i-th op's pattern, and what its numbers mean

unfoldable pub pattern_in : List Op → ℕ → List ℕ
pattern_in [] i = []
pattern_in (op pattern meant ∷ os) zero = codes pattern
pattern_in (op pattern meant ∷ os) (suc i) = pattern_in os i

unfoldable pub meant_in : List Op → ℕ → List ℕ → Meaning
meant_in [] i vs = unreadable
meant_in (op pattern meant ∷ os) zero vs = meant vs
meant_in (op pattern meant ∷ os) (suc i) vs = meant_in os i vs

unfoldable pub pattern_at : ℕ → List ℕ
pattern_at i = pattern_in ops i

unfoldable pub meant_at : ℕ → List ℕ → Meaning
meant_at i vs = meant_in ops i vs
