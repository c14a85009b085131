-- The host's side as a call is lent it, and what the code keeps of the trail.
use Rattle.std.specs.Prelude.{◌≡◌, Bool, true, false, ◌&&◌, ◌||◌, List, ℕ, ◌*◌, ◌≤◌, ◌<◌, length, get_or, eqb, leb}
use Rattle.laws.specs.Fold.{any_below}
use Rattle.laws.specs.Lists.{at}
use Rattle.kinds.specs.Clauses.{var_of}
use Rattle.kinds.specs.Held.{Side, is_true, node_at}
use Rattle.kinds.specs.Numbers.{reason_kind}
use Rattle.calls.specs.StorePasses.{lits_ok}

-- `trail` is the used part
abbrev pub side_of : List ℕ → List ℕ → List ℕ → List ℕ → List ℕ → ℕ → Side
side_of values kinds reasons levels trail level = record { values = values; kinds = kinds; reasons = reasons; levels = levels; trail = trail; level = level }

-- what refusal 1 leaves: V in range, a byte or word for each variable
pub record SideSized (v : ℕ) (vs ks rs ls : List ℕ) : Type 0 where
  pub most : v ≤ 65536
  pub values : length vs ≡ v
  pub kinds : length ks ≡ v
  pub reasons : length rs ≡ v
  pub levels : length ls ≡ v

-- each code of the trail is in range
pub record Coded (v : ℕ) (trail : List ℕ) : Type 0 where
  pub below : (j : ℕ) → j < length trail → at trail j < 2 * v

-- ---- a literal of the trail

-- a reason's kind is 1 to 3
abbrev pub standing : ℕ → Bool
standing n = leb 1 n && leb n 3

-- the literal l is true, with such a reason and a level at most the current one
abbrev pub stands : Side → ℕ → Bool
stands s l =
    let n = node_at s (var_of l) in
    is_true s.values l && (standing (reason_kind n.reason) && leb n.level s.level)

-- ---- the variables met on the trail, a mark for each

-- trail literal j is of the variable x
unfoldable pub meets : List ℕ → ℕ → ℕ → Bool
meets trail x j = eqb (var_of (at trail j)) x

-- mark x is set where one of the first n trail literals is of the variable x
pub record Seen (trail : List ℕ) (n : ℕ) (seen : List Bool) : Type 0 where
  pub long : length seen ≡ 65536
  pub mark : (x : ℕ) → x < 65536 → get_or seen x false ≡ any_below (meets trail x) n

pub record Once (v : ℕ) (trail : List ℕ) (r : Bool) (seen : List Bool) : Type 0 where
  pub answer : r ≡ lits_ok trail v 0 (length trail)
  pub marks : r ≡ true → Seen trail (length trail) seen

-- a variable is unassigned, met, or has reason 4
unfoldable pub seen_ok : List Bool → List ℕ → List ℕ → ℕ → Bool
seen_ok seen values kinds x = eqb (at values x) 2 || (get_or seen x false || eqb (at kinds x) 4)
