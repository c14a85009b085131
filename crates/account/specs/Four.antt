-- "four tier lists", "four counts, one for each tier": facts of the types, of which records of lists must be told.
use Rattle.std.specs.Prelude.{◌≡◌, length}
use Rattle.kinds.specs.Lent.{Lent}

-- four tier lists, and four used lengths for them
pub record Four (k : Lent) : Type 0 where
  pub lists : length k.tiers ≡ 4
  pub used : length k.state.tiers ≡ 4
