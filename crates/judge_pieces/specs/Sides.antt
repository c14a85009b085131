-- The judging in three pieces, for the calls that are lent them together: the words with the five lists; the words with the clause list; the host's side.
use Rattle.std.specs.Prelude.{◌≡◌, Bool, true, ◌&&◌}
use Rattle.kinds.specs.Lent.{Lent}
use Rattle.kinds.specs.Held.{Held}
use Rattle.kinds.specs.Layout.{view}
use Rattle.calls.specs.Size.{vars_in_range, words_sized, tiers_sized, levels_sized, host_sized}
use Rattle.calls.specs.StorePasses.{words_pass, tiers_ok, floats_pass}
use Rattle.calls.specs.HostPasses.{levels_in_range, side_passes, long_reasons_ok}

-- 1, for the words and the clause list, and with the tier lists besides
unfoldable pub list_sized : Lent → Bool
list_sized k = vars_in_range k.state.vars && words_sized k

unfoldable pub five_sized : Lent → Bool
five_sized k = list_sized k && tiers_sized k

-- 2
unfoldable pub list_passes : Held → Bool
list_passes h = words_pass h && floats_pass h

unfoldable pub five_pass : Held → Bool
five_pass h = words_pass h && (tiers_ok h && floats_pass h)

-- 1 and 3, for the host's side
unfoldable pub side_sized : Lent → Bool
side_sized k = levels_sized k.state.vars k.host && host_sized k.state.vars k.host

unfoldable pub host_passing : Held → Bool
host_passing h = levels_in_range h.vars h.host && (side_passes h.vars h.host && long_reasons_ok h)

-- what 1 and 2 leave for the judging of the host's side
pub record Listed (k : Lent) : Type 0 where
  pub sized : list_sized k ≡ true
  pub side : side_sized k ≡ true
  pub passes : words_pass (view k) ≡ true
