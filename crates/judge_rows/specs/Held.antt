-- What the rows that are lent hold, as a store.
use Rattle.kinds.specs.Held.{Held}
use Rattle.judge_rows.specs.declared.Rows.{Rows}
use Rattle.judge_rows.specs.Rows.{rows_in}

abbrev pub held : Rows → Held
held r = rows_in r.vars r.rows.now r.counts.now
