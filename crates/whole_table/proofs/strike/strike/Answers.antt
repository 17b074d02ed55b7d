use Rattle.whole_table.specs.Strike.{struck, table_strike♯}
use Rattle.whole_table.proofs.strike.strike.Goals as goal

pub returns : goal.returns
unfolding table_strike♯ struck
returns c =
    rw (← c.requires.0.0, ← c.load-m.ensures, ← c.strike-rebuilt.ensures, ← c.free_slot.ensures)
