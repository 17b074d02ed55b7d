-- `free_slot` meets its contract: the slot changes places with the last live one, call by call as in the mirror. Assumes nothing.
use Rattle.whole_table.specs.Strike.{exchanged, free_slot♯, free_within}
use Rattle.whole_table.proofs.strike.free_slot.Goals as goal

pub returns : goal.returns
unfolding free_slot♯ free_within exchanged
returns c =
    rw (
      ← c.capacity-capacity.ensures,
      ← c.live.ensures,
      ← c.fewer-last.ensures,
      ← c.get-i.ensures,
      ← c.get-k.ensures,
      ← c.put.ensures,
      ← c.put-2.ensures,
      ← c.put-3.ensures,
      ← c.put-4.ensures,
      ← c.put_live.ensures,
    )
