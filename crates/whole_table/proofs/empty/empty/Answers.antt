-- `empty` meets its contract: every slot made free, then the header word by word. Assumes nothing.
use Rattle.whole_table.specs.Empty.{empty♯}
use Rattle.whole_table.proofs.empty.empty.Goals as goal

pub returns : goal.returns
unfolding empty♯
returns c =
    rw (
      ← c.free_slots.ensures,
      ← c.put_capacity.ensures,
      ← c.put_live.ensures,
      ← c.none.ensures,
      ← c.store.ensures,
      ← c.put_open.ensures,
    )
