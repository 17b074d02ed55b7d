use borrow.Author.Tests.{le-leb, lt-leb}
use Rattle.whole_table.specs.Insert.{entered, insert_live, insert_slot, table_insert♯}
use Rattle.whole_table.proofs.insert.insert.Goals as goal

pub returns-then-capacity-s : goal.returns-then-capacity-s
unfolding table_insert♯ insert_live insert_slot entered
returns-then-capacity-s c =
    rw (← c.requires.0, ← c.live-live.ensures, ← c.get-s.ensures, le-leb _ _ c.if-capacity-s.true)

pub returns : goal.returns
unfolding table_insert♯ insert_live insert_slot entered
returns c =
    rw (
      ← c.requires.0,
      ← c.live-live.ensures,
      ← c.get-s.ensures,
      lt-leb _ _ c.if-capacity-s.false,
      ← c.store.ensures,
      ← c.sum.ensures,
      ← c.put_live.ensures,
      ← c.insert.ensures,
    )
