use Rattle.secondary_update.specs.Insert.{node_at, split_name, split♯}
use Rattle.secondary_update.proofs.insert.split.Goals as goal

pub returns-then-below-clause-name : goal.returns-then-below-clause-name
unfolding split_name
returns-then-below-clause-name g c = rw (← c.slot-name.ensures, ← c.load.ensures, ← c.below.ensures, c.if-below.true)

pub returns-then-below-clause-words : goal.returns-then-below-clause-words
unfolding split♯ node_at
returns-then-below-clause-words g c =
    rw (
      ← c.at.ensures,
      ← c.leaf-new.ensures,
      ← c.slot-name.ensures,
      ← c.load.ensures,
      ← c.below.ensures,
      c.if-below.true,
      ← c.store.ensures,
      ← c.over.ensures,
      ← c.store-then-below.ensures,
    )

pub returns-clause-name : goal.returns-clause-name
unfolding split_name
returns-clause-name g c = rw (← c.slot-name.ensures, ← c.load.ensures, ← c.below.ensures, c.if-below.false)

pub returns-clause-words : goal.returns-clause-words
unfolding split♯ node_at
returns-clause-words g c =
    rw (
      ← c.at.ensures,
      ← c.leaf-new.ensures,
      ← c.slot-name.ensures,
      ← c.load.ensures,
      ← c.below.ensures,
      c.if-below.false,
      ← c.store-2.ensures,
      ← c.over-2.ensures,
      ← c.store-3.ensures,
    )
