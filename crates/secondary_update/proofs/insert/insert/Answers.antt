use Rattle.secondary_update.specs.Insert.{auxiliary_insert♯}
use Rattle.secondary_update.proofs.insert.insert.Goals as goal

pub returns-then-lacks_level-clause-is : goal.returns-then-lacks_level-clause-is
unfolding auxiliary_insert♯
returns-then-lacks_level-clause-is c = rw (← c.lacks_level.ensures.is, c.if-lacks_level.true)

pub returns-clause-is : goal.returns-clause-is
unfolding auxiliary_insert♯
returns-clause-is c =
    rw (
      ← c.lacks_level.ensures.is,
      c.if-lacks_level.false,
      ← c.auxiliary_place-at.ensures.is,
      ← c.descend.ensures.is,
    )
