use Rattle.nodes.specs.Ways.{way_at}
use Rattle.nodes.proofs.Ways.{child-there, way-read}
use Rattle.nodes.proofs.record.Record.way.Goals as goal

pub load-child-requires : goal.load-child-requires
load-child-requires g c = rw c.child.ensures.is (child-there _ _ _ c.requires.1)

pub load-sibling-requires : goal.load-sibling-requires
load-sibling-requires g c = rw c.child-2.ensures.is (child-there _ _ _ c.requires.1)

pub returns : goal.returns
unfolding way_at
returns g c =
    rw (
      way-read,
      ← c.load.ensures,
      ← c.below-left.ensures,
      ← c.child.ensures.is,
      ← c.child-2.ensures.is,
      ← c.load-child.ensures,
      ← c.load-sibling.ensures,
    )
