use Rattle.secondary_build.specs.Build.{build_over}
use Rattle.secondary_build.proofs.build.make_node.Goals as goal

pub returns : goal.returns
unfolding build_over
returns c =
    rw (← c.store.ensures, ← c.over.ensures)
