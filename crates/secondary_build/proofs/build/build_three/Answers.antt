use Rattle.secondary_build.proofs.Few.{build♯-three, build_three}
use Rattle.secondary_build.proofs.build.build_three.Goals as goal

pub returns : goal.returns
unfolding build_three
returns c =
    rw (build♯-three, ← c.leaf-l.ensures, ← c.build_two-r.ensures, ← c.run_slot-name.ensures.is, ← c.make_node.ensures)
