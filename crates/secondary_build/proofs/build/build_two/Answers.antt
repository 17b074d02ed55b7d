use Rattle.secondary_build.proofs.Few.{build♯-two}
use Rattle.secondary_build.proofs.build.build_two.Goals as goal

pub returns : goal.returns
returns c =
    rw (
      build♯-two,
      ← c.leaf-l.ensures,
      ← c.leaf-r.ensures,
      ← c.run_slot-name.ensures.is,
      ← c.make_node.ensures,
    )
