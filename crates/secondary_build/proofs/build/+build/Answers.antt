use native.Mathlib.Omega.{arith}
use Rattle.secondary_build.specs.Build.{build_node, build♯-leaf, build♯-node}
use Rattle.secondary_build.proofs.build.+build.Goals as goal

pub returns-in-1 : goal.returns-in-1
returns-in-1 t c = rw (build♯-leaf c.args.n (omega arith), ← c.leaf.ensures)

pub returns-in_default : goal.returns-in_default
unfolding build_node
returns-in_default t c =
    rw (
      build♯-node c.args.n (omega arith),
      ← c.build-l.ensures,
      ← c.build-r.ensures,
      ← c.run_slot-name.ensures.is,
      ← c.make_node.ensures,
    )
