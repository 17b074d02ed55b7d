use borrow.Author.Tests.{le-leb, lt-leb}
use Rattle.secondary_build.specs.Copy.{copy_node, copy_record, copy♯-suc, copy♯-zero}
use Rattle.secondary_build.proofs.copy.+copy.Goals as goal

pub returns-then-fuel-eq0 : goal.returns-then-fuel-eq0
returns-then-fuel-eq0 t c = rw (copy♯-zero _ c.if-fuel-eq0.true)

pub returns-then-is_leaf : goal.returns-then-is_leaf
unfolding copy_node
returns-then-is_leaf t c = rw (copy♯-suc _ c.if-fuel-eq0.false, ← c.is_leaf.ensures, c.if-is_leaf.true)

pub returns-then-from-name : goal.returns-then-from-name
unfolding copy_node
returns-then-from-name t c =
    rw (
      copy♯-suc _ c.if-fuel-eq0.false,
      ← c.is_leaf.ensures,
      c.if-is_leaf.false,
      ← c.slot-name.ensures,
      le-leb _ _ c.if-from-name.true,
    )

pub returns : goal.returns
unfolding copy_node copy_record
returns t c =
    rw (
      copy♯-suc _ c.if-fuel-eq0.false,
      ← c.is_leaf.ensures,
      c.if-is_leaf.false,
      ← c.slot-name.ensures,
      lt-leb _ _ c.if-from-name.false,
      ← c.load.ensures,
      ← c.store.ensures,
      ← c.copy.ensures,
      ← c.copy-2.ensures,
    )
