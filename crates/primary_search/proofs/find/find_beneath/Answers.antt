use borrow.Author.Tests.{lt-leb}
use Rattle.secondary_search.proofs.Turns.{some-left, one-less}
use Rattle.primary_search.specs.Find.{find_node, find_beneath♯-suc}
use Rattle.primary_search.proofs.find.find_beneath.Goals as goal

pub loop-turn-preserved : goal.loop-turn-preserved
unfolding find_node
loop-turn-preserved c =
    rw (
      ← c.loop-turn.invariant,
      find_beneath♯-suc _ (some-left _ _ c.loop-turn-test.true),
      one-less,
      ← c.slot-s.ensures,
      lt-leb _ _ c.if-capacity-s.false,
      ← c.is_leaf.ensures,
      c.if-is_leaf.false,
      ← c.way-way.ensures,
    )
