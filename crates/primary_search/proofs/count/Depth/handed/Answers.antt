use borrow.Author.Rules.{rules}
use Rattle.primary_search.proofs.Counting.{hand-over-by-y}
use Rattle.primary_search.specs.Count.{handed♯}
use borrow.Author.Tests.{lt-leb}
use Rattle.primary_search.proofs.count.Depth.handed.Goals as goal

pub returns-then-self-s : goal.returns-then-self-s
unfolding handed♯
returns-then-self-s c = search rules

pub returns-then-is_leaf : goal.returns-then-is_leaf
unfolding handed♯
returns-then-is_leaf c = search rules

pub returns : goal.returns
unfolding handed♯
returns c =
    rw (← c.slot-s.ensures, lt-leb _ _ c.if-self-s.false, ← c.is_leaf.ensures, c.if-is_leaf.false)
    (hand-over-by-y _ _ _ _ _ _ _ c.hand_over.ensures)
