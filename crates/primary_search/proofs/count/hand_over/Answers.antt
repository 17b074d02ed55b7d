use borrow.Author.Rules.{rules}
-- `hand_over` meets its contract: where the words have the whole level its records are lent by themselves, and counted as they stand among them. Assumes
-- nothing.
use Rattle.secondary_search.proofs.Lent.{level-lent, count-lent}
use borrow.Author.Tests.{le-ltb}
use Rattle.primary_search.specs.Count.{hand_over♯}
use Rattle.primary_search.proofs.count.hand_over.Goals as goal

pub returns-then-t-end : goal.returns-then-t-end
unfolding hand_over♯
returns-then-t-end c = search rules

pub count-requires : goal.count-requires
count-requires c = level-lent _ _ _ _ c.level_end-end.ensures c.if-t-end.false

pub returns : goal.returns
unfolding hand_over♯
returns c =
    rw (
      ← c.level_end-end.ensures,
      le-ltb _ _ c.if-t-end.false,
      ← c.load_auxiliary-root.ensures,
      ← c.visit.ensures,
      ← count-lent _ _ _ _ _ _ _ c.level_end-end.ensures c.if-t-end.false,
      ← c.count.ensures,
    )
