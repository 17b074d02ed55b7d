use borrow.Author.Tests.{lt-leb}
use Rattle.secondary_search.specs.List.{walk_node, walk_record, walk♯-suc}
use Rattle.secondary_search.proofs.list.Listing.+walk.Goals as goal

pub returns : goal.returns
unfolding walk_node walk_record
returns t c =
    rw (
      walk♯-suc _ c.if-fuel-eq0.false,
      ← c.visits.ensures,
      lt-leb _ _ c.if-self-visits.false,
      ← c.slot-s.ensures,
      lt-leb _ _ c.if-self-s.false,
      ← c.is_leaf.ensures,
      c.if-is_leaf.false,
      ← c.load-p.ensures,
      ← c.visit-here.ensures,
      ← c.walk-half.ensures,
      ← c.walk.ensures,
    )
