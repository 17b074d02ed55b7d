use borrow.Author.Tests.{lt-leb}
use Rattle.secondary_search.specs.List.{list_node, list_record, list♯-suc}
use Rattle.secondary_search.proofs.list.Listing.+beneath.Goals as goal

pub returns : goal.returns
unfolding list_node list_record
returns t c =
    rw (
      list♯-suc _ c.if-fuel-eq0.false,
      ← c.visits.ensures,
      lt-leb _ _ c.if-self-visits.false,
      ← c.inside.ensures,
      c.if-inside.false,
      ← c.visit-here.ensures,
      ← c.clear.ensures,
      c.if-clear.false,
      ← c.slot-s.ensures,
      lt-leb _ _ c.if-self-s.false,
      ← c.load-p.ensures,
      ← c.beneath-half.ensures,
      ← c.beneath.ensures,
    )
