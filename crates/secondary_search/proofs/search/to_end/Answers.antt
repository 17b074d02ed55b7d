use Rattle.secondary_search.specs.End.{end_record, end_node, to_end-suc}
use Rattle.secondary_search.proofs.Turns.{some-left, one-less}
use Rattle.secondary_search.proofs.Ends.{inner-arm, outer-arm, skip-is}
use Rattle.secondary_search.proofs.search.to_end.Goals as goal
use Rattle.secondary_search.proofs.search.to_end.Goals.{then-reaches_beyond, else-reaches_beyond+else-lies_beyond}

pub returns-then-lies_beyond : goal.returns-then-lies_beyond
unfolding end_node end_record
returns-then-lies_beyond g c =
    rw (
      ← c.loop-turn.invariant,
      to_end-suc g.E.End.end _ _ _ _ _ (some-left _ _ c.loop-turn-test.true),
      c.in-Some.ensures.0,
      ← c.in-Some.ensures.1,
      inner-arm _ _ _ _ c.inner_first.ensures.inner,
      outer-arm _ _ _ _ c.inner_first.ensures.outer,
      ← c.deeper-here.ensures.level,
      ← c.deeper-here.ensures.same,
      ← c.deeper-here.ensures.words,
      ← c.reaches_beyond.ensures,
      c.if-reaches_beyond.false,
      ← c.take-tally.ensures,
      ← c.lies_beyond.ensures,
      c.if-lies_beyond.true,
      skip-is,
      ← c.skip-then-lies_beyond.ensures,
    )

pub loop-turn-preserved : goal.loop-turn-preserved
unfolding end_node end_record
loop-turn-preserved g c =
    elim c.if-reaches_beyond.branch [
      | then-reaches_beyond w ↦ rw (
        ← c.loop-turn.invariant,
        to_end-suc g.E.End.end _ _ _ _ _ (some-left _ _ c.loop-turn-test.true),
        c.in-Some.ensures.0,
        ← c.in-Some.ensures.1,
        one-less,
        inner-arm _ _ _ _ c.inner_first.ensures.inner,
        outer-arm _ _ _ _ c.inner_first.ensures.outer,
        ← c.deeper-here.ensures.level,
        ← c.deeper-here.ensures.same,
        ← c.deeper-here.ensures.words,
        ← c.reaches_beyond.ensures,
        w.if-reaches_beyond.true,
        skip-is,
        ← w.skip.ensures,
        ← w.visit-tally.ensures,
        w.node-is,
        w.tally-is,
      )
      | else-reaches_beyond+else-lies_beyond w ↦ rw (
        ← c.loop-turn.invariant,
        to_end-suc g.E.End.end _ _ _ _ _ (some-left _ _ c.loop-turn-test.true),
        c.in-Some.ensures.0,
        ← c.in-Some.ensures.1,
        one-less,
        inner-arm _ _ _ _ c.inner_first.ensures.inner,
        outer-arm _ _ _ _ c.inner_first.ensures.outer,
        ← c.deeper-here.ensures.level,
        ← c.deeper-here.ensures.same,
        ← c.deeper-here.ensures.words,
        ← c.reaches_beyond.ensures,
        w.if-reaches_beyond.false,
        ← w.take-tally.ensures,
        ← w.lies_beyond.ensures,
        w.if-lies_beyond.false,
        ← w.visit-tally-else-reaches_beyond.ensures,
        w.node-is,
        w.tally-is,
      )
    ]
