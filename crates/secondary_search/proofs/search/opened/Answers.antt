use Rattle.nodes.specs.Count.{open_record, open_node, open_from-suc}
use Rattle.secondary_search.proofs.Turns.{some-left, one-less}
use Rattle.secondary_search.proofs.Ends.{meet-low, meet-high}
use Rattle.secondary_search.proofs.search.opened.Goals as goal
use Rattle.secondary_search.proofs.search.opened.Goals.{then-before, else-before+then-past}

pub loop-turn-preserved : goal.loop-turn-preserved
unfolding open_node open_record
loop-turn-preserved g c =
    elim c.if-before.branch [
      | then-before w ↦ rw (
        ← c.loop-turn.invariant,
        open_from-suc _ _ _ _ _ (some-left _ _ c.loop-turn-test.true),
        c.in-Some.ensures.0,
        ← c.in-Some.ensures.1,
        one-less,
        ← c.deeper-here.ensures.level,
        ← c.deeper-here.ensures.same,
        ← c.deeper-here.ensures.words,
        ← c.before-in-loop-turn.ensures,
        w.if-before.true,
        ← w.before-then-before.ensures,
        ← w.visit-tally.ensures,
        w.node-is,
        w.tally-is,
      )
      | else-before+then-past w ↦ rw (
        ← c.loop-turn.invariant,
        open_from-suc _ _ _ _ _ (some-left _ _ c.loop-turn-test.true),
        c.in-Some.ensures.0,
        ← c.in-Some.ensures.1,
        one-less,
        ← c.deeper-here.ensures.level,
        ← c.deeper-here.ensures.same,
        ← c.deeper-here.ensures.words,
        ← c.before-in-loop-turn.ensures,
        w.if-before.false,
        ← w.past.ensures,
        w.if-past.true,
        ← w.past-then-past.ensures,
        ← w.visit-tally-then-past.ensures,
        w.node-is,
        w.tally-is,
      )
    ]

pub returns-else-past : goal.returns-else-past
unfolding open_node open_record
returns-else-past g c =
    rw (
      ← c.loop-turn.invariant,
      open_from-suc _ _ _ _ _ (some-left _ _ c.loop-turn-test.true),
      c.in-Some.ensures.0,
      ← c.in-Some.ensures.1,
      ← c.deeper-here.ensures.level,
      ← c.deeper-here.ensures.same,
      ← c.deeper-here.ensures.words,
      ← c.before-in-loop-turn.ensures,
      c.if-before.false,
      ← c.past.ensures,
      c.if-past.false,
      ← meet-low,
      ← meet-high,
      ← c.meet_end-low.ensures,
      ← c.meet_end.ensures,
    )
