-- The loop keeps: opened♯ of the turns left, here, node, tally is that of deepest, at, start, from.
use Prim.Native.Nat.{◌-◌}
use mathlib.Core.Path.{◌≡◌}
use Rattle.geometry.specs.Values.{box_value}
use Rattle.table.specs.Limits.{deepest}
use Rattle.secondary_search.specs.Search.{opened♯}
use Rattle.secondary_search.proofs.search.opened.Given as goal

abbrev pub invariant-loop-turn : goal.invariant-loop-turn
invariant-loop-turn g l =
    opened♯ g.S.Search.how g.S.Of.Along.Axis.along (g.S.Search.capacity l.here) (g.S.Search.words l.here) (box_value l.b) (deepest - l.turn)
    (g.S.Search.base l.here) l.node.0 l.tally.0
    ≡ opened♯ g.S.Search.how g.S.Of.Along.Axis.along (g.S.Search.capacity l.initial.here) (g.S.Search.words l.initial.here) (box_value l.b) deepest
    (g.S.Search.base l.initial.here) l.initial.node.0 l.initial.tally.0
