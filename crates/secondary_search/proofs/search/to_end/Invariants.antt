-- The loop keeps: to_end♯ of the turns left, here, node, tally is that of deepest, at, start, from.
use Prim.Native.Nat.{◌-◌}
use mathlib.Core.Path.{◌≡◌}
use Rattle.geometry.specs.Values.{box_value}
use Rattle.table.specs.Limits.{deepest}
use Rattle.secondary_search.specs.Search.{to_end♯}
use Rattle.secondary_search.proofs.search.to_end.Given as goal

abbrev pub invariant-loop-turn : goal.invariant-loop-turn
invariant-loop-turn g l =
    to_end♯ g.S.Search.how g.S.Of.Along.Axis.along (g.S.Search.capacity l.here) (g.S.Search.words l.here) (box_value l.b) g.E.End.end (deepest - l.turn)
    (g.S.Search.base l.here) l.node.0 l.tally.0
    ≡ to_end♯ g.S.Search.how g.S.Of.Along.Axis.along (g.S.Search.capacity l.initial.here) (g.S.Search.words l.initial.here) (box_value l.b) g.E.End.end deepest
    (g.S.Search.base l.initial.here) l.initial.node.0 l.initial.tally.0
