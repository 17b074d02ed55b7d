-- The loop keeps: find_beneath♯ of the turns left, node is that of deepest, node₀.
use Prim.Native.Nat.{◌-◌}
use mathlib.Core.Path.{◌≡◌}
use Rattle.geometry.specs.Values.{mark_value}
use Rattle.table.specs.Limits.{deepest}
use Rattle.primary_search.specs.Find.{find_beneath♯}
use Rattle.primary_search.proofs.find.find_beneath.Given as goal

abbrev pub invariant-loop-turn : goal.invariant-loop-turn
invariant-loop-turn l =
    find_beneath♯ (deepest - l.turn) l.t l.capacity (mark_value l.m) l.node.0 ≡ find_beneath♯ deepest l.t l.capacity (mark_value l.m) l.initial.node.0
