-- The loop keeps: length of t is that of t₀; collect♯ of the fuel that is left, rest, at, got, t is that of fuel, rest₀, at₀, got₀, t₀.
-- What falls in a call: fuel.
use Prim.Native.Nat.{◌-◌}
use mathlib.Core.Path.{◌≡◌}
use lib.ListN.{length}
use Rattle.nodes.specs.Collect.{left_out, collect♯}
use Rattle.nodes.proofs.collect.Collecting.+collect.Given as goal

abbrev pub decreases-collect : goal.decreases-collect
decreases-collect g l = l.fuel

abbrev pub invariant-loop-turn : goal.invariant-loop-turn
invariant-loop-turn g l =
    let tree = g.T.Tree in
    let i = l.initial in
    (length l.t ≡ length i.t) ×
    (collect♯ (l.fuel - l.turn) (tree.place l.self.tree) (tree.capacity l.self.tree) (left_out l.self.but) l.rest l.at.0 l.got l.t ≡
    collect♯ l.fuel (tree.place l.self.tree) (tree.capacity l.self.tree) (left_out l.self.but) i.rest i.at.0 i.got i.t)
