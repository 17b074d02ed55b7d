use Rattle.std.proofs.Common.{◌≡◌, ◌≢◌, ◌-◌, ◌<◌, ◌≤◌, length, arith, rules}
use Rattle.std.proofs.lemmas.Result.{err_from_is_err_and}
use Rattle.table.specs.Limits.{damaged, deepest}
use Rattle.secondary_update.proofs.Steps.{turns-left, child-there}
use Rattle.secondary_update.proofs.descent.descend.Goals as goal

-- a node of no slot
pub returns-then-capacity-name-clause-is : goal.returns-then-capacity-name-clause-is
returns-then-capacity-name-clause-is g c =
    rw (← c.loop-turn.invariant.rest, turns-left _ c.loop-turn-test.true, g.met.I.Insertion.turns _ _ _ _ _ _) (search rules)

-- a leaf
pub returns-then-is_leaf-clause-is : goal.returns-then-is_leaf-clause-is
returns-then-is_leaf-clause-is g c =
    rw (← c.loop-turn.invariant.rest, turns-left _ c.loop-turn-test.true, g.met.I.Insertion.turns _ _ _ _ _ _) (search rules)

-- the weights do not add up
pub returns-then-disagree-clause-is : goal.returns-then-disagree-clause-is
returns-then-disagree-clause-is g c =
    rw (← c.loop-turn.invariant.rest, turns-left _ c.loop-turn-test.true, g.met.I.Insertion.turns _ _ _ _ _ _) (search rules)

-- the node is built afresh
pub returns-then-unbalances-clause-is : goal.returns-then-unbalances-clause-is
returns-then-unbalances-clause-is g c =
    rw (← c.loop-turn.invariant.rest, turns-left _ c.loop-turn-test.true, g.met.I.Insertion.turns _ _ _ _ _ _) (search rules)

-- what is done at the node is damage
pub returns-in_err-grow-clause-is : goal.returns-in_err-grow-clause-is
returns-in_err-grow-clause-is g c =
    let p = err_from_is_err_and c.from_residual.result c.from_residual.ensures.1 in
    rw (← c.loop-turn.invariant.rest, turns-left _ c.loop-turn-test.true, g.met.I.Insertion.turns _ _ _ _ _ _) (search rules)

-- on to the child, one depth further down
pub loop-turn-preserved : goal.loop-turn-preserved
loop-turn-preserved g c =
    let sound : c.in_ok-grow.field-0 ≢ damaged = λ e. let z = rw c.in_ok-grow.was at c.grow.type_inv in omega (arith, z) in
    let low : c.slot-name.result < g.T.Tree.capacity c.tree-tree.result = search rules in
    let room : g.T.Tree.end c.tree-tree.result ≤ length c.args.t.now = search rules in
    record {
      long = search rules;
      tree = search rules;
      most = search rules;
      small = c.child-at.ensures.small;
      there = child-there _ _ _ _ _ c.child-at.ensures.is (g.met.T.Tree.before_end _ _ low) room;
      rest = rw (← c.loop-turn.invariant.rest, turns-left _ c.loop-turn-test.true, g.met.I.Insertion.turns _ _ _ _ _ _) (search rules);
    }

-- the turns are used up
pub returns-clause-is : goal.returns-clause-is
returns-clause-is g c =
    let none : deepest - c.loop-turn.turn ≡ 0 = omega arith in
    rw (← c.loop-turn.invariant.rest, none, g.met.I.Insertion.used_up _ _ _ _ _)
