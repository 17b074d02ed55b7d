-- Small steps of the way of an insertion. Assumes nothing.
use Prim.Native.Nat.{ℕ, suc, ◌+◌, ◌-◌, ◌<◌, ◌≤◌}
use mathlib.Core.Path.{◌≡◌, refl}
use mathlib.Core.Bool.{Bool, true, false}
use native.Mathlib.Omega.{arith}
use Rattle.table.specs.Layout.{arm_width, record_width}
use Rattle.table.specs.Limits.{deepest}
use Rattle.nodes.specs.Arms.{child_at}
use Rattle.nodes.specs.Weights.{unbalances}

-- the turns that are left at a turn of the way
pub turns-left : (turn : ℕ) → turn < deepest → deepest - turn ≡ suc (deepest - (turn + 1))
turns-left turn h = omega arith

-- where the records are there up to their end, so is a child's arm
pub child-there : (place end len r : ℕ) (b : Bool) → r ≡ child_at place b → place + record_width ≤ end → end ≤ len → r + arm_width ≤ len
unfolding child_at
child-there place end len r true e h k = omega (arith, e, h, k)
child-there place end len r false e h k = omega (arith, e, h, k)

pub not-mending : (w sibling : ℕ) → unbalances false w sibling ≡ false
unfolding unbalances
not-mending w sibling = refl
