-- A way read by the places of the two arms. Assumes nothing.
use Prim.Native.Nat.{ℕ, ◌+◌, ◌≤◌}
use mathlib.Core.Path.{◌≡◌, refl}
use mathlib.Core.Bool.{Bool, true, false, not}
use mathlib.Core.List.{List}
use native.Mathlib.Omega.{arith}
use Rattle.table.specs.Layout.{arm_width, record_width}
use Rattle.nodes.specs.Arms.{way, way_of, arm_at, record_at, child_at}

-- where a record is there, so is each of its arms
pub child-there : (at len : ℕ) (left : Bool) → at + record_width ≤ len → child_at at left + arm_width ≤ len
unfolding child_at
child-there at len true h = omega (arith, h)
child-there at len false h = omega (arith, h)

pub way-read : (xs : List ℕ) (at : ℕ) (left : Bool)
    → way_of (record_at xs at) left ≡ way left (arm_at xs (child_at at left)) (arm_at xs (child_at at (not left)))
unfolding way_of record_at child_at
way-read xs at true = refl
way-read xs at false = refl
